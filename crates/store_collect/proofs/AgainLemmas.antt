-- A collection that is cut and run again ends as one that isn't cut.
use Rattle.std.proofs.Common.{◌≡◌, ◌≢◌, ℕ, ◌==◌, ◌||◌, Bool, true, false, cond, List, [], ◌∷◌, ◌++◌, filter, map, Option, None, Some, IsSome, is_some, option_map, refl, sym, ap, subst, ◌∙◌, inl, inr}
use Rattle.std.proofs.lemmas.Bool.{both_ways, cases_Bool, or_cases}
use Rattle.std.proofs.lemmas.List.Folds.{list_any-append}
use Rattle.std.specs.FinMap.{get, remove}
use Rattle.std.specs.List.{find}
use Rattle.std.specs.List.Sorted.{IsStrictlySortedBy}
use Rattle.std.specs.Option.{option_map_or, option_or}
use Rattle.std.specs.Ordering.{nat_cmp}
use Rattle.std.specs.Prelude.{option_and_then}
use Rattle.generations.specs.declared.gens.Gen.{Gen}
use Rattle.generations.specs.declared.gens.Gens.{Gens}
use Rattle.generations.specs.Gens.{listed_at}
use Rattle.generations.specs.Places.{generation_at, link_path}
use Rattle.host_trait.specs.Leaf.{open_file}
use Rattle.host_trait.specs.declared.leaf.LeafKind.{LeafKind}
use Rattle.host_trait.specs.World.{WorldState, is_path, seen, stage}
use Rattle.host_trait.proofs.Fronts.{begins}
use Rattle.host_trait.proofs.NameOrder.{name_exact, name_from}
use Rattle.host_trait.proofs.Places.{alike, same_or_other}
use Rattle.host_trait.proofs.Seen.{get_removed_here, get_removed_other}
use Rattle.switch_names.specs.Names.{Name, has, is_name}
use Rattle.switch_names.specs.SystemName.{store_folder}
use Rattle.tree_put.specs.Sequence.{without_places}
use Rattle.tree_put.proofs.LeftLemmas.{gone_at}
use Rattle.tree_put.proofs.PutLemmas.{apart_ne}
use Rattle.tree_put.proofs.SequenceLemmas.{places_manager}
use Rattle.boot_entries.specs.declared.boot_texts.BootFile.{BootFile}
use Rattle.boot_entries.specs.declared.boot_texts.BootTexts.{BootTexts}
use Rattle.boot_entries.specs.BootPart.{boot_end, entry_end, loader_end}
use Rattle.boot_entries.specs.Entries.{loader_text}
use Rattle.boot_entries.specs.Places.{loader_path, numbered, owns_boot}
use Rattle.boot_entries.specs.Steps.{AreEntries, with_menu}
use Rattle.boot_entries.specs.Texts.{entry_of}
use Rattle.boot_entries.proofs.AtEndLemmas.{at_end, loader_not_entry, loader_unnumbered}
use Rattle.boot_entries.proofs.EndLemmas.{boot_owned, none_gone, only_law}
use Rattle.boot_entries.proofs.PutLemmas.{place_apart}
use Rattle.store_live.specs.StorePaths.{IsStored}
use Rattle.store_collect.specs.declared.collection.Collection.{Collection}
use Rattle.store_collect.specs.Again.{CollectedAgainLaw, CutCollectionsLaw}
use Rattle.store_collect.specs.Collection.{IsCollectionOf, loader_places}
use Rattle.store_collect.specs.Kept.{gens_kept, is_current_of, older}
use Rattle.store_collect.specs.Steps.{IsCollecting, removals}
use Rattle.store_collect.proofs.AgainGens.{again_still, again_was, kept_again, kept_stands}
use Rattle.store_collect.proofs.AgainLive.{dead_before, dead_still, owned_outside, put_places}
use Rattle.store_collect.proofs.BootSystemLemmas.{outside}
use Rattle.store_collect.proofs.EntryLemmas.{are_entries, kept_gens}
use Rattle.store_collect.proofs.FewerGens.{listed_passing}
use Rattle.store_collect.proofs.GenLists.{found_among, last_of, rising_apart, whole, numbers_of}
use Rattle.store_collect.proofs.LawLemmas.{in_both, menu_made, store_kept}
use Rattle.store_collect.proofs.MomentLemmas.{dead_leaf, kept_live, leaf_dead, leaves_inside, links_outside, passed, same_entry, same_manager, store_either, untouched}
use Rattle.store_collect.proofs.WholeLemmas.{link_unowned}

-- ---- worlds that are the same but for the stage

seen_alike : (v w : WorldState) → ((q : Name) → q ≢ stage → get v.leaves q ≡ get w.leaves q) → v.manager ≡ w.manager → seen v ≡ seen w
seen_alike v w same manager =
    let leaves : remove v.leaves stage ≡ remove w.leaves stage = alike _ _ at in
    λ i. record { leaves = leaves i; manager = manager i; written = [] }
  where
    at : (q : Name) → get (remove v.leaves stage) q ≡ get (remove w.leaves stage) q
    at q = elim (same_or_other q stage) [
      | inl here ↦ subst (λ p. get (remove v.leaves stage) p ≡ get (remove w.leaves stage) p) (sym here) (get_removed_here v.leaves stage ∙ sym (get_removed_here w.leaves stage))
      | inr other ↦ get_removed_other v.leaves stage q other ∙ same q (λ is. both_ways _ other (name_from q stage is)) ∙ sym (get_removed_other w.leaves stage q other)
    ]

nothing : (b : Bool) → cond {A = Option LeafKind} b None None ≡ None
nothing true = refl
nothing false = refl

or_none : (a b : Bool) → b ≡ false → (a || b) ≡ a
or_none true b none = refl
or_none false b none = none

-- ---- the target of a generation that is kept

listed_joined : (one other : List Gen) (n : ℕ) → listed_at (one ++ other) n ≡ option_or (listed_at one n) (listed_at other n)
listed_joined [] other n = refl
listed_joined (gen ∷ one) other n = by (gen.number == n) (listed_joined one other n)
  where
    by : (b : Bool) → listed_at (one ++ other) n ≡ option_or (listed_at one n) (listed_at other n) →
        option_map (λ (g : Gen). g.target) (cond b (Some gen) (find (λ (g : Gen). g.number == n) (one ++ other)))
        ≡ option_or (option_map (λ (g : Gen). g.target) (cond b (Some gen) (find (λ (g : Gen). g.number == n) one))) (listed_at other n)
    by true rest = refl
    by false rest = rest

module _ (keep : ℕ) (gens : Gens) (n : ℕ) (target : Option Name) where
  kept_target : (b : Bool) (first last : Option (Option Name)) → (IsSome first → IsSome last → ⊥) → option_or (cond b first None) last ≡ Some target → option_or first last ≡ Some target
  kept_target true first last apart is = is
  kept_target false None last apart is = is
  kept_target false (Some x) (Some y) apart is = absurd (apart refl refl)
  kept_target false (Some x) None apart is = absurd cc

  -- a generation that is kept has its target among all
  kept_listed : ((IsSome (listed_at (older keep gens) n) → IsSome (listed_at (last_of keep gens) n) → ⊥)) → listed_at (gens_kept keep gens).list n ≡ Some target → listed_at gens.list n ≡ Some target
  kept_listed apart is =
      let current : ℕ → Bool = λ k. option_map_or (λ c. k == c) gens.current false in
      ap (λ list. listed_at list n) (sym (whole keep gens)) ∙ listed_joined (older keep gens) (last_of keep gens) n
      ∙ kept_target (current n) (listed_at (older keep gens) n) (listed_at (last_of keep gens) n) apart
      (ap (λ o. option_or o (listed_at (last_of keep gens) n)) (sym (listed_passing current (older keep gens) n)) ∙ sym (listed_joined (filter (is_current_of gens) (older keep gens)) (last_of keep gens) n) ∙ is)

-- ---- the end of a collection, place by place

module _ (keep : ℕ) (one : Collection) (w : WorldState) (is : IsCollectionOf keep w one) where
  entries : AreEntries one.texts.entries
  entries = are_entries keep w one is

  abbrev end_world : WorldState
  end_world = without_places (removals one) (with_menu one.texts w)

  removed_at : (q : Name) (b : Bool) → has (removals one) q ≡ b → get end_world.leaves q ≡ cond b None (get (with_menu one.texts w).leaves q)
  removed_at q b removed = gone_at (removals one) (with_menu one.texts w) q ∙ ap (λ c. cond c None (get (with_menu one.texts w).leaves q)) removed

  inside_end : (q : Name) → q ≢ stage → begins store_folder q ≡ true → get end_world.leaves q ≡ cond (has one.leaves q) None (get w.leaves q)
  inside_end q other inside =
      removed_at q (has one.leaves q) (list_any-append (is_name q) one.links one.leaves ∙ ap (λ b. b || has one.leaves q) (links_outside keep one w is q inside))
      ∙ ap (λ o. cond (has one.leaves q) None o) (store_kept keep one w entries is (with_menu one.texts w) q (menu_made one.texts w) inside other)

  outside_end : (q : Name) → q ≢ stage → begins store_folder q ≡ false → owns_boot q ≡ false → get end_world.leaves q ≡ cond (has one.links q) None (get w.leaves q)
  outside_end q other away free =
      removed_at q (has one.links q) (list_any-append (is_name q) one.links one.leaves ∙ or_none (has one.links q) (has one.leaves q) (leaves_inside keep one w is q away))
      ∙ ap (λ o. cond (has one.links q) None o) ((only_law (gens_kept keep is.gens) one.texts w (with_menu one.texts w) entries is.planned.texts (menu_made one.texts w)).leaves q free other)

  no_owned : (q : Name) → owns_boot q ≡ true → (list : List Gen) → has (map (λ (gen : Gen). link_path gen.number) list) q ≡ true → ⊥
  no_owned q own [] there = absurd cc
  no_owned q own (gen ∷ list) there = elim (or_cases (is_name q (link_path gen.number)) _ there) [
    | inl path ↦ both_ways _ (link_unowned gen.number) (subst (λ p. owns_boot p ≡ true) (name_exact q (link_path gen.number) path) own)
    | inr later ↦ no_owned q own list later
  ]

  owned_links : (q : Name) → owns_boot q ≡ true → has one.links q ≡ false
  owned_links q own = elim (cases_Bool (has one.links q)) [
    | inl there ↦ absurd (no_owned q own _ (subst (λ l. has l q ≡ true) is.planned.links there))
    | inr apart ↦ apart
  ]

  menu_end : (q : Name) → owns_boot q ≡ true → get end_world.leaves q ≡ boot_end (gens_kept keep is.gens) w.leaves q
  menu_end q own =
      removed_at q false (list_any-append (is_name q) one.links one.leaves ∙ or_none (has one.links q) (has one.leaves q) (leaves_inside keep one w is q (owned_outside q own)) ∙ owned_links q own)
      ∙ at_end (gens_kept keep is.gens) one.texts w (with_menu one.texts w) (kept_gens keep w.leaves is.gens is.stand).list entries is.planned.texts refl q own

  end_manager : end_world.manager ≡ w.manager
  end_manager =
      places_manager (removals one) (with_menu one.texts w)
      ∙ (only_law (gens_kept keep is.gens) one.texts w (with_menu one.texts w) entries is.planned.texts (menu_made one.texts w)).manager refl

  -- where no generation is the current one, what the boot loader reads first isn't put
  no_entries : (files : List BootFile) → AreEntries files → has (map (λ (file : BootFile). file.at) files) loader_path ≡ true → ⊥
  no_entries [] are there = absurd cc
  no_entries (file ∷ files) are there = elim (or_cases (is_name loader_path file.at) _ there) [
    | inl same ↦ loader_not_entry are.0.0 (name_exact loader_path file.at same ∙ are.0.2)
    | inr later ↦ no_entries files are.1 later
  ]

  no_places : (loader : Option (List ℕ)) → loader ≡ None → has (loader_places loader) loader_path ≡ true → ⊥
  no_places None none there = absurd cc
  no_places (Some text) none there = absurd cc

  loader_apart : is.gens.current ≡ None → passed one loader_path ≡ false
  loader_apart none = elim (cases_Bool (passed one loader_path)) [
    | inr apart ↦ apart
    | inl there ↦ absurd (elim (in_both one.links (one.texts.gone ++ put_places one.texts) loader_path there) [
      | inl link ↦ both_ways _ (owned_links loader_path (boot_owned loader_path (inl refl))) link
      | inr more ↦ elim (in_both one.texts.gone (put_places one.texts) loader_path more) [
        | inl gone ↦ both_ways _ (none_gone w.leaves (gens_kept keep is.gens).list loader_path loader_unnumbered) (subst (λ l. has l loader_path ≡ true) (ap (λ (texts : BootTexts). texts.gone) is.planned.texts) gone)
        | inr put ↦ elim (in_both (map (λ (file : BootFile). file.at) one.texts.entries) (loader_places one.texts.loader) loader_path put) [
          | inl entry ↦ no_entries one.texts.entries entries entry
          | inr loader ↦ no_places one.texts.loader (ap (λ (texts : BootTexts). texts.loader) is.planned.texts ∙ ap (option_map loader_text) none) loader
        ]
      ]
    ])
  ]

-- ---- the same end

module _ (keep : ℕ) (one : Collection) (w m : WorldState) (is : IsCollectionOf keep w one) (moment : IsCollecting one w m) (again : Collection) (also : IsCollectionOf keep m again) where
  module _ (q : Name) (other : q ≢ stage) where
    store_same : begins store_folder q ≡ true → cond (has again.leaves q) None (get m.leaves q) ≡ cond (has one.leaves q) None (get w.leaves q)
    store_same inside = elim (cases_Bool (has one.leaves q)) [
      | inl there ↦ removed there (get m.leaves q) refl ∙ sym (ap (λ b. cond b None (get w.leaves q)) there)
      | inr apart ↦
          let same : get m.leaves q ≡ get w.leaves q = elim (store_either keep one w m is moment q other inside) [
            | inl same ↦ same
            | inr both ↦ absurd (both_ways _ apart both.0)
          ] in
          ap (λ b. cond b None (get m.leaves q)) (stays apart same) ∙ same ∙ sym (ap (λ b. cond b None (get w.leaves q)) apart)
    ]
      where
        removed : has one.leaves q ≡ true → (o : Option LeafKind) → get m.leaves q ≡ o → cond (has again.leaves q) None (get m.leaves q) ≡ None
        removed there None none = ap (λ o. cond (has again.leaves q) None o) none ∙ nothing (has again.leaves q)
        removed there (Some leaf) stands =
            let dead = leaf_dead keep one w is q there in
            let stored : IsStored m.leaves dead.0 = record { path = dead.1.stored.path; leaf = q; stands = ap is_some stands; inside = dead.2 } in
            ap (λ b. cond b None (get m.leaves q))
            (dead_leaf keep again m also dead.0 q (dead_still keep one w m is moment again also dead.0 stored dead.1) dead.2 record { stands = ap is_some stands; other = other })

        stays : has one.leaves q ≡ false → get m.leaves q ≡ get w.leaves q → has again.leaves q ≡ false
        stays apart same = elim (cases_Bool (has again.leaves q)) [
          | inr none ↦ none
          | inl there ↦
              let dead = leaf_dead keep again m also q there in
              absurd (both_ways _ apart
              (dead_leaf keep one w is dead.0 q (dead_before keep one w m is moment again also dead.0 dead.1) dead.2 record { stands = subst IsSome same dead.3.stands; other = other }))
        ]

    outside_same : begins store_folder q ≡ false → owns_boot q ≡ false → cond (has again.links q) None (get m.leaves q) ≡ cond (has one.links q) None (get w.leaves q)
    outside_same away free = elim (cases_Bool (has one.links q)) [
      | inl there ↦ removed there (get m.leaves q) refl ∙ sym (ap (λ b. cond b None (get w.leaves q)) there)
      | inr apart ↦
          let same : get m.leaves q ≡ get w.leaves q = elim (outside keep one w m (are_entries keep w one is) is moment q free other away) [
            | inl same ↦ same
            | inr both ↦ absurd (both_ways _ apart both.0)
          ] in
          ap (λ b. cond b None (get m.leaves q)) (stays apart) ∙ same ∙ sym (ap (λ b. cond b None (get w.leaves q)) apart)
    ]
      where
        removed : has one.links q ≡ true → (o : Option LeafKind) → get m.leaves q ≡ o → cond (has again.links q) None (get m.leaves q) ≡ None
        removed there None none = ap (λ o. cond (has again.links q) None o) none ∙ nothing (has again.links q)
        removed there (Some leaf) stands = ap (λ b. cond b None (get m.leaves q)) (again_still keep one w m is moment again also q (ap is_some stands) there)

        stays : has one.links q ≡ false → has again.links q ≡ false
        stays apart = elim (cases_Bool (has again.links q)) [
          | inr none ↦ none
          | inl there ↦ absurd (both_ways _ apart (again_was keep one w m is moment again also q there))
        ]

  -- ---- the boot menu

  abbrev kept : Gens
  kept = gens_kept keep is.gens

  loader_same : (current : Option ℕ) → is.gens.current ≡ current → loader_end current m.leaves ≡ loader_end current w.leaves
  loader_same (Some n) known = refl
  loader_same None none =
      untouched keep one w m is moment loader_path (apart_ne loader_path stage (place_apart loader_path (inl refl))) (owned_outside loader_path (boot_owned loader_path (inl refl)))
      (loader_apart keep one w is none)

  entry_same : (n : ℕ) → entry_end kept.list m.leaves n ≡ entry_end kept.list w.leaves n
  entry_same n = by (listed_at kept.list n) refl
    where
      by : (o : Option (Option Name)) → listed_at kept.list n ≡ o →
          option_map (λ (system : Name). open_file (entry_of m.leaves n system).bytes) (option_and_then (λ target. target) o) ≡ option_map (λ (system : Name). open_file (entry_of w.leaves n system).bytes) (option_and_then (λ target. target) o)
      by None none = refl
      by (Some None) listed = refl
      by (Some (Some system)) listed =
          let among = found_among kept.list n (ap is_some listed) in
          let apart = λ (first : IsSome (listed_at (older keep is.gens) n)) (last : IsSome (listed_at (last_of keep is.gens) n)).
          rising_apart n (older keep is.gens) (last_of keep is.gens) (subst (λ list. IsStrictlySortedBy nat_cmp (numbers_of list)) (sym (whole keep is.gens)) is.stand.rising)
          (found_among (older keep is.gens) n first) (found_among (last_of keep is.gens) n last) in
          let stands : generation_at w.leaves n ≡ Some (Some system) = sym (is.stand.exact n) ∙ kept_listed keep is.gens n (Some system) apart listed in
          let live = kept_live keep one w is n system (kept_stands keep one w m is moment n among).0 stands in
          ap (λ (file : BootFile). Some (open_file file.bytes)) (same_entry keep one w m is moment system live.0 live.1 n)

  menu_same : (q : Name) → owns_boot q ≡ true → boot_end kept m.leaves q ≡ boot_end kept w.leaves q
  menu_same q own = elim (cases_Bool (is_path q loader_path)) [
    | inl here ↦
        ap (λ b. cond b (loader_end kept.current m.leaves) (option_map_or (entry_end kept.list m.leaves) (numbered q) (get m.leaves q))) here ∙ loader_same is.gens.current refl
        ∙ sym (ap (λ b. cond b (loader_end kept.current w.leaves) (option_map_or (entry_end kept.list w.leaves) (numbered q) (get w.leaves q))) here)
    | inr away ↦
        ap (λ b. cond b (loader_end kept.current m.leaves) (option_map_or (entry_end kept.list m.leaves) (numbered q) (get m.leaves q))) away
        ∙ by (numbered q) (sym (ap (λ b. b || is_some (numbered q)) away) ∙ own)
        ∙ sym (ap (λ b. cond b (loader_end kept.current w.leaves) (option_map_or (entry_end kept.list w.leaves) (numbered q) (get w.leaves q))) away)
  ]
    where
      by : (o : Option ℕ) → is_some o ≡ true → option_map_or (entry_end kept.list m.leaves) o (get m.leaves q) ≡ option_map_or (entry_end kept.list w.leaves) o (get w.leaves q)
      by None some = absurd (both_ways _ refl some)
      by (Some n) some = entry_same n

  -- ---- all

  end_same : (q : Name) → q ≢ stage → get (without_places (removals again) (with_menu again.texts m)).leaves q ≡ get (without_places (removals one) (with_menu one.texts w)).leaves q
  end_same q other = elim (cases_Bool (owns_boot q)) [
    | inl own ↦
        menu_end keep again m also q own ∙ ap (λ (gens : Gens). boot_end gens m.leaves q) (kept_again keep one w m is moment again also) ∙ menu_same q own ∙ sym (menu_end keep one w is q own)
    | inr free ↦ elim (cases_Bool (begins store_folder q)) [
      | inl inside ↦ inside_end keep again m also q other inside ∙ store_same q other inside ∙ sym (inside_end keep one w is q other inside)
      | inr away ↦ outside_end keep again m also q other away free ∙ outside_same q other away free ∙ sym (outside_end keep one w is q other away free)
    ]
  ]

  same_end : seen (without_places (removals again) (with_menu again.texts m)) ≡ seen (without_places (removals one) (with_menu one.texts w))
  same_end = seen_alike (without_places (removals again) (with_menu again.texts m)) (without_places (removals one) (with_menu one.texts w)) end_same (end_manager keep again m also ∙ same_manager keep one w m is moment ∙ sym (end_manager keep one w is))

pub collected_again : CollectedAgainLaw
collected_again keep one again w m v is moment also =
    let same = same_end keep one w m is moment again also in (λ ended. ended ∙ same, λ ended. ended ∙ sym same)

pub cut_collections : CutCollectionsLaw
cut_collections keep [] w v ended = ended
cut_collections keep (m ∷ cuts) w v runs =
    let cut = runs.0 in
    let last = cut_collections keep cuts m v runs.1 in
    record { collection = cut.collection; planned = cut.planned; end = (collected_again keep cut.collection last.collection w m v cut.planned cut.moment last.planned).0 last.end }
