-- What is live at a moment of a collection: the same store paths.
use Rattle.std.proofs.Common.{◌≡◌, ℕ, not, Bool, true, false, List, [], ◌∷◌, ◌++◌, map, Option, None, Some, IsSome, is_some, option_map, refl, sym, ap, subst, ◌∙◌, inl, inr}
use Rattle.std.proofs.lemmas.Bool.{and_from, and_parts, both_ways, cases_Bool, not-true, not_from_false, or_left, or_right}
use Rattle.std.proofs.lemmas.List.Folds.{list_any-append}
use Rattle.std.specs.FinMap.{get}
use Rattle.std.specs.List.{cons_option}
use Rattle.std.specs.Option.{option_map_or}
use Rattle.generations.specs.declared.gens.Gen.{Gen}
use Rattle.generations.specs.declared.gens.Gens.{Gens}
use Rattle.host_trait.specs.World.{Leaves, WorldState, is_path, listed}
use Rattle.host_trait.proofs.Fronts.{begins}
use Rattle.host_trait.proofs.NameOrder.{has_filter}
use Rattle.switch_names.specs.Names.{Name, has, is_name}
use Rattle.switch_names.specs.SystemName.{store_folder}
use Rattle.boot_entries.specs.declared.boot_texts.BootFile.{BootFile}
use Rattle.boot_entries.specs.declared.boot_texts.BootTexts.{BootTexts}
use Rattle.boot_entries.specs.Entries.{loader_text}
use Rattle.boot_entries.specs.Places.{entries_folder, loader_path, numbered, owns_boot}
use Rattle.boot_entries.specs.Steps.{AreEntries}
use Rattle.boot_entries.specs.Texts.{entries_of, entry_of, gone_of, has_target, is_gone_by}
use Rattle.boot_entries.proofs.OwnLemmas.{store_unowned}
use Rattle.store_names.specs.Occurs.{Stands}
use Rattle.store_live.specs.Live.{IsDead, IsRoot, Live}
use Rattle.store_live.specs.StorePaths.{IsPlace, IsStored, is_at}
use Rattle.store_live.proofs.PathLemmas.{inside_begins, is_in_listed, listed_is, no_stage}
use Rattle.store_collect.specs.declared.collection.Collection.{Collection}
use Rattle.store_collect.specs.Again.{LiveStaysLaw}
use Rattle.store_collect.specs.Collection.{IsCollectionOf, loader_places}
use Rattle.store_collect.specs.Kept.{gens_kept}
use Rattle.store_collect.specs.Steps.{IsCollecting}
use Rattle.store_collect.proofs.AgainGens.{again_still, again_was, kept_again}
use Rattle.store_collect.proofs.EntryLemmas.{are_entries}
use Rattle.store_collect.proofs.LawLemmas.{in_both, in_store_of, live_kept}
use Rattle.store_collect.proofs.MomentLemmas.{passed, same_manager, store_either, untouched}

-- ---- what is passed over

-- the places at which a boot menu puts its files
abbrev pub put_places : BootTexts → List Name
put_places texts = map (λ (file : BootFile). file.at) texts.entries ++ loader_places texts.loader

module _ (one : Collection) (q : Name) where
  passed_link : has one.links q ≡ true → passed one q ≡ true
  passed_link there = list_any-append (is_name q) one.links (one.texts.gone ++ put_places one.texts) ∙ or_left (has one.links q) (has (one.texts.gone ++ put_places one.texts) q) there

  passed_more : has (one.texts.gone ++ put_places one.texts) q ≡ true → passed one q ≡ true
  passed_more there = list_any-append (is_name q) one.links (one.texts.gone ++ put_places one.texts) ∙ or_right (has one.links q) (has (one.texts.gone ++ put_places one.texts) q) there

  passed_gone : has one.texts.gone q ≡ true → passed one q ≡ true
  passed_gone there = passed_more (list_any-append (is_name q) one.texts.gone (put_places one.texts) ∙ or_left (has one.texts.gone q) (has (put_places one.texts) q) there)

  passed_put : has (put_places one.texts) q ≡ true → passed one q ≡ true
  passed_put there = passed_more (list_any-append (is_name q) one.texts.gone (put_places one.texts) ∙ or_right (has one.texts.gone q) (has (put_places one.texts) q) there)

-- an entry that goes is a numbered one that stands, whose number has no target
gone_parts : (leaves : Leaves) (list : List Gen) (q : Name) → has (gone_of leaves list) q ≡ true → (is_gone_by (has_target list) q ≡ true) × (is_at entries_folder q ≡ true) × IsPlace leaves q
gone_parts leaves list q there =
    let parts = and_parts _ (has (listed entries_folder leaves) q) (sym (has_filter (is_gone_by (has_target list)) (listed entries_folder leaves) q) ∙ there) in
    let place = listed_is entries_folder leaves q parts.1 in
    (parts.0, place.0, place.1)

gone_from : (leaves : Leaves) (list : List Gen) (q : Name) → is_gone_by (has_target list) q ≡ true → is_at entries_folder q ≡ true → IsPlace leaves q → has (gone_of leaves list) q ≡ true
gone_from leaves list q gone at place =
    has_filter (is_gone_by (has_target list)) (listed entries_folder leaves) q ∙ and_from (is_gone_by (has_target list) q) (has (listed entries_folder leaves) q) gone (is_in_listed entries_folder leaves q at place)

-- what goes has a number
gone_numbered : (among : ℕ → Bool) (number : Option ℕ) → not (option_map_or among number true) ≡ true → is_some number ≡ true
gone_numbered among None gone = absurd (both_ways false refl gone)
gone_numbered among (Some n) gone = refl

-- what a boot menu owns lies outside the store
pub owned_outside : (q : Name) → owns_boot q ≡ true → begins store_folder q ≡ false
owned_outside q own = elim (cases_Bool (begins store_folder q)) [
  | inl inside ↦ absurd (both_ways _ (store_unowned q (in_store_of q inside)) own)
  | inr away ↦ away
]

-- the places of entries are told by the generations alone
places_same : (one other : Leaves) (list : List Gen) → map (λ (file : BootFile). file.at) (entries_of one list) ≡ map (λ (file : BootFile). file.at) (entries_of other list)
places_same one other [] = refl
places_same one other (gen ∷ list) = by gen.target (places_same one other list)
  where
    by : (target : Option Name) → map (λ (file : BootFile). file.at) (entries_of one list) ≡ map (λ (file : BootFile). file.at) (entries_of other list) →
        map (λ (file : BootFile). file.at) (cons_option (option_map (entry_of one gen.number) target) (entries_of one list)) ≡ map (λ (file : BootFile). file.at) (cons_option (option_map (entry_of other gen.number) target) (entries_of other list))
    by None rest = rest
    by (Some system) rest = ap (λ (places : List Name). (entry_of one gen.number system).at ∷ places) rest

module _ (keep : ℕ) (one : Collection) (w m : WorldState) (is : IsCollectionOf keep w one) (moment : IsCollecting one w m) (again : Collection) (also : IsCollectionOf keep m again) where
  entries : AreEntries one.texts.entries
  entries = are_entries keep w one is

  kept : gens_kept keep also.gens ≡ gens_kept keep is.gens
  kept = kept_again keep one w m is moment again also

  -- the same places are put
  same_put : put_places again.texts ≡ put_places one.texts
  same_put =
      ap put_places also.planned.texts
      ∙ ap (λ (gens : Gens). map (λ (file : BootFile). file.at) (entries_of m.leaves gens.list) ++ loader_places (option_map loader_text gens.current)) kept
      ∙ ap (λ (places : List Name). places ++ loader_places (option_map loader_text is.gens.current)) (places_same m.leaves w.leaves (gens_kept keep is.gens).list) ∙ sym (ap put_places is.planned.texts)

  again_gone : again.texts.gone ≡ gone_of m.leaves (gens_kept keep is.gens).list
  again_gone = ap (λ (texts : BootTexts). texts.gone) also.planned.texts ∙ ap (λ (gens : Gens). gone_of m.leaves gens.list) kept

  one_gone : one.texts.gone ≡ gone_of w.leaves (gens_kept keep is.gens).list
  one_gone = ap (λ (texts : BootTexts). texts.gone) is.planned.texts

  -- a place with a leaf is passed over as it was
  passed_still : (q : Name) → IsSome (get m.leaves q) → passed one q ≡ true → passed again q ≡ true
  passed_still q stands there = elim (in_both one.links (one.texts.gone ++ put_places one.texts) q there) [
    | inl link ↦ passed_link again q (again_still keep one w m is moment again also q stands link)
    | inr more ↦ elim (in_both one.texts.gone (put_places one.texts) q more) [
      | inl gone ↦
          let parts = gone_parts w.leaves (gens_kept keep is.gens).list q (subst (λ l. has l q ≡ true) one_gone gone) in
          passed_gone again q (subst (λ l. has l q ≡ true) (sym again_gone) (gone_from m.leaves (gens_kept keep is.gens).list q parts.0 parts.1 record { stands = stands; other = parts.2.other }))
      | inr put ↦ passed_put again q (subst (λ l. has l q ≡ true) (sym same_put) put)
    ]
  ]

  passed_before : (q : Name) → passed again q ≡ true → passed one q ≡ true
  passed_before q there = elim (in_both again.links (again.texts.gone ++ put_places again.texts) q there) [
    | inl link ↦ passed_link one q (again_was keep one w m is moment again also q link)
    | inr more ↦ elim (in_both again.texts.gone (put_places again.texts) q more) [
      | inl gone ↦
          let parts = gone_parts m.leaves (gens_kept keep is.gens).list q (subst (λ l. has l q ≡ true) again_gone gone) in
          elim (cases_Bool (passed one q)) [
            | inl passes ↦ passes
            | inr apart ↦
                let same = untouched keep one w m is moment q parts.2.other (owned_outside q (or_right (is_path q loader_path) (is_some (numbered q)) (gone_numbered _ (numbered q) parts.0))) apart in
                passed_gone one q (subst (λ l. has l q ≡ true) (sym one_gone) (gone_from w.leaves (gens_kept keep is.gens).list q parts.0 parts.1 record { stands = subst IsSome same parts.2.stands; other = parts.2.other }))
          ]
      | inr put ↦ passed_put one q (subst (λ l. has l q ≡ true) same_put put)
    ]
  ]

  -- ---- roots

  root_still : (x : Name) → IsRoot (passed one) w x → IsRoot (passed again) m x
  root_still x (IsRoot.Loaded stands) = IsRoot.Loaded (subst (λ manager. Stands x manager.loaded) (sym (same_manager keep one w m is moment)) stands)
  root_still x (IsRoot.Linked q target other counted link stands) =
      let parts = and_parts (not (begins store_folder q)) (not (passed one q)) counted in
      let apart = not-true (passed one q) parts.1 in
      let still : passed again q ≡ false = elim (cases_Bool (passed again q)) [
        | inl there ↦ absurd (both_ways _ apart (passed_before q there))
        | inr still ↦ still
      ] in
      IsRoot.Linked q target other (and_from (not (begins store_folder q)) (not (passed again q)) parts.0 (not_from_false (passed again q) still))
      (untouched keep one w m is moment q other (not-true (begins store_folder q) parts.0) apart ∙ link) stands
  root_still x (IsRoot.Foreign foreign) = IsRoot.Foreign foreign

  root_before : (x : Name) → IsRoot (passed again) m x → IsRoot (passed one) w x
  root_before x (IsRoot.Loaded stands) = IsRoot.Loaded (subst (λ manager. Stands x manager.loaded) (same_manager keep one w m is moment) stands)
  root_before x (IsRoot.Linked q target other counted link stands) =
      let parts = and_parts (not (begins store_folder q)) (not (passed again q)) counted in
      let apart : passed one q ≡ false = elim (cases_Bool (passed one q)) [
        | inl there ↦ absurd (both_ways _ (not-true (passed again q) parts.1) (passed_still q (ap is_some link) there))
        | inr apart ↦ apart
      ] in
      IsRoot.Linked q target other (and_from (not (begins store_folder q)) (not (passed one q)) parts.0 (not_from_false (passed one q) apart))
      (sym (untouched keep one w m is moment q other (not-true (begins store_folder q) parts.0) apart) ∙ link) stands
  root_before x (IsRoot.Foreign foreign) = IsRoot.Foreign foreign

  -- ---- what is live

  stored_still : (x : Name) → Live (passed one) w x → IsStored w.leaves x → IsStored m.leaves x
  stored_still x live stored = record {
    path = stored.path;
    leaf = stored.leaf;
    stands = subst IsSome (sym (live_kept keep one w entries is m x stored.leaf moment live stored.inside)) stored.stands;
    inside = stored.inside;
  }

  none_stands : {X : Type 0} (o : Option X) → o ≡ None → IsSome o → ⊥
  none_stands None none some = absurd cc
  none_stands (Some x) none some = absurd cc

  pub stored_before : (x : Name) → IsStored m.leaves x → IsStored w.leaves x
  stored_before x stored = record {
    path = stored.path;
    leaf = stored.leaf;
    stands = elim (store_either keep one w m is moment stored.leaf (no_stage x stored.leaf stored.path stored.inside) (inside_begins x stored.leaf stored.path stored.inside)) [
      | inl same ↦ subst IsSome same stored.stands
      | inr both ↦ absurd (none_stands (get m.leaves stored.leaf) both.1 stored.stands)
    ];
    inside = stored.inside;
  }

  live_still : (x : Name) → Live (passed one) w x → Live (passed again) m x
  live_still x (Live.FromRoot _ stored root) = Live.FromRoot x (stored_still x (Live.FromRoot x stored root) stored) (root_still x root)
  live_still x (Live.FromReference _ by live stored refers) = Live.FromReference x by (live_still by live) (stored_still x (Live.FromReference x by live stored refers) stored) record {
    at = refers.at;
    inside = refers.inside;
    leaf = refers.leaf;
    stands = live_kept keep one w entries is m by refers.at moment live refers.inside ∙ refers.stands;
    named = refers.named;
  }

  live_before : (x : Name) → Live (passed again) m x → Live (passed one) w x
  live_before x (Live.FromRoot _ stored root) = Live.FromRoot x (stored_before x stored) (root_before x root)
  live_before x (Live.FromReference _ by live stored refers) =
      let before = live_before by live in
      Live.FromReference x by before (stored_before x stored) record {
        at = refers.at;
        inside = refers.inside;
        leaf = refers.leaf;
        stands = sym (live_kept keep one w entries is m by refers.at moment before refers.inside) ∙ refers.stands;
        named = refers.named;
      }

  -- what is dead is so, as long as it has a leaf
  pub dead_still : (x : Name) → IsStored m.leaves x → IsDead (passed one) w x → IsDead (passed again) m x
  dead_still x stored dead = record { stored = stored; unreached = λ live. dead.unreached (live_before x live) }

  pub dead_before : (x : Name) → IsDead (passed again) m x → IsDead (passed one) w x
  dead_before x dead = record { stored = stored_before x dead.stored; unreached = λ live. dead.unreached (live_still x live) }

pub live_stays : LiveStaysLaw
live_stays keep one again w m x is moment also = (live_still keep one w m is moment again also x, live_before keep one w m is moment again also x)
