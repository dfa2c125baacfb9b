-- A generation that stands at a moment of a collection has its system whole.
use Rattle.std.proofs.Common.{◌≡◌, ◌≢◌, ℕ, ◌+◌, ◌-◌, ◌≤◌, ◌||◌, not, Bool, true, false, cond, codes, List, [], ◌∷◌, ◌++◌, length, take, map, Option, None, Some, is_none, is_some, option_map, refl, sym, ap, subst, ◌∙◌, inl, inr, arith}
use Rattle.std.proofs.lemmas.Bool.{and_from, and_parts, both_ways, cases_Bool, cases_lt, not_from_false, or_cases, or_left}
use Rattle.std.proofs.lemmas.List.Elements.{All-weaker}
use Rattle.std.proofs.lemmas.List.Folds.{list_any-append, list_any_none}
use Rattle.std.specs.FinMap.{get}
use Rattle.std.specs.List.{list_any}
use Rattle.std.specs.Option.{option_map_or}
use Rattle.generations.specs.Places.{generation_at, is_number, link_path, target_of}
use Rattle.generations.specs.ProfilePart.{owns_profile}
use Rattle.generations.proofs.Apart.{link_apart}
use Rattle.generations.proofs.ProfileApart.{boot_unread, link_owned, owned_other, unowned}
use Rattle.host_trait.specs.declared.leaf.LeafKind.{LeafKind}
use Rattle.host_trait.specs.declared.leaf.LeafKind.TheVariants.{File, Link}
use Rattle.host_trait.specs.World.{WorldState, listed, stage}
use Rattle.host_trait.proofs.Fronts.{begins}
use Rattle.host_trait.proofs.NameOrder.{has_filter, name_exact}
use Rattle.host_trait.proofs.Seen.{seen_at}
use Rattle.switch_names.specs.declared.name_fault.NameFault.{NameFault}
use Rattle.switch_names.specs.Names.{Name, has, is_name}
use Rattle.switch_names.specs.Path.{is_slash}
use Rattle.switch_names.specs.SystemName.{is_no_store_byte, store_folder, store_name, system_fault, system_path, named_system}
use Rattle.switch_names.proofs.StorePaths.{IsStorePath-from_named}
use Rattle.tree_put.specs.Sequence.{without_places}
use Rattle.tree_put.proofs.LeftLemmas.{gone_at}
use Rattle.tree_put.proofs.PutLemmas.{apart_ne}
use Rattle.boot_entries.specs.declared.boot_texts.BootFile.{BootFile}
use Rattle.boot_entries.specs.declared.boot_texts.BootTexts.{BootTexts}
use Rattle.boot_entries.specs.Places.{entries_folder, entry_name, entry_path, loader_path, numbered, owns_boot}
use Rattle.boot_entries.specs.Steps.{AreEntries, with_menu}
use Rattle.boot_entries.specs.Texts.{has_target, is_gone_by}
use Rattle.boot_entries.proofs.EndLemmas.{only_law}
use Rattle.boot_entries.proofs.OwnLemmas.{owned_read}
use Rattle.boot_entries.proofs.PartedLemmas.{profile_unread}
use Rattle.store_live.specs.Live.{IsRoot, Live}
use Rattle.store_live.specs.StorePaths.{IsStored, is_at, is_store_path}
use Rattle.store_live.proofs.PathLemmas.{inside_begins, no_stage}
use Rattle.store_live.proofs.RootLemmas.{target_stands}
use Rattle.store_collect.specs.declared.collection.Collection.{Collection}
use Rattle.store_collect.specs.Collection.{IsCollectionOf, loader_places, passed_over}
use Rattle.store_collect.specs.Kept.{gens_kept}
use Rattle.store_collect.specs.Laws.{WholeLaw}
use Rattle.store_collect.specs.Steps.{IsCollecting, IsDropping, removals}
use Rattle.store_collect.proofs.ApplyLemmas.{take_first, take_second}
use Rattle.store_collect.proofs.LawLemmas.{among_first, in_both, live_kept, link_outside, menu_made, no_link, store_kept}

-- ---- the system that a link names

pub system_named : (text system : List ℕ) → named_system text ≡ Some system → (system_fault text ≡ None) × (system_path text ≡ system)
system_named text system is = by (system_fault text) refl is
  where
    by : (o : Option NameFault) → system_fault text ≡ o → cond (is_none o) (Some (system_path text)) None ≡ Some system → (system_fault text ≡ None) × (system_path text ≡ system)
    by None none is = (none, cc)
    by (Some fault) some is = absurd cc

pub link_named : (b : Bool) (o : Option LeafKind) (system : Name) → cond b (option_map target_of o) None ≡ Some (Some system) → (target : List ℕ) × (o ≡ Some (Link target)) × (named_system target ≡ Some system)
link_named false o system is = absurd cc
link_named true None system is = absurd cc
link_named true (Some (File bytes mode uid gid)) system is = absurd (let no : None ≡ Some system = cc in cc)
link_named true (Some (Link target)) system is = (target, refl, let same : named_system target ≡ Some system = cc in same)

byte_free : (byte : ℕ) → is_no_store_byte byte ≡ false → is_slash byte ≡ false
byte_free byte is = grind arith

pub system_stored : (target : List ℕ) → system_fault target ≡ None → is_store_path (system_path target) ≡ true
system_stored target none =
    let path = IsStorePath-from_named target none in
    and_from (begins store_folder (system_path target)) (not (list_any is_slash (store_name (system_path target)))) path.begins
    (not_from_false (list_any is_slash (store_name (system_path target))) (list_any_none is_slash (store_name (system_path target)) (All-weaker (λ byte. is_no_store_byte byte ≡ false) (λ byte. is_slash byte ≡ false) byte_free (store_name (system_path target)) path.name.bytes)))

-- ---- a link is at no place of the boot menu

entry_unowned : (n : ℕ) → owns_profile (entry_path n) ≡ false
unfolding entry_path
entry_unowned n = unowned (codes "boot/" ++ (codes "loader/entries/" ++ entry_name n)) (boot_unread (codes "loader/entries/" ++ entry_name n))

loader_unowned : owns_profile loader_path ≡ false
unfolding loader_path
loader_unowned = unowned (codes "boot/" ++ codes "loader/loader.conf") (boot_unread (codes "loader/loader.conf"))

pub link_unowned : (n : ℕ) → owns_boot (link_path n) ≡ false
link_unowned n = elim (cases_Bool (owns_boot (link_path n))) [
  | inl own ↦ absurd (both_ways _ (profile_unread (link_path n) (link_owned n)) (owned_read (link_path n) own))
  | inr other ↦ other
]

not_gone : (among : ℕ → Bool) (n : ℕ) → is_gone_by among (link_path n) ≡ false
not_gone among n = by (numbered (link_path n)) (right _ _ (link_unowned n))
  where
    right : (a b : Bool) → (a || b) ≡ false → b ≡ false
    right true b is = absurd cc
    right false b is = is

    by : (o : Option ℕ) → is_some o ≡ false → not (option_map_or among o true) ≡ false
    by None none = refl
    by (Some k) some = absurd cc

no_entry : (files : List BootFile) (n : ℕ) → AreEntries files → has (map (λ (file : BootFile). file.at) files) (link_path n) ≡ true → ⊥
no_entry [] n are is = absurd cc
no_entry (file ∷ files) n are is = elim (or_cases (is_name (link_path n) file.at) _ is) [
  | inl same ↦ owned_other (link_path n) (entry_path are.0.0) (link_owned n) (entry_unowned are.0.0) (name_exact (link_path n) file.at same ∙ are.0.2)
  | inr later ↦ no_entry files n are.1 later
]

no_loader : (loader : Option (List ℕ)) (n : ℕ) → has (loader_places loader) (link_path n) ≡ true → ⊥
no_loader None n is = absurd cc
no_loader (Some text) n is = elim (or_cases (is_name (link_path n) loader_path) _ is) [
  | inl same ↦ owned_other (link_path n) loader_path (link_owned n) loader_unowned (name_exact (link_path n) loader_path same)
  | inr none ↦ absurd cc
]

pub false_from : (b : Bool) → (b ≡ true → ⊥) → b ≡ false
false_from true other = absurd (other refl)
false_from false other = refl

pub none_where : {X : Type 0} (b : Bool) (o : Option X) (x : X) → cond b None o ≡ Some x → b ≡ false
none_where true o x is = absurd cc
none_where false o x is = refl

module _ (keep : ℕ) (collection : Collection) (w : WorldState) (entries : AreEntries collection.texts.entries) (is : IsCollectionOf keep w collection) where
  -- the link of a generation that doesn't go counts
  pub not_passed : (n : ℕ) → has collection.links (link_path n) ≡ false → has (passed_over collection.links collection.texts) (link_path n) ≡ false
  not_passed n kept = false_from _ (λ there. elim (in_both collection.links _ (link_path n) there) [
    | inl link ↦ both_ways _ kept link
    | inr rest ↦ elim (in_both collection.texts.gone _ (link_path n) rest) [
      | inl gone ↦
          let listing = subst (λ l. has l (link_path n) ≡ true) (ap (λ (t : BootTexts). t.gone) is.planned.texts) gone in
          both_ways _ (not_gone (has_target (gens_kept keep is.gens).list) n)
          (and_parts _ _ (sym (has_filter (is_gone_by (has_target (gens_kept keep is.gens).list)) (listed entries_folder w.leaves) (link_path n)) ∙ listing)).0
      | inr more ↦ elim (in_both (map (λ (file : BootFile). file.at) collection.texts.entries) _ (link_path n) more) [
        | inl entry ↦ no_entry collection.texts.entries n entries entry
        | inr loader ↦ no_loader collection.texts.loader n loader
      ]
    ]
  ])

  menu_kept : (n : ℕ) → get (with_menu collection.texts w).leaves (link_path n) ≡ get w.leaves (link_path n)
  menu_kept n = (only_law (gens_kept keep is.gens) collection.texts w (with_menu collection.texts w) entries is.planned.texts (menu_made collection.texts w)).leaves (link_path n) (link_unowned n)
      (apart_ne (link_path n) stage (link_apart n))

  module _ (m : WorldState) (n : ℕ) (system q : Name) (stands : generation_at m.leaves n ≡ Some (Some system)) (at : is_at system q ≡ true) where
    link : (target : List ℕ) × (get m.leaves (link_path n) ≡ Some (Link target)) × (named_system target ≡ Some system)
    link = link_named (is_number n) (get m.leaves (link_path n)) system stands

    named : (system_fault link.0 ≡ None) × (system_path link.0 ≡ system)
    named = system_named link.0 system link.2

    path : is_store_path system ≡ true
    path = subst (λ x. is_store_path x ≡ true) named.1 (system_stored link.0 named.0)

    inside : begins store_folder q ≡ true
    inside = inside_begins system q path at

    other : q ≢ stage
    other = no_stage system q path at

    -- while links go, no leaf has gone
    early : (drop : IsDropping collection w m) → drop.count ≤ length collection.links → get m.leaves q ≡ get w.leaves q
    early drop within =
        let gone = take drop.count (removals collection) in
        let u = with_menu collection.texts w in
        let links : gone ≡ take drop.count collection.links = take_first drop.count collection.links collection.leaves within in
        let apart : has gone q ≡ false = false_from (has gone q) (λ there.
        no_link _ q inside (subst (λ l. has l q ≡ true) is.planned.links (among_first collection.links drop.count q (subst (λ l. has l q ≡ true) links there)))) in
        seen_at m (without_places gone u) drop.world q other ∙ gone_at gone u q ∙ ap (λ b. cond b None (get u.leaves q)) apart
        ∙ store_kept keep collection w entries is u q (menu_made collection.texts w) inside other

    -- once links have gone, one that stands is a root
    module _ (drop : IsDropping collection w m) (over : length collection.links ≤ drop.count) where
      after : (p : Name) → p ≢ stage → get m.leaves p ≡ cond (has (take drop.count (removals collection)) p) None (get (with_menu collection.texts w).leaves p)
      after p apart = seen_at m (without_places (take drop.count (removals collection)) (with_menu collection.texts w)) drop.world p apart
          ∙ gone_at (take drop.count (removals collection)) (with_menu collection.texts w) p

      link_stays : has (take drop.count (removals collection)) (link_path n) ≡ false
      link_stays = none_where _ (get (with_menu collection.texts w).leaves (link_path n)) (Link link.0) (sym (after (link_path n) (apart_ne (link_path n) stage (link_apart n))) ∙ link.1)

      all_links : take drop.count (removals collection) ≡ collection.links ++ take (drop.count - length collection.links) collection.leaves
      all_links =
          let whole : drop.count ≡ length collection.links + (drop.count - length collection.links) = omega (arith, over) in
          ap (λ k. take k (removals collection)) whole ∙ take_second (drop.count - length collection.links) collection.links collection.leaves

      not_link : has collection.links (link_path n) ≡ false
      not_link = false_from _ (λ there.
          both_ways _ link_stays
          (ap (λ l. has l (link_path n)) all_links ∙ list_any-append (is_name (link_path n)) collection.links (take (drop.count - length collection.links) collection.leaves)
          ∙ or_left (has collection.links (link_path n)) (has (take (drop.count - length collection.links) collection.leaves) (link_path n)) there))

      link_before : get w.leaves (link_path n) ≡ Some (Link link.0)
      link_before =
          sym (menu_kept n) ∙ sym (after (link_path n) (apart_ne (link_path n) stage (link_apart n)) ∙ ap (λ b. cond b None (get (with_menu collection.texts w).leaves (link_path n))) link_stays) ∙ link.1

      root : IsRoot (has (passed_over collection.links collection.texts)) w system
      root = IsRoot.Linked (link_path n) link.0 (apart_ne (link_path n) stage (link_apart n))
          (and_from (not (begins store_folder (link_path n))) (not (has (passed_over collection.links collection.texts) (link_path n)))
          (not_from_false (begins store_folder (link_path n)) (link_outside n)) (not_from_false (has (passed_over collection.links collection.texts) (link_path n)) (not_passed n not_link)))
          link_before (target_stands link.0 system named.1)

      none_either : (b : Bool) → cond {A = Option LeafKind} b None None ≡ None
      none_either true = refl
      none_either false = refl

      late : get m.leaves q ≡ get w.leaves q
      late = by (get w.leaves q) refl
        where
          by : (o : Option LeafKind) → get w.leaves q ≡ o → get m.leaves q ≡ get w.leaves q
          by None nothing =
              let before = store_kept keep collection w entries is (with_menu collection.texts w) q (menu_made collection.texts w) inside other ∙ nothing in
              after q other ∙ ap (λ o. cond (has (take drop.count (removals collection)) q) None o) before ∙ none_either (has (take drop.count (removals collection)) q) ∙ sym nothing
          by (Some leaf) there =
              let stored : IsStored w.leaves system = record { path = path; leaf = q; stands = ap is_some there; inside = at } in
              live_kept keep collection w entries is m system q (IsCollecting.Dropping drop) (Live.FromRoot system stored root) at

    pub whole_kept : IsCollecting collection w m → get m.leaves q ≡ get w.leaves q
    whole_kept (IsCollecting.Listing boot) = store_kept keep collection w entries is m q boot inside other
    whole_kept (IsCollecting.Dropping drop) = elim (cases_lt drop.count (length collection.links)) [
      | inl less ↦ early drop (omega (arith, less))
      | inr over ↦ late drop over
    ]

pub whole_law : WholeLaw
whole_law keep collection w m n system q entries is moment stands at = whole_kept keep collection w entries is m n system q stands at moment
