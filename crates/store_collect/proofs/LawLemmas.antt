-- At each moment of a collection what is live stands as it did.
use Rattle.std.proofs.Common.{◌≡◌, ◌≢◌, ◌⊎◌, ℕ, zero, suc, not, Bool, true, false, cond, List, [], ◌∷◌, ◌++◌, length, take, filter, map, None, refl, sym, ap, subst, ◌∙◌, inl, inr, arith}
use Rattle.std.proofs.lemmas.Bool.{and_parts, both_ways, cases_Bool, or_cases, or_left, or_right}
use Rattle.std.proofs.lemmas.List.{take_all}
use Rattle.std.proofs.lemmas.List.Folds.{list_any-append}
use Rattle.std.specs.FinMap.{get}
use Rattle.std.specs.List.{flat_map}
use Rattle.generations.specs.declared.gens.Gen.{Gen}
use Rattle.generations.specs.Places.{link_path}
use Rattle.host_trait.specs.World.{WorldState, is_path, listed, seen, stage}
use Rattle.host_trait.proofs.Fronts.{begins}
use Rattle.host_trait.proofs.NameOrder.{has_filter, name_exact, name_itself}
use Rattle.host_trait.proofs.Seen.{seen_at}
use Rattle.switch_names.specs.Names.{Name, has, is_name}
use Rattle.switch_names.specs.SystemName.{store_folder}
use Rattle.switch_parts.specs.Store.{is_in_store}
use Rattle.tree_put.specs.Sequence.{with_puts, without_places}
use Rattle.tree_put.proofs.LeftLemmas.{gone_at}
use Rattle.boot_entries.specs.declared.boot_texts.BootTexts.{BootTexts}
use Rattle.boot_entries.specs.Entries.{version_path}
use Rattle.boot_entries.specs.Steps.{AreEntries, IsBootMoment, boot_puts, with_menu}
use Rattle.boot_entries.proofs.EndLemmas.{only_law}
use Rattle.boot_entries.proofs.OwnLemmas.{store_unowned}
use Rattle.store_live.specs.Live.{Live}
use Rattle.store_live.specs.StorePaths.{is_at, is_store_path}
use Rattle.store_live.proofs.PathLemmas.{inside_begins, listed_is, no_stage, one_path}
use Rattle.store_live.proofs.ReachLemmas.{live_stored}
use Rattle.store_collect.specs.declared.collection.Collection.{Collection}
use Rattle.store_collect.specs.Collection.{IsCollectionOf, first_of, passed_over}
use Rattle.store_collect.specs.Kept.{gens_kept}
use Rattle.store_collect.specs.Laws.{LiveLaw}
use Rattle.store_collect.specs.Steps.{IsCollecting, removals}

-- ---- names in lists

-- a name among the first of a list is one of it
pub among_first : (names : List Name) (k : ℕ) (q : Name) → has (take k names) q ≡ true → has names q ≡ true
among_first names zero q is = absurd cc
among_first [] (suc k) q is = absurd cc
among_first (name ∷ names) (suc k) q is = elim (or_cases (is_name q name) (has (take k names) q) is) [
  | inl same ↦ or_left (is_name q name) (has names q) same
  | inr later ↦ or_right (is_name q name) (has names q) (among_first names k q later)
]

pub in_both : (one other : List Name) (q : Name) → has (one ++ other) q ≡ true → (has one q ≡ true) ⊎ (has other q ≡ true)
in_both one other q is = or_cases (has one q) (has other q) (sym (list_any-append (is_name q) one other) ∙ is)

pub in_flat : (f : Name → List Name) (xs : List Name) (q : Name) → has (flat_map f xs) q ≡ true → (y : Name) × (has xs y ≡ true) × (has (f y) q ≡ true)
in_flat f [] q is = absurd cc
in_flat f (x ∷ xs) q is = elim (in_both (f x) (flat_map f xs) q is) [
  | inl here ↦ (x, or_left (is_name x x) (has xs x) (name_itself x), here)
  | inr later ↦ let more = in_flat f xs q later in (more.0, or_right (is_name more.0 x) (has xs more.0) more.1, more.2)
]

pub in_first_of : (at : Name) (paths : List Name) (q : Name) → has (first_of at paths) q ≡ true → has paths q ≡ true
in_first_of at paths q is = elim (in_both (filter (λ p. is_path p at) paths) (filter (λ p. not (is_path p at)) paths) q is) [
  | inl here ↦ (and_parts (is_path q at) (has paths q) (sym (has_filter (λ p. is_path p at) paths q) ∙ here)).1
  | inr later ↦ (and_parts (not (is_path q at)) (has paths q) (sym (has_filter (λ p. not (is_path p at)) paths q) ∙ later)).1
]

-- ---- places in the store

pub link_outside : (n : ℕ) → begins store_folder (link_path n) ≡ false
unfolding link_path
link_outside n = refl

pub no_link : (gens : List Gen) (q : Name) → begins store_folder q ≡ true → has (map (λ (gen : Gen). link_path gen.number) gens) q ≡ true → ⊥
no_link [] q is there = absurd cc
no_link (gen ∷ gens) q is there = elim (or_cases (is_name q (link_path gen.number)) _ there) [
  | inl same ↦ both_ways _ (link_outside gen.number) (subst (λ p. begins store_folder p ≡ true) (name_exact q (link_path gen.number) same) is)
  | inr later ↦ no_link gens q is later
]

pub in_store_of : (q : Name) → begins store_folder q ≡ true → is_in_store q ≡ true
unfolding is_in_store
in_store_of q is = is

-- ---- a boot menu leaves the store alone

pub menu_made : (texts : BootTexts) (w : WorldState) → IsBootMoment texts w (with_menu texts w)
menu_made texts w = inr record {
  count = length texts.gone;
  some = omega arith;
  world = ap (λ (l : List Name). seen (without_places l (with_puts (boot_puts texts) w))) (sym (take_all (length texts.gone) texts.gone (omega arith)));
}

module _ (keep : ℕ) (collection : Collection) (w : WorldState) (entries : AreEntries collection.texts.entries) (is : IsCollectionOf keep w collection) where
  abbrev skips : Name → Bool
  skips = has (passed_over collection.links collection.texts)

  pub store_kept : (m : WorldState) (q : Name) → IsBootMoment collection.texts w m → begins store_folder q ≡ true → q ≢ stage → get m.leaves q ≡ get w.leaves q
  store_kept m q moment inside other =
      (only_law (gens_kept keep is.gens) collection.texts w m entries is.planned.texts moment).leaves q (store_unowned q (in_store_of q inside)) other

  -- a place that lies in a live store path isn't removed
  not_removed : (x q : Name) → Live skips w x → is_at x q ≡ true → has (removals collection) q ≡ true → ⊥
  not_removed x q live at there =
      let stored = live_stored skips w x live in
      elim (in_both collection.links collection.leaves q there) [
        | inl link ↦ no_link _ q (inside_begins x q stored.path at) (subst (λ l. has l q ≡ true) is.planned.links link)
        | inr leaf ↦
            let found = in_flat (λ y. first_of (version_path y) (listed y w.leaves)) collection.names q (subst (λ l. has l q ≡ true) is.planned.leaves leaf) in
            let dead = (is.planned.names.exact found.0).0 found.1 in
            let there = (listed_is found.0 w.leaves q (in_first_of (version_path found.0) (listed found.0 w.leaves) q found.2)).0 in
            dead.unreached (subst (Live skips w) (one_path x found.0 q stored.path dead.stored.path at there) live)
      ]

  pub live_kept : (m : WorldState) (x q : Name) → IsCollecting collection w m → Live skips w x → is_at x q ≡ true → get m.leaves q ≡ get w.leaves q
  live_kept m x q moment live at = by moment
    where
      path : is_store_path x ≡ true
      path = (live_stored skips w x live).path

      inside : begins store_folder q ≡ true
      inside = inside_begins x q path at

      other : q ≢ stage
      other = no_stage x q path at

      by : IsCollecting collection w m → get m.leaves q ≡ get w.leaves q
      by (IsCollecting.Listing boot) = store_kept m q boot inside other
      by (IsCollecting.Dropping drop) =
          let gone = take drop.count (removals collection) in
          let u = with_menu collection.texts w in
          let apart : has gone q ≡ false = elim (cases_Bool (has gone q)) [
            | inl there ↦ absurd (not_removed x q live at (among_first (removals collection) drop.count q there))
            | inr apart ↦ apart
          ] in
          seen_at m (without_places gone u) drop.world q other ∙ gone_at gone u q ∙ ap (λ b. cond b None (get u.leaves q)) apart ∙ store_kept u q (menu_made collection.texts w) inside other

pub live_law : LiveLaw
live_law keep collection w m x q entries is moment live at = live_kept keep collection w entries is m x q moment live at
