-- A store path whose version stands at a moment of a collection has all its leaves.
use Rattle.std.proofs.Common.{◌≡◌, ◌⊎◌, ℕ, zero, suc, ◌-◌, not, Bool, true, false, cond, codes, List, [], ◌∷◌, ◌++◌, length, take, filter, None, Some, IsSome, is_some, refl, sym, ap, subst, ◌∙◌, inl, inr, arith}
use Rattle.std.proofs.lemmas.Bool.{both_ways, or_cases, or_left, or_right}
use Rattle.std.specs.Cmp.Lexicographic.{nat_list_eq_equiv, same_text}
use Rattle.std.specs.FinMap.{get}
use Rattle.host_trait.specs.World.{Leaves, WorldState, is_path, listed}
use Rattle.host_trait.proofs.NameOrder.{name_exact, name_itself}
use Rattle.host_trait.proofs.Places.{some_of}
use Rattle.host_trait.proofs.Seen.{seen_at}
use Rattle.switch_names.specs.Names.{Name, has, is_name}
use Rattle.switch_names.proofs.Below.{below_front}
use Rattle.tree_put.specs.Sequence.{without_places}
use Rattle.tree_put.proofs.LeftLemmas.{gone_at}
use Rattle.boot_entries.specs.Entries.{version_path}
use Rattle.boot_entries.specs.Steps.{AreEntries, with_menu}
use Rattle.store_live.specs.StorePaths.{is_at, is_store_path}
use Rattle.store_live.proofs.PathLemmas.{inside_begins, is_in_listed, listed_is, no_stage, one_path}
use Rattle.store_collect.specs.declared.collection.Collection.{Collection}
use Rattle.store_collect.specs.Collection.{IsCollectionOf, first_of, leaves_of}
use Rattle.store_collect.specs.Laws.{VersionLaw}
use Rattle.store_collect.specs.Steps.{IsCollecting, removals}
use Rattle.store_collect.proofs.LawLemmas.{among_first, in_first_of, menu_made, no_link, store_kept}
use Rattle.store_collect.proofs.WholeLemmas.{false_from, none_where}

-- ---- the first of two lists

first_of_both : (j : ℕ) (one other : List Name) (q : Name) → has (take j (one ++ other)) q ≡ true → (has (take j one) q ≡ true) ⊎ (has (take (j - length one) other) q ≡ true)
first_of_both j [] other q is = let same : j ≡ j - 0 = omega arith in inr (subst (λ k. has (take k other) q ≡ true) same is)
first_of_both zero (x ∷ one) other q is = absurd cc
first_of_both (suc j) (x ∷ one) other q is = elim (or_cases (is_name q x) (has (take j (one ++ other)) q) is) [
  | inl same ↦ inl (or_left (is_name q x) (has (take j one) q) same)
  | inr later ↦ elim (first_of_both j one other q later) [
    | inl here ↦ inl (or_right (is_name q x) (has (take j one) q) here)
    | inr there ↦ let same : j - length one ≡ suc j - suc (length one) = omega arith in inr (subst (λ k. has (take k other) q ≡ true) same there)
  ]
]

second_in_both : (j : ℕ) (one other : List Name) (q : Name) → has (take (j - length one) other) q ≡ true → has (take j (one ++ other)) q ≡ true
second_in_both j [] other q is = let same : j - 0 ≡ j = omega arith in subst (λ k. has (take k other) q ≡ true) same is
second_in_both zero (x ∷ one) other q is = absurd (let none : 0 - suc (length one) ≡ 0 = omega arith in let no = subst (λ k. has (take k other) q ≡ true) none is in cc)
second_in_both (suc j) (x ∷ one) other q is =
    let same : suc j - suc (length one) ≡ j - length one = omega arith in
    or_right (is_name q x) (has (take j (one ++ other)) q) (second_in_both j one other q (subst (λ k. has (take k other) q ≡ true) same is))

-- ---- the version comes first

head_of : (at : Name) (paths : List Name) → has paths at ≡ true → (more : List Name) × (filter (λ p. is_path p at) paths ≡ at ∷ more)
head_of at [] is = absurd cc
head_of at (path ∷ paths) is = by (is_path path at) refl (or_cases (is_name at path) (has paths at) is) (head_of at paths)
  where
    by : (b : Bool) → is_path path at ≡ b → (is_name at path ≡ true) ⊎ (has paths at ≡ true) → (has paths at ≡ true → (more : List Name) × (filter (λ p. is_path p at) paths ≡ at ∷ more)) →
        (more : List Name) × (cond b (path ∷ filter (λ p. is_path p at) paths) (filter (λ p. is_path p at) paths) ≡ at ∷ more)
    by true same where_it rest = (filter (λ p. is_path p at) paths, ap (λ p. p ∷ filter (λ p. is_path p at) paths) (same_text path at (sym same)))
    by false other where_it rest = elim where_it [
      | inl here ↦ absurd (both_ways _ other (subst (λ p. is_path p at ≡ true) (name_exact at path here) (nat_list_eq_equiv.refl at)))
      | inr later ↦ rest later
    ]

-- where something is among the first so many, the first one is
first_among : (j : ℕ) (at : Name) (list rest : List Name) (q : Name) → has (take j list) q ≡ true → has (take j (at ∷ rest)) at ≡ true
first_among zero at list rest q is = absurd cc
first_among (suc j) at list rest q is = or_left (is_name at at) (has (take j rest) at) (name_itself at)

module _ (leaves : Leaves) (x q : Name) (path : is_store_path x ≡ true) (at : is_at x q ≡ true) (there : has (listed x leaves) (version_path x) ≡ true) where
  begins_so : (more : List Name) × (first_of (version_path x) (listed x leaves) ≡ version_path x ∷ more)
  begins_so =
      let head = head_of (version_path x) (listed x leaves) there in
      (head.0 ++ filter (λ p. not (is_path p (version_path x))) (listed x leaves), ap (λ l. l ++ filter (λ p. not (is_path p (version_path x))) (listed x leaves)) head.1)

  version_before : (names : List Name) (j : ℕ) → ((y : Name) → has names y ≡ true → is_store_path y ≡ true) → has (take j (leaves_of names leaves)) q ≡ true → has (take j (leaves_of names leaves)) (version_path x) ≡ true
  version_before [] zero paths is = absurd cc
  version_before [] (suc j) paths is = absurd cc
  version_before (y ∷ names) j paths is =
      let block = first_of (version_path y) (listed y leaves) in
      let rest = leaves_of names leaves in
      elim (first_of_both j block rest q is) [
        | inl here ↦
            let inside = (listed_is y leaves q (in_first_of (version_path y) (listed y leaves) q (among_first block j q here))).0 in
            let same = one_path x y q path (paths y (or_left (is_name y y) (has names y) (name_itself y))) at inside in
            let begins : block ≡ version_path x ∷ begins_so.0 = ap (λ z. first_of (version_path z) (listed z leaves)) (sym same) ∙ begins_so.1 in
            ap (λ l. has (take j (l ++ rest)) (version_path x)) begins ∙ first_among j (version_path x) block (begins_so.0 ++ rest) q here
        | inr later ↦ second_in_both j block rest (version_path x)
            (version_before names (j - length block) (λ z among. paths z (or_right (is_name z y) (has names z) among)) later)
      ]

pub version_inside : (x : Name) → is_at x (version_path x) ≡ true
unfolding version_path
version_inside x = or_right (is_path (version_path x) x) _ (below_front x (codes "nixos-version"))

module _ (keep : ℕ) (collection : Collection) (w m : WorldState) (x q : Name) (entries : AreEntries collection.texts.entries) (is : IsCollectionOf keep w collection)
    (path : is_store_path x ≡ true) (stands : IsSome (get m.leaves (version_path x))) (at : is_at x q ≡ true) where
  version_kept : IsCollecting collection w m → get m.leaves q ≡ get w.leaves q
  version_kept (IsCollecting.Listing boot) = store_kept keep collection w entries is m q boot (inside_begins x q path at) (no_stage x q path at)
  version_kept (IsCollecting.Dropping drop) =
      let gone = take drop.count (removals collection) in
      let u = with_menu collection.texts w in
      let version = version_path x in
      let inside = version_inside x in
      let some = some_of (get m.leaves version) stands in
      let after = seen_at m (without_places gone u) drop.world version (no_stage x version path inside) ∙ gone_at gone u version in
      let apart : has gone version ≡ false = none_where (has gone version) (get u.leaves version) some.0 (sym after ∙ some.1) in
      let before : get w.leaves version ≡ Some some.0 =
      sym (store_kept keep collection w entries is u version (menu_made collection.texts w) (inside_begins x version path inside) (no_stage x version path inside))
      ∙ sym (after ∙ ap (λ b. cond b None (get u.leaves version)) apart) ∙ some.1 in
      let there = is_in_listed x w.leaves version inside record { stands = ap is_some before; other = no_stage x version path inside } in
      let other : has gone q ≡ false = false_from (has gone q) (λ removed. elim (first_of_both drop.count collection.links collection.leaves q removed) [
        | inl link ↦ no_link _ q (inside_begins x q path at) (subst (λ l. has l q ≡ true) is.planned.links (among_first collection.links drop.count q link))
        | inr leaf ↦
            let listing = subst (λ l. has (take (drop.count - length collection.links) l) q ≡ true) is.planned.leaves leaf in
            let first = version_before w.leaves x q path at there collection.names (drop.count - length collection.links) (λ y among. ((is.planned.names.exact y).0 among).stored.path) listing in
            both_ways _ apart (second_in_both drop.count collection.links collection.leaves version
            (subst (λ l. has (take (drop.count - length collection.links) l) version ≡ true) (sym is.planned.leaves) first))
      ]) in
      seen_at m (without_places gone u) drop.world q (no_stage x q path at) ∙ gone_at gone u q ∙ ap (λ b. cond b None (get u.leaves q)) other
      ∙ store_kept keep collection w entries is u q (menu_made collection.texts w) (inside_begins x q path at) (no_stage x q path at)

pub version_law : VersionLaw
version_law keep collection w m x q entries is moment path stands at = version_kept keep collection w m x q entries is path stands at moment
