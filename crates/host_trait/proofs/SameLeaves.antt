-- Trees that are the same but for the stage.
use Rattle.std.proofs.Common.{◌≡◌, ◌≢◌, ℕ, true, false, cond, List, [], ◌∷◌, None, Some, IsSome, refl, sym, ap, subst, ◌∙◌, inl, inr, rules}
use Rattle.std.proofs.lemmas.Bool.{both_ways}
use Rattle.std.specs.BTreeMap.{is_at}
use Rattle.std.specs.FinMap.{get, remove, from_entries, gets}
use Rattle.std.specs.List.{AllByRecursion}
use Rattle.std.specs.Map.{lookup, keys_of}
use Rattle.std.specs.Ordering.{eq_by_cmp}
use Rattle.host_trait.specs.declared.leaf.LeafKind.{LeafKind}
use Rattle.host_trait.specs.World.{Leaves, IsSameAt, bytes_cmp, stage}
use Rattle.host_trait.proofs.Places.{alike, found, itself, none_or_present, same_or_other}

-- what holds of each key holds of each place that has a value
key_has : (P : List ℕ → Type 0) (es : List (List ℕ × LeafKind)) → AllByRecursion P (keys_of es) → (q : List ℕ) → IsSome (lookup (is_at (bytes_cmp q)) es) → P q
key_has P [] h q present = absurd (none_or_present {X = LeafKind} None refl present)
key_has P (e ∷ es) h q present = elim (same_or_other q e.0) [
  | inl same ↦ subst P (sym same) h.0
  | inr other ↦ key_has P es h.1 q (subst (λ b. IsSome (cond b (Some e.1) (lookup (is_at (bytes_cmp q)) es))) other present)
]

all_keys : (P : List ℕ → Type 0) → ((q : List ℕ) → P q) → (keys : List (List ℕ)) → AllByRecursion P keys
all_keys P h [] = tt
all_keys P h (k ∷ keys) = (h k, all_keys P h keys)

removed_other : (m : Leaves) (q : List ℕ) → eq_by_cmp bytes_cmp q stage ≡ false → get (remove m stage) q ≡ get m q
removed_other m q other = grind (gets, rules)

removed_here : (m n : Leaves) → get (remove m stage) stage ≡ get (remove n stage) stage
removed_here m n = grind (gets, rules)

module _ (es fs : List (List ℕ × LeafKind)) where
  abbrev m : Leaves
  m = from_entries es

  abbrev n : Leaves
  n = from_entries fs

  -- the places of both are the same
  pub same_leaves : AllByRecursion (IsSameAt m n) (keys_of fs) → AllByRecursion (IsSameAt n m) (keys_of es) → remove m stage ≡ remove n stage
  same_leaves second first = alike _ _ (λ q. elim (same_or_other q stage) [
    | inl same ↦ subst (λ p. get (remove m stage) p ≡ get (remove n stage) p) (sym same) (removed_here m n)
    | inr other ↦ removed_other m q other ∙ at_other q (λ same. both_ways _ other (subst (λ p. eq_by_cmp bytes_cmp q p ≡ true) same (itself q))) ∙ sym (removed_other n q other)
  ])
    where
      at_other : (q : List ℕ) → q ≢ stage → get m q ≡ get n q
      at_other q ne = elim (get n q) as (λ o. get n q ≡ o → get m q ≡ get n q) [
        | Some leaf ↦ λ is. key_has (IsSameAt m n) fs second q (subst IsSome (sym (sym (found fs q) ∙ is)) refl) ne
        | None ↦ λ is. elim (get m q) as (λ o. get m q ≡ o → get m q ≡ get n q) [
          | Some leaf ↦ λ there. sym (key_has (IsSameAt n m) es first q (subst IsSome (sym (sym (found es q) ∙ there)) refl) ne)
          | None ↦ λ there. there ∙ sym is
        ] refl
      ] refl

  pub same_places : remove m stage ≡ remove n stage → (q : List ℕ) → IsSameAt m n q
  same_places is q ne = elim (same_or_other q stage) [
    | inl same ↦ absurd (ne same)
    | inr other ↦ sym (removed_other m q other) ∙ ap (λ (l : Leaves). get l q) is ∙ removed_other n q other
  ]

  pub all_same : remove m stage ≡ remove n stage → AllByRecursion (IsSameAt m n) (keys_of fs)
  all_same is = all_keys (IsSameAt m n) (same_places is) (keys_of fs)
