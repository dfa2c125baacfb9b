-- Tests of the keys of a map of leaves.
use Rattle.std.proofs.Common.{◌≡◌, Bool, true, false, ◌||◌, ℕ, List, [], ◌∷◌, None, IsSome, MatchBool, refl, sym, ap, ◌∙◌, inl, inr}
use Rattle.std.proofs.lemmas.Bool.{cases_Bool, both_ways, or_parts, or_from, or_left, or_right}
use Rattle.std.specs.Cmp.{eq_by_cmp_equiv}
use Rattle.std.specs.FinMap.{get, keys, contains_key-keys}
use Rattle.std.specs.List.{list_any}
use Rattle.std.specs.Ordering.{eq_by_cmp}
use Rattle.switch_names.specs.Path.{is_below}
use Rattle.switch_names.proofs.Outcomes.{none_there}
use Rattle.host_trait.specs.World.{Leaves, bytes_cmp, is_in_line, IsClear, IsInTheWay}
use Rattle.host_trait.proofs.Places.{bytes_total, same_or_other, none_or_present}

abbrev is_key : List (List ℕ) → List ℕ → Bool
is_key ks q = list_any (eq_by_cmp bytes_cmp q) ks

some_key : (test : List ℕ → Bool) (ks : List (List ℕ)) → list_any test ks ≡ true → (q : List ℕ) × (test q ≡ true) × (is_key ks q ≡ true)
some_key test [] is = absurd (both_ways false refl is)
some_key test (k ∷ ks) is = elim (cases_Bool (test k)) [
  | inl passes ↦ (k, passes, or_left (eq_by_cmp bytes_cmp k k) (is_key ks k) ((eq_by_cmp_equiv bytes_total).refl k))
  | inr fails ↦
      let rest = some_key test ks (ap (λ b. b || list_any test ks) (sym fails) ∙ is) in
      (rest.0, rest.1, or_right (eq_by_cmp bytes_cmp rest.0 k) (is_key ks rest.0) rest.2)
]

no_key : (test : List ℕ → Bool) (ks : List (List ℕ)) → list_any test ks ≡ false → (q : List ℕ) → test q ≡ true → is_key ks q ≡ false
no_key test [] is q passes = refl
no_key test (k ∷ ks) is q passes =
    let parts = or_parts (test k) (list_any test ks) is in
    elim (same_or_other q k) [
      | inl same ↦ absurd (both_ways (test k) parts.0 (ap test (sym same) ∙ passes))
      | inr other ↦ or_from (eq_by_cmp bytes_cmp q k) (is_key ks q) other (no_key test ks parts.1 q passes)
    ]

-- where a test of all keys passes, a leaf stands at one that passes
pub leaf_passes : (test : List ℕ → Bool) (leaves : Leaves) → list_any test (keys leaves) ≡ true → (q : List ℕ) × (test q ≡ true) × IsSome (get leaves q)
leaf_passes test leaves is =
    let one = some_key test (keys leaves) is in (one.0, one.1, contains_key-keys leaves one.0 ∙ one.2)

-- where it fails, none stands at a path that passes
pub none_passes : (test : List ℕ → Bool) (leaves : Leaves) → list_any test (keys leaves) ≡ false → (q : List ℕ) → test q ≡ true → get leaves q ≡ None
none_passes test leaves is q passes =
    none_there (get leaves q) (contains_key-keys leaves q ∙ no_key test (keys leaves) is q passes)

pub one_passes : (test : List ℕ → Bool) (leaves : Leaves) (q : List ℕ) → test q ≡ true → IsSome (get leaves q) → list_any test (keys leaves) ≡ true
one_passes test leaves q passes stands = elim (cases_Bool (list_any test (keys leaves))) [
  | inl is ↦ is
  | inr none ↦ absurd (none_or_present (get leaves q) (none_passes test leaves none q passes) stands)
]

pub all_fail : (test : List ℕ → Bool) (leaves : Leaves) → ((q : List ℕ) → test q ≡ true → get leaves q ≡ None) → list_any test (keys leaves) ≡ false
all_fail test leaves none = elim (cases_Bool (list_any test (keys leaves))) [
  | inl is ↦ let one = leaf_passes test leaves is in absurd (none_or_present (get leaves one.0) (none one.0 one.1) one.2)
  | inr is ↦ is
]

either_passes : (p q : List ℕ → Bool) (ks : List (List ℕ)) → list_any (λ k. p k || q k) ks ≡ (list_any p ks || list_any q ks)
either_passes p q [] = refl
either_passes p q (k ∷ ks) = ap (λ b. (p k || q k) || b) (either_passes p q ks) ∙ swapped (p k) (q k) (list_any p ks) (list_any q ks)
  where
    swapped : (a b c d : Bool) → ((a || b) || (c || d)) ≡ ((a || c) || (b || d))
    swapped true b c d = refl
    swapped false true true d = refl
    swapped false true false d = refl
    swapped false false c d = refl

-- what is in line with a path lies below it or above it
pub below_or_above : (names : List (List ℕ)) (at : List ℕ) → list_any (λ q. is_in_line q at) names ≡ (list_any (λ q. is_below q at) names || list_any (λ q. is_below at q) names)
below_or_above names at = either_passes (λ q. is_below q at) (λ q. is_below at q) names

-- a name below a path is in line with it
pub line_below : (names : List (List ℕ)) (at : List ℕ) → list_any (λ q. is_below q at) names ≡ true → true ≡ list_any (λ q. is_in_line q at) names
line_below names at below = sym (below_or_above names at ∙ or_left (list_any (λ q. is_below q at) names) (list_any (λ q. is_below at q) names) below)

-- where none is below it, what is in line is above
pub line_above : (names : List (List ℕ)) (at : List ℕ) → list_any (λ q. is_below q at) names ≡ false → list_any (λ q. is_below at q) names ≡ list_any (λ q. is_in_line q at) names
line_above names at none = sym (below_or_above names at ∙ ap (λ b. b || list_any (λ q. is_below at q) names) none)

-- what such a test of all keys says
pub line_cases : (leaves : Leaves) (at : List ℕ) (line : Bool) → line ≡ list_any (λ q. is_in_line q at) (keys leaves) → MatchBool line (IsInTheWay leaves at) (IsClear leaves at)
line_cases leaves at true is = leaf_passes (λ q. is_in_line q at) leaves (sym is)
line_cases leaves at false is = none_passes (λ q. is_in_line q at) leaves (sym is)
