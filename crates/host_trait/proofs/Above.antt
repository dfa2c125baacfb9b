-- The paths above one, from its parent on.
use Rattle.std.proofs.Common.{◌≡◌, ◌⊎◌, ℕ, ◌+◌, true, false, List, length, Option, None, Some, IsNone, IfSome, refl, sym, subst, inl, inr, ⊎_elim}
use Rattle.std.proofs.lemmas.Bool.{both_ways}
use Rattle.switch_names.specs.Path.{IsParentOf, is_below}
use Rattle.switch_names.proofs.Below.{below_both}

-- a path is one that is left to look at, or lies above it
abbrev pub IsLeft : Option (List ℕ) → List ℕ → Type 0
IsLeft None q = ⊥
IsLeft (Some place) q = (q ≡ place) ⊎ (is_below place q ≡ true)

-- each path above one is free, but for those that are left to look at
abbrev pub IsFreeBut : (List ℕ → Type 0) → List ℕ → Option (List ℕ) → Type 0
IsFreeBut IsFree at next = (q : List ℕ) → is_below at q ≡ true → IsFree q ⊎ IsLeft next q

-- one more than the bytes of the path that is left to look at
abbrev pub bytes_left : Option (List ℕ) → ℕ
bytes_left None = 0
bytes_left (Some place) = length place + 1

-- what a path lies below is its parent, or lies above that
pub above_is_left : (path : List ℕ) (parent : Option (List ℕ)) → (IsNone parent → (q : List ℕ) → is_below path q ≡ false) →
    IfSome parent (IsParentOf path) → (q : List ℕ) → is_below path q ≡ true → IsLeft parent q
above_is_left path None none some q line = absurd (both_ways (is_below path q) (none refl q) line)
above_is_left path (Some place) none some q line = some.above q line

pub free_next : (IsFree : List ℕ → Type 0) (at place : List ℕ) (next : Option (List ℕ)) → IsFreeBut IsFree at (Some place) → IsFree place →
    (IsNone next → (q : List ℕ) → is_below place q ≡ false) → IfSome next (IsParentOf place) → IsFreeBut IsFree at next
free_next IsFree at place next free gone none some q line = ⊎_elim
    (λ empty. inl empty)
    (λ left. ⊎_elim (λ same. inl (subst IsFree (sym same) gone)) (λ below. inr (above_is_left place next none some q below)) left)
    (free q line)

-- where none is left to look at, each path above one is free
pub free_last : (IsFree : List ℕ → Type 0) (at : List ℕ) → IsFreeBut IsFree at None → (q : List ℕ) → is_below at q ≡ true → IsFree q
free_last IsFree at free q line = ⊎_elim (λ empty. empty) (λ none. absurd none) (free q line)

pub parent_above : (path : List ℕ) (parent : Option (List ℕ)) → IfSome parent (IsParentOf path) → IfSome parent (λ p. is_below path p ≡ true)
parent_above path None some = tt
parent_above path (Some place) some = some.below

pub next_above : (at path : List ℕ) (parent : Option (List ℕ)) → is_below at path ≡ true → IfSome parent (IsParentOf path) → IfSome parent (λ p. is_below at p ≡ true)
next_above at path None above some = tt
next_above at path (Some place) above some = below_both at path place above some.below
