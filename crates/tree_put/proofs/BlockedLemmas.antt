-- Leaves that block a path, key by key.
use Rattle.std.proofs.Common.{◌≡◌, ℕ, true, false, ◌||◌, not, List, None, IsSome, sym, ap, subst, ◌∙◌, inl, inr}
use Rattle.std.proofs.lemmas.Bool.{cases_Bool, both_ways, or_parts, or_left, or_right, and_from, not_from_false}
use Rattle.std.proofs.lemmas.Map.Views.{any-filter_same}
use Rattle.std.specs.Cmp.Lexicographic.{same_text}
use Rattle.std.specs.FinMap.{get, keys}
use Rattle.std.specs.List.{filter, list_any}
use Rattle.switch_names.specs.Path.{is_below}
use Rattle.host_trait.specs.World.{Leaves, is_in_line, is_listed, is_path, IsClear, stage}
use Rattle.host_trait.proofs.Above.{IsFreeBut, free_last}
use Rattle.host_trait.proofs.KeyTests.{all_fail, below_or_above, none_passes, one_passes}
use Rattle.tree_put.specs.Put.{is_blocked}

-- a path that isn't blocked is clear
pub clear_of_free : (leaves : Leaves) (at : List ℕ) → is_blocked leaves at ≡ false → IsClear leaves at
clear_of_free leaves at free = none_passes (λ q. is_in_line q at) leaves free

-- a leaf in line with a path blocks it
pub blocked_by : (leaves : Leaves) (at q : List ℕ) → is_in_line q at ≡ true → IsSome (get leaves q) → is_blocked leaves at ≡ true
blocked_by leaves at q line stands = one_passes (λ p. is_in_line p at) leaves q line stands

-- a path that is clear isn't blocked
pub free_of_clear : (leaves : Leaves) (at : List ℕ) → IsClear leaves at → is_blocked leaves at ≡ false
free_of_clear leaves at clear = all_fail (λ q. is_in_line q at) leaves clear

pub blocked_below : (leaves : Leaves) (at : List ℕ) → list_any (λ q. is_below q at) (keys leaves) ≡ true → true ≡ is_blocked leaves at
blocked_below leaves at below =
    sym (below_or_above (keys leaves) at ∙ or_left (list_any (λ q. is_below q at) (keys leaves)) (list_any (λ q. is_below at q) (keys leaves)) below)

pub blocked_above : (leaves : Leaves) (at : List ℕ) → list_any (λ q. is_below q at) (keys leaves) ≡ false → list_any (λ q. is_below at q) (keys leaves) ≡ is_blocked leaves at
blocked_above leaves at none = sym (below_or_above (keys leaves) at ∙ ap (λ b. b || list_any (λ q. is_below at q) (keys leaves)) none)

not_the_stage : (at k : List ℕ) → is_in_line stage at ≡ false → is_below k at ≡ true → is_path k stage ≡ false
not_the_stage at k apart below = elim (cases_Bool (is_path k stage)) [
  | inl is ↦
      let parts = or_parts (is_below stage at) (is_below at stage) apart in
      absurd (both_ways (is_below stage at) parts.0 (subst (λ q. is_below q at ≡ true) (same_text k stage (sym is)) below))
  | inr is ↦ is
]

-- the list of a place has all that is below it, where the stage isn't
pub listed_below : (at : List ℕ) → is_in_line stage at ≡ false → (ks : List (List ℕ)) →
    list_any (λ q. is_below q at) (filter (is_listed at) ks) ≡ list_any (λ q. is_below q at) ks
listed_below at apart ks =
    any-filter_same (λ q. is_below q at) (is_listed at) true
    (λ k below. and_from (is_path k at || is_below k at) (not (is_path k stage))
    (or_right (is_path k at) (is_below k at) below) (not_from_false (is_path k stage) (not_the_stage at k apart below))) ks

-- no leaf stands at a path
abbrev pub IsEmptyAt : Leaves → List ℕ → Type 0
IsEmptyAt leaves q = get leaves q ≡ None

-- where none is left to read, no leaf stands above a path
pub none_above : (at : List ℕ) (leaves : Leaves) → IsFreeBut (IsEmptyAt leaves) at None → list_any (λ q. is_below at q) (keys leaves) ≡ false
none_above at leaves free = all_fail (λ q. is_below at q) leaves (free_last (IsEmptyAt leaves) at free)
