-- How often places below etc are written.
use Rattle.std.proofs.Common.{◌≡◌, ◌≤◌, ◌+◌, ◌||◌, Bool, true, false, cond, List, [], ◌∷◌, map, Some, refl, sym, ap, subst, ◌∙◌, inl, inr, arith}
use Rattle.std.proofs.lemmas.Bool.{both_ways, cases_Bool, or_from}
use Rattle.std.specs.FinMap.{get}
use Rattle.std.specs.List.Sorted.{IsStrictlySortedBy}
use Rattle.switch_names.specs.Names.{Name, has, is_name}
use Rattle.host_trait.specs.declared.leaf.LeafKind.{LeafKind}
use Rattle.host_trait.specs.World.{WorldState, bytes_cmp}
use Rattle.host_trait.proofs.NameOrder.{name_exact}
use Rattle.tree_put.specs.Put.{IsPutIfOther, written_if}
use Rattle.switch_parts.specs.Quiet.{times}
use Rattle.switch_parts.proofs.QuietLemmas.{times_more, times_never, times_once}
use Rattle.etc_clean.specs.Names.{place}
use Rattle.etc_clean.proofs.NameLemmas.{place_same}
use Rattle.etc_farm.proofs.LeafLemmas.{placed_name}

-- ---- how often places below etc are written

place_times : (names : List Name) (x : Name) → times (place x) (map place names) ≡ times x names
place_times [] x = refl
place_times (y ∷ names) x = times_more (place x) (place y) (map place names) ∙ (λ i. cond (place_same x y i) 1 0 + place_times names x i) ∙ sym (times_more x y names)

pub never_among : (names : List Name) (x : Name) → has names x ≡ false → times (place x) (map place names) ≡ 0
never_among names x none = place_times names x ∙ times_never x names none

pub once_among : (names : List Name) (x : Name) → IsStrictlySortedBy bytes_cmp names → times (place x) (map place names) ≤ 1
once_among names x sorted = subst (λ n. n ≤ 1) (sym (place_times names x)) (times_once x names sorted)

pub among_place : (names : List Name) (q : Name) → has (map place names) q ≡ true → (x : Name) × (q ≡ place x) × (has names x ≡ true)
among_place [] q there = absurd (both_ways false refl there)
among_place (y ∷ names) q there = elim (cases_Bool (is_name q (place y))) [
  | inl is ↦
      let same = name_exact q (place y) is in
      (y, same, placed_name (y ∷ names) y (subst (λ p. has (map place (y ∷ names)) p ≡ true) same there))
  | inr not ↦
      let rest = among_place names q (sym (ap (λ b. b || has (map place names) q) not) ∙ there) in
      (rest.0, rest.1, placed_name (y ∷ names) rest.0 (subst (λ p. has (map place (y ∷ names)) p ≡ true) rest.1 there))
]

pub once_written : (q at : Name) (put : Bool) → times q (written_if put at) ≤ 1
once_written q at true = by (is_name q at) (times_more q at [])
  where
    by : (b : Bool) → times q (at ∷ []) ≡ cond b 1 0 + 0 → times q (at ∷ []) ≤ 1
    by true is = omega (arith, is)
    by false is = omega (arith, is)
once_written q at false = omega arith

pub other_unwritten : (q at : Name) (put : Bool) → is_name q at ≡ false → times q (written_if put at) ≡ 0
other_unwritten q at true other = times_never q (at ∷ []) (or_from (is_name q at) false other refl)
other_unwritten q at false other = refl

-- what stands isn't put
pub standing_unput : (q at : Name) (leaf : LeafKind) (put : Bool) (z : WorldState) → IsPutIfOther at leaf put z → get z.leaves at ≡ Some leaf → times q (written_if put at) ≡ 0
standing_unput q at leaf true z other stands = absurd (other stands)
standing_unput q at leaf false z other stands = refl
