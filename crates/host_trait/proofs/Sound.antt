-- No leaf stands above or below another: kept by each change of a world.
use Rattle.std.proofs.Common.{◌≡◌, ◌≢◌, ℕ, Bool, true, false, ◌||◌, nat_lt, List, length, Option, None, Some, IsSome, Result, Ok, OnOk, refl, sym, ap, subst, ◌∙◌, inl, inr, rules, arith}
use Rattle.std.proofs.lemmas.Bool.{both_ways}
use Rattle.std.specs.FinMap.{get, insert, remove, gets, get-empty, get_tied, empty}
use Rattle.std.specs.Ordering.{eq_by_cmp}
use Rattle.switch_names.specs.Path.{IsPath, is_below}
use Rattle.host_trait.specs.declared.leaf.LeafKind.{LeafKind}
use Rattle.host_trait.specs.World.{Leaves, bytes_cmp, is_in_line, IsClear, IsInTheWay, IsSound, moved, with_moved}
use Rattle.host_trait.proofs.Places.{bytes_total, alike, same_or_other, none_or_present}

or_comm : (a b : Bool) → a || b ≡ b || a
or_comm true true = refl
or_comm true false = refl
or_comm false true = refl
or_comm false false = refl

pub in_line_either : (p q : List ℕ) → is_in_line p q ≡ true → is_in_line q p ≡ true
in_line_either p q is = or_comm (is_below q p) (is_below p q) ∙ is

pub line_turned : (p q : List ℕ) → is_in_line p q ≡ false → is_in_line q p ≡ false
line_turned p q none = or_comm (is_below q p) (is_below p q) ∙ none

not_longer : (n : ℕ) → nat_lt n n ≡ false
not_longer n = grind arith

-- no path lies below itself
pub not_in_line : (p : List ℕ) → is_in_line p p ≡ false
not_in_line p = rw (not_longer (length p))

pub clear_or_not : (m : Leaves) (at : List ℕ) → IsClear m at → IsInTheWay m at → ⊥
clear_or_not m at clear way = none_or_present _ (clear way.0 way.1) way.2

pub sound_empty : IsSound empty
sound_empty = record {
  paths = λ q is. absurd (none_or_present _ (get-empty bytes_cmp q) is);
  apart = λ q is r line. get-empty bytes_cmp r;
}

present_before : (m : Leaves) (at q : List ℕ) (leaf : LeafKind) → eq_by_cmp bytes_cmp q at ≡ false → IsSome (get (insert m at leaf) q) → IsSome (get m q)
present_before m at q leaf other is = subst (λ o. IsSome o) (let e : get (insert m at leaf) q ≡ get m q = grind (gets, rules) in e) is

nothing_new : (m : Leaves) (at q : List ℕ) (leaf : LeafKind) → IsClear m at → IsSome (get (insert m at leaf) q) → is_in_line at q ≡ true → ⊥
nothing_new m at q leaf clear is line = elim (same_or_other q at) [
  | inl same ↦ both_ways _ (not_in_line at) (subst (λ x. is_in_line at x ≡ true) same line)
  | inr other ↦ none_or_present _ (clear q (in_line_either at q line)) (present_before m at q leaf other is)
]

still_none : (m : Leaves) (at q r : List ℕ) (leaf : LeafKind) → IsClear m at → IsSound m → IsSome (get (insert m at leaf) q) → is_in_line r q ≡ true → get m r ≡ None
still_none m at q r leaf clear sound is line = elim (same_or_other q at) [
  | inl same ↦ clear r (subst (λ x. is_in_line r x ≡ true) same line)
  | inr other ↦ sound.apart q (present_before m at q leaf other is) r line
]

pub get_other : (m : Leaves) (at r : List ℕ) (leaf : LeafKind) → eq_by_cmp bytes_cmp r at ≡ false → get (insert m at leaf) r ≡ get m r
get_other m at r leaf other = grind (gets, rules)

-- a leaf put where it is in line with no path in question leaves that clear
pub clear_insert : (m : Leaves) (at p : List ℕ) (leaf : LeafKind) → is_in_line at p ≡ false → IsClear m p → IsClear (insert m at leaf) p
clear_insert m at p leaf apart clear q line = elim (same_or_other q at) [
  | inl same ↦ absurd (both_ways _ apart (subst (λ x. is_in_line x p ≡ true) same line))
  | inr other ↦ get_other m at q leaf other ∙ clear q line
]

pub sound_insert : (m : Leaves) (at : List ℕ) (leaf : LeafKind) → IsPath at → IsClear m at → IsSound m → IsSound (insert m at leaf)
sound_insert m at leaf path clear sound = record {
  paths = λ q is. elim (same_or_other q at) [
    | inl same ↦ subst IsPath (sym same) path
    | inr other ↦ sound.paths q (present_before m at q leaf other is)
  ];
  apart = λ q is r line. elim (same_or_other r at) [
    | inl same ↦ absurd (nothing_new m at q leaf clear is (subst (λ x. is_in_line x q ≡ true) same line))
    | inr other ↦ get_other m at r leaf other ∙ still_none m at q r leaf clear sound is line
  ];
}

absent_still : (m : Leaves) (at q : List ℕ) → get m q ≡ None → get (remove m at) q ≡ None
absent_still m at q none = grind (gets, rules)

present_still : (m : Leaves) (at q : List ℕ) → IsSome (get (remove m at) q) → IsSome (get m q)
present_still m at q is = elim (get m q) as (λ o. get m q ≡ o → IsSome o) [
  | None ↦ λ e. absurd (none_or_present _ (absent_still m at q e) is)
  | Some leaf ↦ λ e. refl
] refl

pub clear_remove : (m : Leaves) (at p : List ℕ) → IsClear m p → IsClear (remove m at) p
clear_remove m at p clear q line = absent_still m at q (clear q line)

pub sound_remove : (m : Leaves) (at : List ℕ) → IsSound m → IsSound (remove m at)
sound_remove m at sound = record {
  paths = λ q is. sound.paths q (present_still m at q is);
  apart = λ q is r line. absent_still m at r (sound.apart q (present_still m at q is) r line);
}

with_moved_sound : (m : Leaves) (from to : List ℕ) (leaf : Option LeafKind) → IsPath to → IsClear m to → IsSound m → IsSound (with_moved m from to leaf)
with_moved_sound m from to None path clear sound = sound
with_moved_sound m from to (Some leaf) path clear sound = sound_insert (remove m from) to leaf path (clear_remove m from to clear) (sound_remove m from sound)

pub sound_moved : (m : Leaves) (from to : List ℕ) → IsPath to → IsClear m to → IsSound m → IsSound (moved m from to)
sound_moved m from to path clear sound = with_moved_sound m from to (get m from) path clear sound

-- a leaf put elsewhere leaves what stands at a place
pub still_there : (m after : Leaves) (from to place : List ℕ) (leaf : LeafKind) → place ≡ to → to ≢ from → after ≡ insert m place leaf → get after from ≡ get m from
still_there m after from to place leaf is other new = elim (same_or_other from place) [
  | inl same ↦ absurd (other (sym is ∙ sym same))
  | inr apart ↦ ap (λ (n : Leaves). get n from) new ∙ get_other m place from leaf apart
]

-- a leaf put at a place, taken out elsewhere and put there again, has moved
pub moved_by_steps :
    (m after rest last : Leaves) (from to place again : List ℕ) (blank leaf : LeafKind) →
    place ≡ to → again ≡ to → to ≢ from → get m from ≡ Some leaf →
    after ≡ insert m place blank → rest ≡ remove after from → last ≡ insert rest again leaf → last ≡ moved m from to
moved_by_steps m after rest last from to place again blank leaf first second other was new without with_it =
    let apart : eq_by_cmp bytes_cmp to from ≡ false = elim (same_or_other to from) [ inl same ↦ absurd (other same) | inr is ↦ is ] in
    with_it ∙ ap (λ (n : Leaves). insert n again leaf) (without ∙ ap (λ (n : Leaves). remove n from) new)
    ∙ ap (λ p. insert (remove (insert m p blank) from) again leaf) first ∙ ap (λ p. insert (remove (insert m to blank) from) p leaf) second
    ∙ alike _ _ (λ q. let tied = get_tied bytes_total m q to in grind (gets, rules)) ∙ ap (with_moved m from to) (sym was)

-- a leaf put at a place is there after another one is taken out elsewhere
pub kept_place :
    (m after rest : Leaves) (from to place again : List ℕ) (blank : LeafKind) →
    place ≡ to → again ≡ to → to ≢ from → after ≡ insert m place blank → rest ≡ remove after from → IsSome (get rest again)
kept_place m after rest from to place again blank first second other new without =
    let apart : eq_by_cmp bytes_cmp to from ≡ false = elim (same_or_other to from) [ inl same ↦ absurd (other same) | inr is ↦ is ] in
    let is : get (remove (insert m to blank) from) to ≡ Some blank = grind (gets, rules) in
    subst (λ o. IsSome o)
    (sym (ap (λ (n : Leaves). get n again) (without ∙ ap (λ (n : Leaves). remove n from) (new ∙ ap (λ p. insert m p blank) first))
    ∙ ap (λ p. get (remove (insert m to blank) from) p) second ∙ is)) refl

pub on_ok_at : {T E P : Type 0} (r : Result T E) (x : T) → r ≡ Ok x → OnOk r P → P
on_ok_at {P = P} r x is holds = subst (λ v. OnOk v P) is holds

pub sound_same : (m n : Leaves) → n ≡ m → IsSound m → IsSound n
sound_same m n is sound = subst IsSound (sym is) sound
