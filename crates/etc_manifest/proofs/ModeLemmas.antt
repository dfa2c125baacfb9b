-- Numbers in octal digits.
use Rattle.std.proofs.Common.{◌≡◌, ℕ, zero, suc, ◌+◌, ◌-◌, ◌*◌, ◌<◌, ◌≤◌, true, List, length, get_or, drop, sym, ap, ◌∙◌, add-one, arith}
use Rattle.std.specs.Char.{digit_value}
use Rattle.std.specs.List.{list_all}
use Rattle.std.specs.Str.Parse.{digits_value, digits_value_after}
use Rattle.std.proofs.Math.Seq.{drop-cons}
use Rattle.std.proofs.lemmas.Bool.{and_parts, leb-true}
use Rattle.std.proofs.lemmas.Bool.Decides.{nat_tests}
use Rattle.std.proofs.lemmas.List.{at_drop_more}
use Rattle.etc_manifest.specs.Kind.{is_octal, is_octal_digit}

-- the greatest number of so many octal digits
abbrev pub octal_max : ℕ → ℕ
octal_max zero = 0
octal_max (suc count) = 8 * octal_max count + 7

pub max_of_four : (count : ℕ) → count ≤ 4 → octal_max count ≤ 4095
max_of_four zero few = omega arith
max_of_four (suc zero) few = omega arith
max_of_four (suc (suc zero)) few = omega arith
max_of_four (suc (suc (suc zero))) few = omega arith
max_of_four (suc (suc (suc (suc zero)))) few = omega arith
max_of_four (suc (suc (suc (suc (suc count))))) few = absurd (omega arith)

pub highest_digit : (digit : ℕ) → is_octal_digit digit ≡ true → digit ≤ 55
highest_digit digit is = leb-true digit 55 (and_parts _ _ is).1

-- where the digits that are left are octal, the next is
pub digit_at : (digits : List ℕ) (i : ℕ) → i < length digits → list_all is_octal_digit (drop i digits) ≡ true → is_octal_digit (get_or digits i 0) ≡ true
digit_at digits i within all =
    (and_parts (is_octal_digit (get_or digits i 0)) (list_all is_octal_digit (drop (suc i) digits)) (sym (ap (list_all is_octal_digit) (drop-cons digits i 0 within)) ∙ all)).0

-- there are four digits at most
pub few_digits : (digits : List ℕ) → is_octal digits ≡ true → length digits ≤ 4
few_digits digits is = leb-true (length digits) 4 (and_parts _ _ is).1

-- before the last of four digits a number is low
pub low_value : (value count : ℕ) → count < 4 → value ≤ octal_max count → value ≤ 511
low_value value zero few low = omega (arith, low)
low_value value (suc zero) few low = omega (arith, low)
low_value value (suc (suc zero)) few low = omega (arith, low)
low_value value (suc (suc (suc zero))) few low = omega (arith, low)
low_value value (suc (suc (suc (suc count)))) few low = absurd (omega arith)

octal_digit : (digit : ℕ) → is_octal_digit digit ≡ true → digit_value digit ≡ digit - 48
octal_digit digit is =
    let low : 48 ≤ digit = leb-true 48 digit (and_parts _ _ is).0 in
    let high : digit ≤ 55 = highest_digit digit is in
    grind (arith, nat_tests)

-- one digit more of those that are left
module _ (digits : List ℕ) (i value digit : ℕ) (within : i < length digits) (left : list_all is_octal_digit (drop i digits) ≡ true) (is : digit ≡ get_or digits i 0 - 48) where
  pub value_more : digits_value_after 8 value (drop i digits) ≡ digits_value 8 digits → digits_value_after 8 (value * 8 + digit) (drop (i + 1) digits) ≡ digits_value 8 digits
  value_more so_far =
      ap (λ d. digits_value_after 8 (value * 8 + d) (drop (i + 1) digits)) (is ∙ sym (octal_digit (get_or digits i 0) (digit_at digits i within left)))
      ∙ sym (at_drop_more (digits_value_after 8 value) digits i 0 within)
      ∙ so_far

  pub small_more : value ≤ octal_max i → value * 8 + digit ≤ octal_max (i + 1)
  small_more small =
      let high = highest_digit (get_or digits i 0) (digit_at digits i within left) in
      let next : octal_max (i + 1) ≡ 8 * octal_max i + 7 = rw add-one in
      omega arith

  pub left_more : list_all is_octal_digit (drop (i + 1) digits) ≡ true
  left_more =
      (and_parts (is_octal_digit (get_or digits i 0)) (list_all is_octal_digit (drop (i + 1) digits)) (sym (at_drop_more (list_all is_octal_digit) digits i 0 within) ∙ left)).1
