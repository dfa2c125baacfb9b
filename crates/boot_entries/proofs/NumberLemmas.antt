-- The numbers of the paths of entries.
use Rattle.std.proofs.Common.{◌≡◌, ◌≢◌, ℕ, zero, suc, ◌<◌, ◌≤◌, ◌^◌, true, false, cond, ◌++◌, codes, Option, None, Some, refl, sym, ap, subst, ◌∙◌, inl, inr, arith}
use Rattle.std.proofs.lemmas.Bool.{both_ways, cases_Bool}
use Rattle.std.proofs.lemmas.Fmt.{decimal_injective}
use Rattle.std.proofs.lemmas.List.{append_cancel_left, append_cancel_right}
use Rattle.std.specs.Cmp.Lexicographic.{same_text, nat_list_eq_equiv}
use Rattle.std.specs.Fmt.{decimal}
use Rattle.host_trait.specs.World.{is_path}
use Rattle.switch_names.specs.Names.{Name}
use Rattle.generations.specs.Digits.{BearsNumber}
use Rattle.boot_entries.specs.Places.{entry_path, number_below, numbered}

-- entries of different numbers have different paths
pub one_entry : (m n : ℕ) → m < 2 ^ 32 → n < 2 ^ 32 → entry_path m ≡ entry_path n → m ≡ n
unfolding entry_path
one_entry m n small_m small_n same =
    decimal_injective m n (omega (arith, small_m)) (omega (arith, small_n))
    (append_cancel_right (decimal m) (decimal n) (codes ".conf") (append_cancel_left (codes "boot/loader/entries/nixos-generation-") (decimal m ++ codes ".conf") (decimal n ++ codes ".conf") same))

-- ---- the number as a function of the path

pub number_found : (bound : ℕ) (q : Name) (n : ℕ) → bound ≤ 2 ^ 32 → n < bound → q ≡ entry_path n → number_below bound q ≡ Some n
unfolding number_below
number_found zero q n all small is = absurd (omega (arith, small))
number_found (suc k) q n all small is = elim (cases_Bool (is_path q (entry_path k))) [
  | inl here ↦
      let one : k ≡ n = one_entry k n (omega (arith, all)) (omega (arith, all, small)) (sym (same_text q (entry_path k) (sym here)) ∙ is) in
      ap (λ b. cond b (Some k) (number_below k q)) here ∙ ap Some one
  | inr away ↦
      let below : n < k = omega (arith, small, other n k away is) in
      ap (λ b. cond b (Some k) (number_below k q)) away ∙ number_found k q n (omega (arith, all)) below is
]
  where
    other : (m j : ℕ) → is_path q (entry_path j) ≡ false → q ≡ entry_path m → m ≢ j
    other m j away is same = both_ways _ away (subst (λ x. is_path q x ≡ true) (is ∙ ap entry_path same) (nat_list_eq_equiv.refl q))

pub no_number : (bound : ℕ) (q : Name) → ((n : ℕ) → n < bound → q ≢ entry_path n) → number_below bound q ≡ None
unfolding number_below
no_number zero q lacks = refl
no_number (suc k) q lacks = elim (cases_Bool (is_path q (entry_path k))) [
  | inl here ↦ absurd (lacks k (omega arith) (same_text q (entry_path k) (sym here)))
  | inr away ↦ ap (λ b. cond b (Some k) (number_below k q)) away ∙ no_number k q (λ n small. lacks n (omega (arith, small)))
]

pub bears_numbered : (q : Name) (number : Option ℕ) → BearsNumber entry_path q number → number ≡ numbered q
unfolding numbered
bears_numbered q None lacks = sym (no_number (2 ^ 32) q lacks)
bears_numbered q (Some n) bears = sym (number_found (2 ^ 32) q n (omega arith) bears.1 bears.0)

-- the number of the digits between the front and the end of an entry's path
pub bears_entry : (q : Name) (number : Option ℕ) → BearsNumber (λ n. codes "boot/loader/entries/nixos-generation-" ++ (decimal n ++ codes ".conf")) q number → number ≡ numbered q
unfolding entry_path
bears_entry q number bears = bears_numbered q number bears
