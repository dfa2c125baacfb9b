-- What links say of the numbers that they bear.
use Rattle.std.proofs.Common.{◌≡◌, ℕ, ◌<◌, ◌^◌, true, false, List, ◌++◌, nat_lt, Option, None, Some, option_and_then, sym, ap, subst, ◌∙◌, inl, inr, arith}
use Rattle.std.proofs.lemmas.Bool.{cases_Bool}
use Rattle.std.proofs.lemmas.List.{append_cancel_left}
use Rattle.std.specs.Bool.{then_some}
use Rattle.generations.specs.Digits.{BearsNumber}
use Rattle.generations.specs.LinkNumber.{Bears}
use Rattle.generations.specs.Places.{is_number, link_name}
use Rattle.generations.proofs.Apart.{one_link}
use Rattle.generations.proofs.Numbers.{below_bound}

number_of : (n : ℕ) → n < 2 ^ 32 → nat_lt 0 n ≡ true → is_number n ≡ true
number_of n small above = grind arith

not_zero : (n k : ℕ) → nat_lt 0 n ≡ false → is_number k ≡ true → n ≡ k → ⊥
not_zero n k zero is same = grind arith

-- a name bears the number of a generation's link where the number that it bears is above 0
pub bears_above : (name : List ℕ) (number : Option ℕ) → BearsNumber link_name name number → Bears link_name name (option_and_then (λ n. then_some (nat_lt 0 n) n) number)
bears_above name None lacks = λ n is. lacks n (below_bound n is)
bears_above name (Some n) bears = elim (cases_Bool (nat_lt 0 n)) [
  | inl above ↦ subst (λ b. Bears link_name name (then_some b n)) (sym above) (bears.0, number_of n bears.1 above)
  | inr zero ↦ subst (λ b. Bears link_name name (then_some b n)) (sym zero) (λ k is same.
      not_zero n k zero is (one_link n k (omega (arith, bears.1)) (let small = below_bound k is in omega (arith, small)) (sym bears.0 ∙ same)))
]

-- a text after a front bears what it bears
pub bears_after : (front text inner : List ℕ) (number : Option ℕ) (written : ℕ → List ℕ) → text ≡ front ++ inner → Bears written inner number → Bears (λ n. front ++ written n) text number
bears_after front text inner None written is lacks = λ n of_generation same. lacks n of_generation (append_cancel_left front inner (written n) (sym is ∙ same))
bears_after front text inner (Some n) written is bears = (is ∙ ap (λ t. front ++ t) bears.0, bears.1)
