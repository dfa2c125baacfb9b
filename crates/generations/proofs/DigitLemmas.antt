-- What texts say of the numbers whose digits stand in them.
use Rattle.std.proofs.Common.{◌≡◌, ◌≢◌, ℕ, ◌<◌, ◌^◌, ◌+◌, ◌%◌, ◌==◌, ◌||◌, Bool, true, false, List, [], ◌∷◌, ◌++◌, Option, None, Some, Result, Ok, Err, IfOk, MatchOption, Bor, sym, ap, subst, ◌∙◌, arith}
use Rattle.std.proofs.lemmas.Bool.{both_ways, ne_eqb, or_from}
use Rattle.std.proofs.lemmas.Fmt.{decimal_by_steps, parse-decimal}
use Rattle.std.proofs.lemmas.List.{append_cancel_left, append_cancel_right}
use Rattle.std.proofs.lemmas.List.Folds.{list_any-append}
use Rattle.std.proofs.lemmas.Slice.Eq.{bytes_eq-Decides}
use Rattle.std.specs.Bool.{then_some}
use Rattle.std.specs.Fmt.{decimal}
use Rattle.std.specs.List.{list_any}
use Rattle.std.specs.Str.{bytes_eq}
use Rattle.std.specs.Str.Parse.{ParsesUnsigned}
use Rattle.switch_names.specs.Path.{slash}
use Rattle.generations.specs.Digits.{BearsNumber}

-- what precedes the end of what follows the front
pub stands_between : (text front rest end : List ℕ) (middle : Option (Bor (List ℕ))) → text ≡ front ++ rest →
    MatchOption middle ((m : List ℕ) → rest ≢ m ++ end) (λ m. rest ≡ m.now ++ end) →
    MatchOption middle ((m : List ℕ) → text ≢ front ++ (m ++ end)) (λ m. text ≡ front ++ (m.now ++ end))
stands_between text front rest end None is lacks = λ m same. lacks m (append_cancel_left front rest (m ++ end) (sym is ∙ same))
stands_between text front rest end (Some m) is ends = is ∙ ap (λ r. front ++ r) ends

-- what doesn't parse bears no number
pub bears_none : {E : Type 0} (text : List ℕ) (r : Result ℕ E) (e : E) → ParsesUnsigned 32 10 text r → r ≡ Err e → BearsNumber decimal text None
bears_none text r e parses failed n small same = cc (parse-decimal 32 n text r small (omega (arith, small)) same parses)

-- a parsed number is borne where the text is its digits
pub bears_digits : {E : Type 0} (text : List ℕ) (r : Result ℕ E) (number : ℕ) (is : Bool) → ParsesUnsigned 32 10 text r → r ≡ Ok number → number < 2 ^ 32 →
    is ≡ bytes_eq (decimal number) text → BearsNumber decimal text (then_some is number)
bears_digits text r number true parses parsed small is = (sym ((bytes_eq-Decides (decimal number) text).0 (sym is)), small)
bears_digits text r number false parses parsed small is = λ n of same.
    let one : number ≡ n = cc (parse-decimal 32 n text r of (omega (arith, of)) same parses) in
    both_ways _ (sym is) ((bytes_eq-Decides (decimal number) text).1 (sym (subst (λ k. text ≡ decimal k) (sym one) same)))

-- a text bears the number of the digits between its front and its end
pub bears_between : (front end text digits : List ℕ) (number : Option ℕ) → text ≡ front ++ (digits ++ end) → BearsNumber decimal digits number →
    BearsNumber (λ n. front ++ (decimal n ++ end)) text number
bears_between front end text digits None is lacks = λ n small same.
    lacks n small (append_cancel_right digits (decimal n) end (append_cancel_left front (digits ++ end) (decimal n ++ end) (sym is ∙ same)))
bears_between front end text digits (Some n) is bears = (is ∙ ap (λ (d : List ℕ). front ++ (d ++ end)) bears.0, bears.1)

-- a weaker property of what is answered
pub if_ok_as : {X E : Type 0} (r : Result X E) (P Q : X → Type 0) → IfOk r P → ((x : X) → P x → Q x) → IfOk r Q
if_ok_as (Ok x) P Q holds weaker = weaker x holds
if_ok_as (Err e) P Q holds weaker = tt

-- ---- no digit is a slash

digit_no_slash : (n : ℕ) → (48 + n == slash) ≡ false
digit_no_slash n = ne_eqb (48 + n) slash (λ same. absurd (omega arith))

decimal_no_slash : (n : ℕ) → n < 2 ^ 64 → list_any (λ byte. byte == slash) (decimal n) ≡ false
decimal_no_slash n small = decimal_by_steps (λ k ds. list_any (λ byte. byte == slash) ds ≡ false)
    (λ k digit. ap (λ b. b || false) (digit_no_slash k))
    (λ k ds more none. list_any-append (λ byte. byte == slash) ds ((48 + k % 10) ∷ []) ∙ or_from _ _ none (ap (λ b. b || false) (digit_no_slash (k % 10))))
    n small

-- nor is there one in a number's digits before an end without one
pub digits_no_slash : (n : ℕ) (end : List ℕ) → n < 2 ^ 64 → list_any (λ byte. byte == slash) end ≡ false → list_any (λ byte. byte == slash) (decimal n ++ end) ≡ false
digits_no_slash n end small none = list_any-append (λ byte. byte == slash) (decimal n) end ∙ or_from _ _ (decimal_no_slash n small) none
