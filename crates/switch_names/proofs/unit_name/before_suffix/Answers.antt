use Rattle.std.proofs.Common.{◌≡◌, ℕ, ◌+◌, ◌-◌, true, false, List, length, take, nat_eq, Option, None, Some, MatchOption, Bor, sym, arith}
use Rattle.std.specs.List.{ends_with}
use Rattle.std.specs.Str.Pattern.{FindsTextSuffix}
use Rattle.std.proofs.lemmas.Str.Pattern.{ends_text}
use Rattle.switch_names.proofs.unit_name.before_suffix.Goals as goal

stripped : (suffix text : List ℕ) (rest : Option (Bor (List ℕ))) → MatchOption rest (FindsTextSuffix suffix text None) (λ x. (n : ℕ) × FindsTextSuffix suffix text (Some n) × (x.now ≡ take (length text - n) text) × (length x.now + n ≡ length text)) → MatchOption rest (ends_with nat_eq text suffix ≡ false) (λ x. (ends_with nat_eq text suffix ≡ true) × (x.now ≡ take (length text - length suffix) text))
stripped suffix text None is = sym (ends_text false suffix text is)
stripped suffix text (Some rest) is = (sym (ends_text true suffix text (is.0, is.1, omega (arith, is.3), rw is.1.0 is.1.2)), rw (← is.1.0) is.2)

-- the text ends with the suffix exactly where something precedes it
pub returns : goal.returns
returns c = stripped c.args.suffix.now c.args.text.now c.strip_suffix.result c.strip_suffix.ensures.cases
