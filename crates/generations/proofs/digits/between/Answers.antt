use Rattle.std.proofs.Common.{◌≡◌, ◌≢◌, ℕ, List, ◌++◌, MatchOption, rules}
use Rattle.generations.proofs.DigitLemmas.{stands_between}
use Rattle.generations.proofs.digits.between.Goals as goal

pub returns : goal.returns
returns c =
    let rest = c.in_ok-after.field-0.now in
    let end = c.args.end.now in
    let cut : MatchOption c.strip_suffix.result ((m : List ℕ) → rest ≢ m ++ end) (λ m. rest ≡ m.now ++ end) = search rules in
    stands_between c.args.text.now c.args.front.now rest end c.strip_suffix.result c.in_ok-after.ensures cut
