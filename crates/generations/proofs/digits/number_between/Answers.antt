use Rattle.std.proofs.Common.{◌++◌}
use Rattle.std.specs.Fmt.{decimal}
use Rattle.generations.specs.Digits.{BearsNumber}
use Rattle.generations.proofs.DigitLemmas.{bears_between, if_ok_as}
use Rattle.generations.proofs.digits.number_between.Goals as goal

pub returns-in-Some : goal.returns-in-Some
returns-in-Some c =
    let front = c.args.front.now in let end = c.args.end.now in let text = c.args.text.now in
    if_ok_as c.number_of_digits.result (BearsNumber decimal c.in-Some.digits.now) (BearsNumber (λ n. front ++ (decimal n ++ end)) text) c.number_of_digits.ensures
    (λ number given. bears_between front end text c.in-Some.digits.now number c.in-Some.ensures given)

pub returns-in-None : goal.returns-in-None
returns-in-None c = λ n small. c.in-None.ensures (decimal n)
