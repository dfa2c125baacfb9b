use Rattle.generations.proofs.DigitLemmas.{bears_none, bears_digits}
use Rattle.std.proofs.Common.{rules, subst, sym}
use Rattle.generations.specs.Digits.{BearsNumber}
use Rattle.std.specs.Fmt.{decimal}
use Rattle.generations.proofs.digits.number_of_digits.Goals as goal

pub returns-in_default : goal.returns-in_default
returns-in_default c = bears_none c.args.text.now c.parse.result c.in_default.field-0 c.parse.ensures.value.0 c.in_default.is

pub returns : goal.returns
returns c =
    subst (BearsNumber decimal c.args.text.now) (sym c.then_some.ensures)
    (bears_digits c.args.text.now c.parse.result c.in-Ok.number c.in_ok-is_written.is_written c.parse.ensures.value.0 c.in-Ok.is (search rules) c.in_ok-is_written.ensures)
