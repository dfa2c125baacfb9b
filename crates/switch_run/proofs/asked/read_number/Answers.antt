use Rattle.switch_run.proofs.AskedLemmas.{no_number, number_of}
use Rattle.std.proofs.Common.{ℕ, MatchOption, Option, rules, subst, sym}
use Rattle.switch_run.specs.Rehearsing.{IsNumber}
use Rattle.switch_run.proofs.asked.read_number.Goals as goal

pub returns-in_default : goal.returns-in_default
returns-in_default c = no_number c.args.text.now c.parse.result c.in_default.field-0 c.parse.ensures.value.0 c.in_default.is

pub returns : goal.returns
returns c =
    let text = c.args.text.now in
    subst (λ (o : Option ℕ). MatchOption o ((n : ℕ) → IsNumber text n → ⊥) (IsNumber text)) (sym c.then_some.ensures)
    (number_of text c.parse.result c.in-Ok.number c.in_ok-is_written.is_written c.parse.ensures.value.0 c.in-Ok.is (search rules) c.in_ok-is_written.ensures)
