use Rattle.std.proofs.Common.{sym, ◌∙◌}
use Rattle.switch_names.specs.UnitName.{unit_fault}
use Rattle.switch_names.proofs.Named.{none_named}
use Rattle.log_text.proofs.LineLemmas.{none_other, none_unended}
use Rattle.log_text.proofs.lines.first_names.Goals as goal

pub returns-in_default : goal.returns-in_default
returns-in_default c = record { text_is = c.loop.invariant.0; are = c.loop.invariant.1; ends = none_unended c.loop.rest.now c.in_default.ensures }

pub returns-in_default-2 : goal.returns-in_default-2
returns-in_default-2 c = record {
  text_is = c.loop.invariant.0;
  are = c.loop.invariant.1;
  ends = none_other c.loop.rest.now c.in-Some.line.now c.in-Some.after.now c.in-Some.ensures.0 c.in-Some.ensures.1 (none_named c.in-Some.line.now (unit_fault c.in-Some.line.now) (sym c.in_default-2.is ∙ c.in_ok-name.ensures));
}
