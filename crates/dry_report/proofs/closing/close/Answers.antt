use Rattle.std.proofs.Common.{arith, ◌∙◌}
use Rattle.std.proofs.lemmas.Grind.{common_steps}
use Rattle.switch_engine.specs.Plan.{units_of}
use Rattle.dry_report.proofs.CloseLemmas.{closing_part, lines_part, same_lines}
use Rattle.dry_report.proofs.PutLemmas.{same_part, same_text}
use Rattle.dry_report.proofs.closing.close.Goals as goal

pub returns-in_err-put-clause-prefix : goal.returns-in_err-put-clause-prefix
returns-in_err-put-clause-prefix g c =
    let lines = same_lines c.defs.ensures (c.as_slice.ensures ∙ c.list.ensures.list) in
    closing_part (units_of c.args.plan.now).defs c.args.outcome.now.states (same_text lines c.in_ok-put_all_failed.ensures.ok) (same_part c.as_bytes.ensures.value c.put.ensures.prefix)

pub returns-clause-prefix : goal.returns-clause-prefix
returns-clause-prefix g c =
    let lines = same_lines c.defs.ensures (c.as_slice.ensures ∙ c.list.ensures.list) in
    closing_part (units_of c.args.plan.now).defs c.args.outcome.now.states (same_text lines c.in_ok-put_all_failed.ensures.ok) (same_part c.as_bytes.ensures.value c.put.ensures.prefix)

pub returns-in_err-put_all_failed-clause-prefix : goal.returns-in_err-put_all_failed-clause-prefix
returns-in_err-put_all_failed-clause-prefix g c =
    let lines = same_lines c.defs.ensures (c.as_slice.ensures ∙ c.list.ensures.list) in
    lines_part (units_of c.args.plan.now).defs c.args.outcome.now.states (same_part lines c.put_all_failed.ensures.prefix)

pub returns-clause-ok : goal.returns-clause-ok
returns-clause-ok g c = grind (arith, common_steps) steps 500000
