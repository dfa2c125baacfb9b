use Rattle.std.proofs.Common.{◌++◌, [], ◌∷◌, Result, Ok, Err, OnOk, ap, subst, sym, ◌∙◌}
use Rattle.host_trait.specs.declared.manager_state.ManagerState.{ManagerState}
use Rattle.manager_core.specs.StateText.{IsLine, IsTextOf, lines_text}
use Rattle.manager_core.specs.UnitLine.{unit_text}
use Rattle.manager_core.specs.declared.line.Line.TheVariants as line
use Rattle.manager_core.proofs.UnitLines.{acted_text}
use Rattle.manager_core.proofs.written_state.act_in.Goals as goal
use Rattle.switch_names.proofs.Outcomes.{on_ok_both}

pub returns-clause-text : goal.returns-clause-text
returns-clause-text c =
    let old = c.args.state.now in
    let unit = c.args.unit.now in
    let done = c.in_ok-act_on.ensures.ok in
    let same = ap (λ (m : ManagerState). m.loaded) done in
    on_ok_both c.write_act.result (λ added is_line.
    subst (λ (m : ManagerState). IsTextOf m c.write_act.new.out.items) (sym done)
    (acted_text old unit c.in-Some.from c.in-Some.to c.args.text.now.items c.requires c.in-Some.ensures c.args.act is_line.0
    (subst (λ l. IsLine (line.Entry (record { unit = unit; act = c.args.act; loaded = l }))) same is_line)
    c.in_ok-line.line.items c.replace.new.text.items c.write_act.new.out.items (c.in_ok-line.ensures ∙ ap (unit_text unit) c.state_after.ensures) c.in_ok-replace.ensures
    (added ∙ ap (λ l. c.replace.new.text.items ++ lines_text (line.Entry (record { unit = unit; act = c.args.act; loaded = l }) ∷ [])) same)))
    c.write_act.ensures.text c.write_act.ensures.line
