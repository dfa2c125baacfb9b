use Rattle.std.proofs.Common.{List, arith, sym, ap, ◌∙◌}
use Rattle.std.proofs.lemmas.Grind.{common_steps}
use Rattle.switch_names.specs.Names.{Name, has}
use Rattle.host_trait.proofs.UnitSets.{had_or_listed, on_err}
use Rattle.host_trait.proofs.unit_set.UnitSet.insert_all.Goals as goal

pub loop-unit-preserved : goal.loop-unit-preserved
loop-unit-preserved c = grind (arith, common_steps)

pub returns-in_err-copy-clause-no_other : goal.returns-in_err-copy-clause-no_other
returns-in_err-copy-clause-no_other c = on_err c.from_residual.result (λ name is. had_or_listed (has c.args.self.now name) c.args.units.now _ name (sym (c.loop-unit.invariant name) ∙ is))

pub returns-in_err-insert-clause-no_other : goal.returns-in_err-insert-clause-no_other
returns-in_err-insert-clause-no_other c = on_err c.from_residual-in_err-insert.result (λ name is.
    had_or_listed (has c.args.self.now name) c.args.units.now _ name
    (sym (c.loop-unit.invariant name) ∙ sym (ap (λ (names : List Name). has names name) c.in_err-insert.ensures.kept) ∙ is))
