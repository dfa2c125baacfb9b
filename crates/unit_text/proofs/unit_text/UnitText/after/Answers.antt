use Rattle.std.proofs.Common.{List, subst, sym}
use Rattle.unit_text.specs.declared.assignment.Assignment.{Assignment}
use Rattle.unit_text.specs.Index.{IsIndexOf}
use Rattle.unit_text.proofs.unit_text.UnitText.after.Goals as goal

pub invariant_of-result : goal.invariant_of-result
invariant_of-result c = subst (λ (later : List Assignment). IsIndexOf c.args.front later c.new-2.result) (sym c.new.ensures.items) (c.new-2.ensures c.args.front)
