use Rattle.std.proofs.Common.{refl, sym, subst}
use Rattle.unit_stage.specs.declared.unit_plan.UnitPlan.{UnitPlan}
use Rattle.unit_stage.specs.Known.{IsPlanBy}
use Rattle.unit_stage.proofs.planning.plan_of.Goals as goal

pub returns-clause-plan : goal.returns-clause-plan
returns-clause-plan c =
    subst (λ (plan : UnitPlan). IsPlanBy c.args.known plan) (sym c.new.ensures)
    (record {
      from = refl;
      defs = refl;
      owed = c.requires.owed;
      steady = c.requires.steady;
      in_order = c.requires.in_order;
      duties = c.requires.duties;
      write = λ leaves state. record { prepared = c.in_ok-write.ensures.prepared leaves state; counted = c.in_ok-write.ensures.counted };
    })
