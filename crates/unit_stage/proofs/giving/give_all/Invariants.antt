use Rattle.std.proofs.Common.{Ok, take}
use Rattle.host_trait.specs.Host.{Becomes, Passes, HasCause}
use Rattle.owed_plan.specs.Calls.{give_order}
use Rattle.unit_stage.specs.PlanCalls.{calls_in}
use Rattle.unit_stage.specs.Steps.{IsGiveMoment, with_all_given}
use Rattle.unit_stage.proofs.giving.give_all.Given as goal

-- the lists so far are given
abbrev pub invariant-loop-which : goal.invariant-loop-which
invariant-loop-which g l =
    let start = g.H.Tree.host l.fn.host in
    let now = g.H.Tree.host l.host in
    record {
      way : Passes start now (IsGiveMoment (calls_in l.calls) give_order);
      made : Becomes start now (with_all_given (calls_in l.calls) (take l.which-index give_order));
      cause : HasCause {T = Unit {0}} start now (Ok tt);
    }
