use Rattle.std.proofs.Common.{List, ap, subst, ◌∙◌}
use Rattle.owed_plan.specs.Collected.{IsCollected}
use Rattle.owed_plan.specs.Systems.{systems_in}
use Rattle.owed_plan.specs.Decisions.{Situation}
use Rattle.host_trait.specs.States.{state_of}
use Rattle.owed_plan.proofs.PlanLemmas.{planned}
use Rattle.owed_plan.proofs.planning.plan.Goals as goal
use Rattle.switch_names.specs.Names.{Name, has}

pub returns : goal.returns
returns c =
    let situation : Situation = record { systems = systems_in c.args.old.now c.args.new.now; states = state_of c.args.states.now; waits = has c.in_ok-waiting.waiting } in
    planned (systems_in c.args.old.now c.args.new.now) c.args.states.now c.args.lists.now c.in_ok-waiting.waiting c.args.pulled.now c.as_slice-2.result.now c.in_ok-owed.owed c.requires
    (λ unit. c.in_ok-waiting.ensures unit ∙ ap (λ (names : List Name). has names unit) c.as_slice.ensures)
    (c.as_slice-2.ensures.value ∙ c.in_ok-decisions.ensures)
    (subst (λ (names : List Name). IsCollected situation c.as_slice-2.result.now c.args.lists.now names c.in_ok-owed.owed) c.as_slice-3.ensures c.in_ok-owed.ensures)
