use Rattle.std.proofs.Common.{◌≡◌, ◌++◌, List, get_or, map, ap, ◌∙◌}
use Rattle.host_trait.specs.States.{state_of}
use Rattle.log_text.specs.declared.lists.Which.{Which}
use Rattle.log_text.specs.declared.lists.Which.TheVariants.{Starts}
use Rattle.owed_plan.specs.Calls.{duty, give_order, listed_calls, stop_calls}
use Rattle.owed_plan.proofs.LoopLemmas.{joined_more}
use Rattle.owed_plan.proofs.TableLemmas.{same_act}
use Rattle.switch_names.specs.Names.{Name, has}
use Rattle.owed_plan.proofs.duty.calls.Goals as goal

pub loop-which-preserved : goal.loop-which-preserved
loop-which-preserved c =
    let owed = c.args.owed.now in
    let states = state_of c.args.states.now in
    let which : Which = get_or give_order c.loop-which.which-index Starts in
    let stopped : (unit : Name) → has c.in_ok-stops.stops unit ≡ has owed.stops unit = λ unit. c.in_ok-stops.ensures unit ∙ ap (λ (names : List Name). has names unit) c.as_slice.ensures in
    joined_more (listed_calls owed c.args.ordered.now.units states) give_order c.loop-which.which-index Starts (stop_calls owed) c.loop-which.duties c.add_listed.new.duties
    c.loop-which-test.true c.loop-which.invariant
    (c.in_ok-add_listed.ensures ∙ (λ i. c.loop-which.duties ++ map (λ unit. duty (same_act which states c.in_ok-stops.stops owed.stops unit (stopped unit) i) unit) (c.in_turn-units.ensures i)))
