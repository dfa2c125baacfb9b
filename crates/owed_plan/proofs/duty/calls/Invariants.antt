use Rattle.std.proofs.Common.{◌≡◌, ◌++◌, flat_map, take}
use Rattle.host_trait.specs.States.{state_of}
use Rattle.owed_plan.specs.Calls.{give_order, listed_calls, stop_calls}
use Rattle.owed_plan.proofs.duty.calls.Given as goal

-- the stops, and the calls of the lists so far
abbrev pub invariant-loop-which : goal.invariant-loop-which
invariant-loop-which l = l.duties ≡ stop_calls l.owed ++ flat_map (listed_calls l.owed l.ordered.units (state_of l.states)) (take l.which-index give_order)
