use Rattle.std.proofs.Common.{◌≡◌, ◌++◌, map, take}
use Rattle.host_trait.specs.States.{state_of}
use Rattle.owed_plan.specs.Calls.{act_on, duty}
use Rattle.owed_plan.proofs.duty.add_listed.Given as goal

-- the calls on the units so far
abbrev pub invariant-loop-unit : goal.invariant-loop-unit
invariant-loop-unit l =
    l.duties ≡ l.fn.duties ++ map (λ unit. duty (act_on l.which (state_of l.states) l.stops unit) unit) (take l.unit-index l.units)
