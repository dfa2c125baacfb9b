use Rattle.std.proofs.Common.{◌≡◌, List, ℕ, take}
use Rattle.std.specs.List.{list_any}
use Rattle.owed_plan.specs.Decisions.{situation_of, stops}
use Rattle.switch_names.specs.Names.{has}
use Rattle.owed_plan.proofs.collecting.decided_stops.Given as goal

-- the set has what the decisions so far stop
abbrev pub invariant-loop-decided : goal.invariant-loop-decided
invariant-loop-decided l = (unit : List ℕ) → has l.set unit ≡ list_any (stops (situation_of l.known) unit) (take l.decided-index l.decisions)
