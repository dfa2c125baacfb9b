use Rattle.std.proofs.Common.{◌≡◌, List, ℕ, take}
use Rattle.std.specs.List.{list_any}
use Rattle.owed_plan.specs.Decisions.{leaves}
use Rattle.switch_names.specs.Names.{has}
use Rattle.owed_plan.proofs.collecting.decided_left.Given as goal

-- the set has the changed units that the decisions so far leave as they are
abbrev pub invariant-loop-decided : goal.invariant-loop-decided
invariant-loop-decided l = (unit : List ℕ) → has l.set unit ≡ list_any (leaves unit) (take l.decided-index l.decisions)
