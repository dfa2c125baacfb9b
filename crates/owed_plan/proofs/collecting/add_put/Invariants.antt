use Rattle.std.proofs.Common.{◌≡◌, ◌||◌, List, ℕ, take}
use Rattle.std.specs.List.{list_any}
use Rattle.owed_plan.specs.Decisions.{puts}
use Rattle.switch_names.specs.Names.{has}
use Rattle.owed_plan.proofs.collecting.add_put.Given as goal

-- the set has what it had, and what the decisions so far put on the list
abbrev pub invariant-loop-decided : goal.invariant-loop-decided
invariant-loop-decided l = (unit : List ℕ) → has l.set unit ≡ (has l.fn.set unit || list_any (puts l.which unit) (take l.decided-index l.decisions))
