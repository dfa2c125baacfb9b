use Rattle.std.proofs.Common.{◌≡◌, ◌||◌, List, ℕ, take}
use Rattle.std.specs.List.{list_any}
use Rattle.owed_plan.specs.Decisions.{wakes}
use Rattle.switch_names.specs.Names.{has}
use Rattle.owed_plan.proofs.collecting.add_woken.Given as goal

-- the set has what it had, and the live sockets of the decisions so far
abbrev pub invariant-loop-decided : goal.invariant-loop-decided
invariant-loop-decided l = (unit : List ℕ) → has l.set unit ≡ (has l.fn.set unit || list_any (wakes unit) (take l.decided-index l.decisions))
