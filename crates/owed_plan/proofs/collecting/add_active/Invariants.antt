use Rattle.std.proofs.Common.{◌≡◌, ◌||◌, List, ℕ, filter, take}
use Rattle.host_trait.specs.Manager.{is_active}
use Rattle.owed_plan.specs.Decisions.{situation_of}
use Rattle.switch_names.specs.Names.{has}
use Rattle.owed_plan.proofs.collecting.add_active.Given as goal

-- the set has what it had, and the active ones of the names so far
abbrev pub invariant-loop-name : goal.invariant-loop-name
invariant-loop-name l = (unit : List ℕ) → has l.set unit ≡ (has l.fn.set unit || has (filter (λ name. is_active ((situation_of l.known).states name)) (take l.name-index l.names)) unit)
