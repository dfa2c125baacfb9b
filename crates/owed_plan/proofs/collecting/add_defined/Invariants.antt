use Rattle.std.proofs.Common.{◌≡◌, ◌||◌, List, ℕ, filter, take}
use Rattle.owed_plan.specs.Decisions.{situation_of}
use Rattle.switch_names.specs.Names.{has}
use Rattle.owed_plan.proofs.collecting.add_defined.Given as goal

-- the set has what it had, and the defined ones of the names so far
abbrev pub invariant-loop-name : goal.invariant-loop-name
invariant-loop-name l = (unit : List ℕ) → has l.set unit ≡ (has l.fn.set unit || has (filter (λ name. ((situation_of l.known).systems.facts name).in_new) (take l.name-index l.names)) unit)
