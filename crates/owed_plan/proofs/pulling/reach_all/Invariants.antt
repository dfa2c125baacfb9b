use Rattle.std.proofs.Common.{◌≡◌, ◌+◌, ◌||◌, ◌&&◌, not, length, take, vec_len}
use Rattle.switch_names.specs.Names.{Name, has}
use Rattle.owed_plan.proofs.pulling.reach_all.Given as goal

-- the units so far are reached, and the new ones are left to walk
abbrev pub invariant-loop-unit : goal.invariant-loop-unit
invariant-loop-unit l =
    ((name : Name) → has l.reached name ≡ (has l.fn.reached name || has (take l.unit-index l.units) name))
    × ((name : Name) → has l.left.items name ≡ (has l.fn.left.items name || (has (take l.unit-index l.units) name && not (has l.fn.reached name))))
    × (vec_len l.left + length l.fn.reached ≡ vec_len l.fn.left + length l.reached)
