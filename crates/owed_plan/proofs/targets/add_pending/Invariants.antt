use Rattle.std.proofs.Common.{◌≡◌, ◌||◌, take}
use Rattle.std.specs.List.{filter}
use Rattle.switch_names.specs.Names.{Name, has}
use Rattle.unit_defs.specs.Defs.{found_in}
use Rattle.owed_plan.specs.Roots.{is_defined_target}
use Rattle.owed_plan.proofs.targets.add_pending.Given as goal

-- the set has what it had, and the targets that have a text of the units so far
abbrev pub invariant-loop-unit : goal.invariant-loop-unit
invariant-loop-unit l = (name : Name) →
    has l.roots name ≡ (has l.fn.roots name || has (filter (is_defined_target (found_in l.new)) (take l.unit-index l.units)) name)
