use Rattle.std.proofs.Common.{◌≡◌, ◌||◌, take}
use Rattle.std.specs.List.{filter}
use Rattle.host_trait.specs.States.{units_of}
use Rattle.switch_names.specs.Names.{Name, has}
use Rattle.unit_defs.specs.Defs.{found_in}
use Rattle.owed_plan.specs.Roots.{is_running_target}
use Rattle.owed_plan.proofs.targets.add_running.Given as goal

-- the set has what it had, and the Active targets that may start of the units so far
abbrev pub invariant-loop-unit : goal.invariant-loop-unit
invariant-loop-unit l = (name : Name) →
    has l.roots name ≡ (has l.fn.roots name || has (units_of (filter (is_running_target (found_in l.new)) (take l.unit-index l.units))) name)
