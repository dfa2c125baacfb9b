use Rattle.std.proofs.Common.{◌≡◌, ◌||◌, take}
use Rattle.switch_names.specs.Names.{Name, has}
use Rattle.host_trait.proofs.unit_set.UnitSet.insert_all.Given as goal

-- the set has what it had, and the units so far
abbrev pub invariant-loop-unit : goal.invariant-loop-unit
invariant-loop-unit l = (name : Name) → has l.self name ≡ (has l.fn.self name || has (take l.unit-index l.units) name)
