use Rattle.std.proofs.Common.{◌≡◌, ℕ, List, take, map, is_some, true}
use Rattle.std.specs.List.{filter}
use Rattle.switch_names.specs.Names.{has}
use Rattle.switch_names.specs.UnitName.{IsUnitName}
use Rattle.unit_defs.proofs.answering.wanting.names_of.Given as goal

-- the names so far, each of which is a unit's
abbrev pub invariant-loop-unit : goal.invariant-loop-unit
invariant-loop-unit l =
    (l.names ≡ map (λ unit. unit.name) (filter (λ unit. is_some unit.part) (take l.unit-index l.units)))
    × ((name : List ℕ) → has l.names name ≡ true → IsUnitName name)
