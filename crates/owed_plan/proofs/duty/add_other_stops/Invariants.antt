use Rattle.std.proofs.Common.{◌≡◌, ◌++◌, filter, map, not, take}
use Rattle.host_trait.specs.declared.entry.Act.TheVariants.{Stop}
use Rattle.owed_plan.specs.Calls.{duty}
use Rattle.switch_names.specs.declared.unit_kind.UnitKind.TheVariants.{Socket}
use Rattle.unit_decide.specs.Facts.{unit_kind}
use Rattle.unit_decide.specs.Kinds.{is_kind}
use Rattle.owed_plan.proofs.duty.add_other_stops.Given as goal

-- the stops of the others so far
abbrev pub invariant-loop-unit : goal.invariant-loop-unit
invariant-loop-unit l =
    l.duties ≡ l.fn.duties ++ map (duty Stop) (filter (λ unit. not (is_kind (unit_kind unit) Socket)) (take l.unit-index l.units))
