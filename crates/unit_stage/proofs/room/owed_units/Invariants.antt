use Rattle.std.proofs.Common.{◌≡◌, ◌||◌, take}
use Rattle.std.specs.List.{list_any}
use Rattle.log_text.specs.Lists.{list_names, record_order}
use Rattle.switch_names.specs.Names.{Name, has}
use Rattle.unit_stage.proofs.room.owed_units.Given as goal

-- the units to stop, and those of the lists so far
abbrev pub invariant-loop-which : goal.invariant-loop-which
invariant-loop-which l = (unit : Name) → has l.units unit ≡ (has l.owed.stops unit || list_any (λ which. has (list_names l.owed.lists which) unit) (take l.which-index record_order))
