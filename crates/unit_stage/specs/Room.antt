-- The units that are owed something, of whose names a log has room in each list.
use Rattle.std.specs.Prelude.{◌||◌, Bool}
use Rattle.owed_plan.specs.declared.owed.Owed.{Owed}
use Rattle.owed_plan.specs.Lists.{is_listed}
use Rattle.switch_names.specs.Names.{Name, has}

-- the unit is to stop, or one of the lists has it
abbrev pub is_owed : Owed → Name → Bool
is_owed owed unit = has owed.stops unit || is_listed owed.lists unit
