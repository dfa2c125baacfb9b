-- The tests by which the roots of a pull are found: systemd.unit(5), "Wants=", and NixOS manual, "Unit handling".
use Rattle.std.specs.Prelude.{◌&&◌, Bool, false, List, Option, is_some}
use Rattle.std.specs.Option.{option_map_or}
use Rattle.host_trait.specs.declared.unit_state.UnitState.{UnitState}
use Rattle.host_trait.specs.Manager.{is_active}
use Rattle.switch_names.specs.declared.unit_kind.UnitKind.TheVariants.{Target}
use Rattle.switch_names.specs.Names.{Name}
use Rattle.unit_decide.specs.Facts.{unit_kind}
use Rattle.unit_decide.specs.Flags.{may_start}
use Rattle.unit_decide.specs.Kinds.{is_kind}
use Rattle.unit_text.specs.declared.assignment.Assignment.{Assignment}

-- there is a text by which a switch may start the unit
abbrev pub may_run : Option (List Assignment) → Bool
may_run text = option_map_or may_start text false

-- the unit is a target that is active and may start
abbrev pub is_running_target : (Name → Option (List Assignment)) → UnitState → Bool
is_running_target text_of one = is_active one.state && is_kind (unit_kind one.unit) Target && may_run (text_of one.unit)

-- the unit is a target that has a text
abbrev pub is_defined_target : (Name → Option (List Assignment)) → Name → Bool
is_defined_target text_of unit = is_kind (unit_kind unit) Target && is_some (text_of unit)
