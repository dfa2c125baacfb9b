-- Tests on kinds of units, systemd.unit(5), "Description", and on the outcome of a comparison.
use Rattle.std.specs.Prelude.{Bool, true, false}
use Rattle.switch_names.specs.declared.unit_kind.UnitKind.{UnitKind}
use Rattle.switch_names.specs.declared.unit_kind.UnitKind.TheVariants.{Service, Socket, Target, Mount, Automount, Swap, Path, Slice, Timer, Scope, Device}
use Rattle.unit_compare.specs.declared.comparison.Comparison.{Comparison}
use Rattle.unit_compare.specs.declared.comparison.Comparison.TheVariants.{Same, ReloadOnly}

-- the kind is this one
abbrev pub is_kind : UnitKind → UnitKind → Bool
is_kind Service Service = true
is_kind Socket Socket = true
is_kind Target Target = true
is_kind Mount Mount = true
is_kind Automount Automount = true
is_kind Swap Swap = true
is_kind Path Path = true
is_kind Slice Slice = true
is_kind Timer Timer = true
is_kind Scope Scope = true
is_kind Device Device = true
is_kind kind other = false

-- a changed unit of this kind gets no action
abbrev pub is_left_alone : UnitKind → Bool
is_left_alone Path = true
is_left_alone Slice = true
is_left_alone Socket = true
is_left_alone Swap = true
is_left_alone Scope = true
is_left_alone Device = true
is_left_alone kind = false

abbrev pub is_same : Comparison → Bool
is_same Same = true
is_same outcome = false

abbrev pub is_reload_only : Comparison → Bool
is_reload_only ReloadOnly = true
is_reload_only outcome = false
