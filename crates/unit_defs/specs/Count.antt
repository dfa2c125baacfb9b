-- How many units a system has.
use Rattle.std.specs.Prelude.{ℕ, ◌&&◌, ◌++◌, List, Option, filter, is_some, length}
use Rattle.host_trait.specs.World.{Leaves}
use Rattle.leaf_limits.specs.Counts.{past, units_max}
use Rattle.switch_names.specs.Names.{Name}
use Rattle.switch_names.specs.UnitName.{is_unit}
use Rattle.unit_defs.specs.Fstab.{fstab_of, names_of}
use Rattle.unit_defs.specs.Units.{in_order, own_text, units_of}

-- the units of a system that have a text of their own, in byte order, those of its fstab included
abbrev pub unit_names : Leaves → List ℕ → List Name
unit_names leaves system =
    filter (λ unit. is_unit unit && is_some (own_text leaves system unit)) (in_order (units_of leaves system ++ names_of (fstab_of leaves system)))

-- how many units a system has, where these are too many
abbrev pub units_past : Leaves → List ℕ → Option ℕ
units_past leaves system = past units_max (length (unit_names leaves system))
