-- What holds at each moment of a switch of the units: NixOS manual, "Unit handling".
use Rattle.std.specs.Prelude.{◌≡◌, Bool, true, false, List, Option, None}
use Rattle.std.specs.FinMap.{get}
use Rattle.host_trait.specs.World.{WorldState}
use Rattle.leaf_limits.specs.declared.too_long.TooLong.{TooLong}
use Rattle.owed_plan.specs.declared.owed.Owed.{Owed}
use Rattle.switch_names.specs.Names.{Name}
use Rattle.switch_parts.specs.Part.{IsPartMoment, IsOnly, IsPart}
use Rattle.unit_stage.specs.Owned.{owns_units, reads_units}
use Rattle.unit_stage.specs.Order.{ArrangesStarts}
use Rattle.unit_stage.specs.Owes.{IsSteadyWorld}
use Rattle.unit_stage.specs.Plan.{IsLongLog, IsOwedBy}
use Rattle.unit_stage.specs.Steps.{IsUnitMoment}
use Rattle.unit_stage.specs.System.{IsSystem}
use Rattle.unit_stage.specs.Units.{AreUnitsFree, AreUnitsUnderway, units_part}

-- wherever the units' part looks at what it doesn't own, two worlds have the same
abbrev pub AreSameBeside : WorldState → WorldState → Type 0
AreSameBeside w m = (q : Name) → reads_units q ≡ true → owns_units q ≡ false → get m.leaves q ≡ get w.leaves q

-- at each moment of a switch nothing is in the way that wasn't
abbrev pub FreeLaw : Type 0
FreeLaw =
    (start_up : Bool) (system : Name) (owed : Owed) (order : List Name) (w m : WorldState) → IsSystem system → IsOwedBy start_up system w owed → IsUnitMoment system owed order w m → AreSameBeside w m →
    AreUnitsFree system w.leaves → AreUnitsFree system m.leaves

-- at each moment of a switch from a steady world the switch is underway, in whatever order it starts the units
abbrev pub UnderwayLaw : Type 0
UnderwayLaw =
    (start_up : Bool) (system : Name) (owed : Owed) (order : List Name) (w m : WorldState) → IsSystem system → IsOwedBy start_up system w owed → ArrangesStarts owed order → AreUnitsFree system w.leaves → IsSteadyWorld start_up system w →
    IsUnitMoment system owed order w m → AreSameBeside w m → AreUnitsUnderway start_up system w m

-- what is about the units is a part of a switch
abbrev pub UnitsPartLaw : Type 0
UnitsPartLaw = (start_up : Bool) (system : Name) → IsSystem system → IsPart (units_part start_up system)

-- a moment at which nothing else has changed is a moment of the part
abbrev pub UnitMomentLaw : Type 0
UnitMomentLaw =
    (start_up : Bool) (system : Name) (owed : Owed) (order : List Name) (w m : WorldState) → IsSystem system → IsOwedBy start_up system w owed → ArrangesStarts owed order → IsUnitMoment system owed order w m →
    IsOnly (units_part start_up system) w m → IsPartMoment (units_part start_up system) w m

-- a world has one length of the log
abbrev pub OneLengthLaw : Type 0
OneLengthLaw = (start_up : Bool) (w : WorldState) (system : Name) (one other : Option TooLong) → IsLongLog start_up system w one → IsLongLog start_up system w other → one ≡ other

-- each world has one
abbrev pub SomeLengthLaw : Type 0
SomeLengthLaw = (start_up : Bool) (w : WorldState) (system : Name) → (long : Option TooLong) × IsLongLog start_up system w long

-- in a steady world the log isn't too long
abbrev pub SteadyLogLaw : Type 0
SteadyLogLaw = (start_up : Bool) (w : WorldState) (system : Name) → IsSteadyWorld start_up system w → IsLongLog start_up system w None
