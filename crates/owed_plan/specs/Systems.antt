-- The old and the new system, as far as a switch reads them: NixOS manual, "Unit handling".
use Rattle.std.specs.Prelude.{◌≡◌, IsTrue, List, [], Option, None, Some, option_and_then, if◌then◌else◌}
use Rattle.std.specs.Option.{option_map_or}
use Rattle.host_trait.specs.World.{Leaves}
use Rattle.switch_names.specs.declared.unit_kind.UnitKind.TheVariants.{Service}
use Rattle.switch_names.specs.Names.{Name, has}
use Rattle.unit_decide.specs.declared.facts.Facts.{Facts}
use Rattle.unit_decide.specs.Facts.{facts_of}
use Rattle.unit_decide.specs.Sockets.{sockets_of}
use Rattle.unit_defs.specs.declared.unit.Unit.{Unit}
use Rattle.unit_defs.specs.Defs.{AreDefsOf, found_in, wanted_in}
use Rattle.switch_names.specs.UnitName.{is_unit}
use Rattle.unit_defs.specs.Units.{text_of, wanted_of}
use Rattle.unit_text.specs.declared.assignment.Assignment.{Assignment}

-- the texts of the units of a system
abbrev pub Texts : Type 0
Texts = Name → Option (List Assignment)

-- of each unit: what the table of decisions reads, the sockets that it is paired with, and what it wants
pub record Systems : Type 0 where
  pub facts : Name → Facts
  pub sockets : Name → List Name
  pub wanted : Name → List Name

-- the systems in which the units have these texts and want these units
abbrev pub systems_of : Texts → Texts → (Name → List Name) → Systems
systems_of old new wants = record {
  facts = λ unit. facts_of (old unit) (new unit) unit;
  sockets = λ unit. option_map_or (λ text. sockets_of text unit) (new unit) [];
  wanted = λ unit. if is_unit unit then wants unit else [];
}

-- the systems with these units
abbrev pub systems_in : List Unit → List Unit → Systems
systems_in old new = systems_of (found_in old) (found_in new) (wanted_in new)

-- the text of a unit of a system that may not be there
abbrev pub text_at : Leaves → Option Name → Name → Option (List Assignment)
text_at leaves system unit = option_and_then (λ name. text_of leaves name unit) system

-- the systems of these names, of which there may be no old one
abbrev pub systems_at : Leaves → Option Name → Name → Systems
systems_at leaves old new = systems_of (text_at leaves old) (text_of leaves new) (wanted_of leaves new)

-- what is kept of a system that may not be there is what its leaves say, and nothing where it isn't
abbrev pub AreOldDefs : Leaves → Option Name → List Unit → Type 0
AreOldDefs leaves None units = units ≡ []
AreOldDefs leaves (Some system) units = AreDefsOf leaves system units

-- the new system defines the unit
abbrev pub IsDefined : Systems → Name → Type 0
IsDefined systems unit = IsTrue (systems.facts unit).in_new

-- the unit is paired with a socket that the new system defines
abbrev pub Counts : Systems → Name → Name → Type 0
Counts systems unit socket = IsTrue (has (systems.sockets unit) socket) × IsDefined systems socket

-- a service with a socket that counts
abbrev pub IsSocketed : Systems → Name → Type 0
IsSocketed systems unit = ((systems.facts unit).kind ≡ Service) × ((socket : Name) × Counts systems unit socket)
