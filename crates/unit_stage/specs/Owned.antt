-- The places that the units' part of a switch owns: NixOS manual, "What happens during a system switch?".
use Rattle.std.specs.Prelude.{◌||◌, Bool, true, false, List, ◌∷◌, map}
use Rattle.host_trait.specs.World.{stage}
use Rattle.owed_log.specs.Places.{log_place, old_places}
use Rattle.switch_names.specs.Names.{Name}
use Rattle.switch_parts.specs.Leaves.{is_among, is_near}
use Rattle.switch_parts.specs.Store.{is_in_store}
use Rattle.tree_put.specs.declared.written_place.WrittenPlace.{WrittenPlace}
use Rattle.tree_put.specs.WrittenPlace.{written}
use Rattle.unit_stage.specs.System.{current_place}

-- the link to the system in use, the log of what is owed, and the lists of an older program
abbrev pub owned_places : List Name
owned_places = current_place ∷ log_place ∷ old_places

-- whether a place is one of them
abbrev pub owns_units : Name → Bool
owns_units q = is_among owned_places q

-- the places of the log and of the lists, which are read before
abbrev pub list_places : List WrittenPlace
list_places = map (written true) (log_place ∷ old_places)

-- the places that are written by way of the stage
abbrev pub unit_places : List WrittenPlace
unit_places = written false stage ∷ written false current_place ∷ list_places

-- what is looked at: these places, what could be in their way, and the store, where the systems lie
abbrev pub reads_units : Name → Bool
reads_units q = owns_units q || is_near unit_places q || is_in_store q
