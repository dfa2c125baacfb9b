-- The places that a set of the profile writes, by the list of the generations: Nix manual, "Profiles".
use Rattle.std.specs.Prelude.{◌++◌, ◌∷◌, false, List, [], Option, None, if◌then◌else◌, option_map, option_to_list}
use Rattle.host_trait.specs.World.{stage}
use Rattle.switch_names.specs.Names.{Name}
use Rattle.tree_put.specs.declared.written_place.WrittenPlace.{WrittenPlace}
use Rattle.tree_put.specs.WrittenPlace.{written}
use Rattle.generations.specs.declared.gens.Gen.{Gen}
use Rattle.generations.specs.Gens.{is_highest_of, number_for_in}
use Rattle.generations.specs.Places.{link_path, profile}

-- the link of the generation that a set makes, where it makes one
abbrev pub new_link_in : List Gen → Name → Option Name
new_link_in list system = if is_highest_of list system then None else option_map link_path (number_for_in list system)

-- the places that a set writes, in byte order
abbrev pub places_in : List Gen → Name → List WrittenPlace
places_in list system = written false profile ∷ (option_to_list (option_map (written false) (new_link_in list system)) ++ written false stage ∷ [])
