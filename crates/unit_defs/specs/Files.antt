-- The files of which the text of a unit is made: systemd.unit(5), "Description".
use Rattle.std.specs.Prelude.{ℕ, List, [], ◌∷◌, ◌++◌, Option, None, Some, option_map, option_and_then, if◌then◌else◌}
use Rattle.std.specs.FinMap.{FinMap, from_entries}
use Rattle.std.specs.FinMap as map
use Rattle.std.specs.List.{flat_map}
use Rattle.std.specs.Option.{option_map_or}
use Rattle.switch_names.specs.UnitName.{template_of}
use Rattle.host_trait.specs.World.{Leaves, bytes_cmp, content_of, listed}
use Rattle.unit_defs.specs.declared.place.UnitPlace.{UnitPlace}
use Rattle.unit_defs.specs.declared.place.UnitPlace.TheVariants.{DropIn, Want}
use Rattle.unit_defs.specs.Place.{path_of, place_of, unit_folder}
use Rattle.switch_names.specs.Names.{is_name}

-- the paths of the leaves in the folder of a system's units, in byte order
abbrev pub paths_of : Leaves → List ℕ → List (List ℕ)
paths_of leaves system = listed (unit_folder system) leaves

-- the content of a unit's own file: a leaf without content is none
abbrev pub file_of : Leaves → List ℕ → List ℕ → Option (List ℕ)
file_of leaves system unit = content_of leaves (path_of system unit)

-- the name and the content of a leaf that is a drop-in of a unit
abbrev pub drop_in_at : List ℕ → Option UnitPlace → Option (List ℕ) → List (List ℕ × List ℕ)
drop_in_at unit (Some (DropIn other name)) (Some content) = if is_name other unit then (name, content) ∷ [] else []
drop_in_at unit place content = []

-- the drop-ins of a unit by their names
abbrev pub drop_in_map : Leaves → List ℕ → List ℕ → FinMap bytes_cmp (List ℕ)
drop_in_map leaves system unit =
    from_entries (flat_map (λ path. drop_in_at unit (place_of system path) (content_of leaves path)) (paths_of leaves system))

-- the contents of the drop-ins of a unit, in the order of their names
abbrev pub drop_ins_of : Leaves → List ℕ → List ℕ → List (List ℕ)
drop_ins_of leaves system unit = map.values (drop_in_map leaves system unit)

-- the name of a leaf in a unit's folders of units that it wants
abbrev pub want_at : List ℕ → Option UnitPlace → List (List ℕ)
want_at unit (Some (Want other name)) = if is_name other unit then name ∷ [] else []
want_at unit place = []

-- the units that stand in a unit's folders of units that it wants
abbrev pub folder_wants : Leaves → List ℕ → List ℕ → List (List ℕ)
folder_wants leaves system unit = flat_map (λ path. want_at unit (place_of system path)) (paths_of leaves system)

module _ {X : Type 0} where
  -- the file on which the text of a unit is based: its own, or where it has none, its template's, if it has drop-ins
  abbrev pub base_of : Option X → List X → Option X → Option X
  base_of (Some file) drop_ins template = Some file
  base_of None [] template = None
  base_of None (drop_in ∷ drop_ins) template = template

  -- the files of which the own text of a unit is made, in the order in which they are applied
  abbrev pub own_files : (List ℕ → Option X) → (List ℕ → List X) → List ℕ → Option (List X)
  own_files files drop_ins unit =
      let template = template_of unit in
      let base = base_of (files unit) (drop_ins unit) (option_and_then files template) in
      option_map (λ file. file ∷ option_map_or drop_ins template [] ++ drop_ins unit) base
