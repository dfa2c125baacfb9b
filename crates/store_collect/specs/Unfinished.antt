-- What a switch that was cut has left: NixOS manual, "Unit handling"; Nix manual, "Profiles".
use Rattle.std.specs.Prelude.{◌++◌, ◌∷◌, Bool, List, [], is_some}
use Rattle.std.specs.FinMap.{get}
use Rattle.std.specs.List.{list_any}
use Rattle.generations.specs.Goal.{goal_place}
use Rattle.host_trait.specs.World.{Leaves}
use Rattle.owed_log.specs.Places.{log_place, old_places}
use Rattle.switch_names.specs.Names.{Name}

-- the places at which a leaf stands while a switch is unfinished
abbrev pub unfinished_places : List Name
unfinished_places = (log_place ∷ old_places) ++ goal_place ∷ []

-- whether a leaf stands at one of some places
abbrev pub stands_at_one : List Name → Leaves → Bool
stands_at_one places leaves = list_any (λ at. is_some (get leaves at)) places

-- whether a switch is unfinished
abbrev pub is_unfinished : Leaves → Bool
is_unfinished leaves = stands_at_one unfinished_places leaves
