-- Places that a run writes, and what stands in the way of one: path_resolution(7).
use Rattle.std.specs.Prelude.{◌≡◌, ◌&&◌, ◌||◌, Bool, false, List, Option, is_none, is_some, option_map}
use Rattle.std.specs.FinMap.{get}
use Rattle.std.specs.List.{AllByRecursion, find}
use Rattle.host_trait.specs.World.{Leaves, content_of, is_in_line, stage}
use Rattle.switch_names.specs.Names.{Name}
use Rattle.tree_put.specs.declared.written_place.WrittenPlace.{WrittenPlace}
use Rattle.tree_put.specs.Put.{is_blocked}

-- a place that is written, and whether its content is read before
abbrev pub written : Bool → Name → WrittenPlace
written is_read at = record { at = at; is_read = is_read }

-- a leaf without content stands at a place
abbrev pub lacks_content : Leaves → Name → Bool
lacks_content leaves at = is_some (get leaves at) && is_none (content_of leaves at)

-- a leaf stands strictly above or below the place, or one without content where a content is read
abbrev pub is_in_the_way : Leaves → WrittenPlace → Bool
is_in_the_way leaves place = is_blocked leaves place.at || (place.is_read && lacks_content leaves place.at)

-- the first of these places that a leaf stands in the way of
abbrev pub in_the_way : List WrittenPlace → Leaves → Option Name
in_the_way places leaves = option_map (λ place. place.at) (find (is_in_the_way leaves) places)

-- the stage lies neither above nor below any of these places
abbrev pub AreApartFromStage : List WrittenPlace → Type 0
AreApartFromStage places = AllByRecursion (λ place. is_in_line stage place.at ≡ false) places
