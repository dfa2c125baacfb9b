-- The stage lies neither above nor below a place of the units.
use Rattle.std.proofs.Common.{refl}
use Rattle.host_trait.specs.World.{stage}
use Rattle.owed_lists.specs.Lists.{place_of}
use Rattle.owed_log.specs.Places.{log_place}
use Rattle.tree_put.specs.WrittenPlace.{AreApartFromStage}
use Rattle.unit_stage.specs.Owned.{unit_places}
use Rattle.unit_stage.specs.System.{current_place}

pub units_apart : AreApartFromStage unit_places
unfolding stage current_place log_place place_of
units_apart = (refl, (refl, (refl, (refl, (refl, (refl, tt))))))
