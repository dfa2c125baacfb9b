-- Where nothing is in the way of the places that a switch of the units writes, each is clear.
use Rattle.std.proofs.Common.{◌≡◌, true, false, List, [], ◌∷◌, ◌++◌, append_assoc, drop, None, map, refl, sym}
use Rattle.boot_entries.specs.BootDefault.{menu_places}
use Rattle.boot_entries.specs.BootPart.{boot_places, entry_places}
use Rattle.boot_entries.specs.Places.{loader_path}
use Rattle.generations.specs.declared.gens.Gen.{Gen}
use Rattle.host_trait.specs.World.{IsClear, Leaves, stage}
use Rattle.owed_log.specs.Places.{log_place}
use Rattle.tree_put.specs.WrittenPlace.{AreApartFromStage, in_the_way, written}
use Rattle.tree_put.proofs.WayLemmas.{clear_first}
use Rattle.unit_stage.specs.Owned.{list_places, unit_places}
use Rattle.unit_stage.specs.System.{current_place}

-- the places of the boot menu and the stage
pub boot_are : (list : List Gen) → boot_places list ≡ menu_places list ++ written false stage ∷ []
boot_are list = sym (append_assoc (map (written false) (entry_places list)) (written false loader_path ∷ []) (written false stage ∷ []))

-- ---- the stage is apart from each

pub stage_apart : AreApartFromStage (written false stage ∷ [])
unfolding stage
stage_apart = (refl, tt)

-- the places that are written first are clear
pub record AreClear (leaves : Leaves) : Type 0 where
  pub stage : IsClear leaves stage
  pub current : IsClear leaves current_place
  pub log : IsClear leaves log_place

pub all_clear : (leaves : Leaves) → in_the_way unit_places leaves ≡ None → AreClear leaves
all_clear leaves free =
    let staged = clear_first leaves (written false stage) (written false current_place ∷ list_places) free in
    let current = clear_first leaves (written false current_place) list_places staged.1 in
    let log = clear_first leaves (written true log_place) (drop 1 list_places) current.1 in
    record { stage = staged.0; current = current.0; log = log.0 }
