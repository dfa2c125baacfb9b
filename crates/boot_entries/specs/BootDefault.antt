-- The part of a switch that makes a system the boot default: the profile, which is moved to it, and the boot menu of its generations.
-- NixOS manual, "Changing the configuration"; Boot Loader Specification, "Type #1 Boot Loader Specification Entries".
use Rattle.std.specs.Prelude.{◌≡◌, ◌||◌, ◌++◌, ◌∷◌, Bool, false, List, [], map}
use Rattle.generations.specs.declared.gens.Gen.{Gen}
use Rattle.generations.specs.declared.gens.Gens.{Gens}
use Rattle.generations.specs.declared.moving.Move.{Move}
use Rattle.generations.specs.Gens.{IsGensOf}
use Rattle.generations.specs.Move.{IsMoveMoment, IsNumberFor, gens_moved, move_part, move_world, number_moved}
use Rattle.generations.specs.ProfilePart.{owns_profile}
use Rattle.host_trait.specs.World.{Leaves, WorldState, seen}
use Rattle.switch_names.specs.Names.{Name}
use Rattle.switch_names.specs.SystemName.{IsSystemPath}
use Rattle.switch_parts.specs.Part.{IsFree, Part, both}
use Rattle.tree_put.specs.declared.written_place.WrittenPlace.{WrittenPlace}
use Rattle.tree_put.specs.WrittenPlace.{written}
use Rattle.boot_entries.specs.declared.boot_default.BootDefaultPlan.{BootDefaultPlan}
use Rattle.boot_entries.specs.declared.boot_texts.BootTexts.{BootTexts}
use Rattle.boot_entries.specs.BootPart.{boot_part, entry_places}
use Rattle.boot_entries.specs.Places.{loader_path, owns_boot}
use Rattle.boot_entries.specs.Steps.{AreEntries, IsBootMoment, with_menu}
use Rattle.boot_entries.specs.Texts.{menu_of}

-- the part that moves the profile to a system and makes the boot menu of these generations
abbrev pub boot_default_part : Move → Name → Gens → Part
boot_default_part move system gens = both (move_part move system) (boot_part gens)

-- the same with the generations that stand after the move
abbrev pub boot_default_in : Move → Name → Leaves → Part
boot_default_in move system leaves = boot_default_part move system (gens_moved move system leaves)

-- its places: those of the profile, and those of the boot menu
abbrev pub owns_default : Name → Bool
owns_default q = owns_profile q || owns_boot q

-- the places of the boot menu of some generations, in byte order
abbrev pub menu_places : List Gen → List WrittenPlace
menu_places list = map (written false) (entry_places list) ++ written false loader_path ∷ []

-- the boot menu after a move of the profile to a system
abbrev pub menu_after : Move → Name → Leaves → BootTexts
menu_after move system leaves = menu_of (gens_moved move system leaves) leaves

-- but for the stage, the world in which this boot menu is made
abbrev pub menu_end : BootTexts → WorldState → WorldState
menu_end texts u = seen (with_menu texts u)

-- but for the stage, the world in which a system is the boot default
abbrev pub default_end : Move → Name → WorldState → WorldState
default_end move system w = menu_end (menu_after move system w.leaves) (move_world move system w)

-- a moment of making a system the boot default: the profile is being moved, or it is moved, and the boot menu is being made
pub data IsMakingDefault (move : Move) (system : Name) (w m : WorldState) : Type 0 where
  Moving : IsMoveMoment move system w m → IsMakingDefault move system w m
  Listing : (u : WorldState) → seen u ≡ move_world move system w → IsBootMoment (menu_after move system w.leaves) u m → IsMakingDefault move system w m

-- what is planned: the move, the generations that stand, the number that is current after it, and the boot menu then
pub record IsDefaultPlanOf (move : Move) (system : Name) (leaves : Leaves) (plan : BootDefaultPlan) : Type 0 where
  pub to : plan.to ≡ move
  pub gens : IsGensOf leaves plan.gens
  pub number : plan.number ≡ number_moved move system leaves
  pub menu : plan.menu ≡ menu_after move system leaves

-- a plan has the number that its generations give a system, and its entries are put at the places of entries
pub record IsDefaultFor (system : Name) (plan : BootDefaultPlan) : Type 0 where
  pub number : IsNumberFor plan.to plan.gens.list system plan.number
  pub entries : AreEntries plan.menu.entries

-- a plan can be carried out: it is that of these leaves, and nothing is in its way
pub record CanMakeDefault (system : Name) (plan : BootDefaultPlan) (w : WorldState) : Type 0 where
  pub named : IsSystemPath system
  pub planned : IsDefaultPlanOf plan.to system w.leaves plan
  pub free : IsFree (boot_default_in plan.to system w.leaves) w.leaves
