-- What holds of making a system the boot default: NixOS manual, "Changing the configuration".
use Rattle.std.specs.Prelude.{◌≡◌, true}
use Rattle.std.specs.FinMap.{get}
use Rattle.generations.specs.declared.gens.Gens.{Gens}
use Rattle.generations.specs.declared.moving.Move.{Move}
use Rattle.generations.specs.Move.{IsMoveTo, gens_moved}
use Rattle.generations.specs.ProfilePart.{owns_profile}
use Rattle.generations.specs.Set.{NamesOldOrNew}
use Rattle.host_trait.specs.World.{Leaves, WorldState, seen}
use Rattle.switch_names.specs.Names.{Name}
use Rattle.switch_names.specs.SystemName.{IsSystemPath}
use Rattle.switch_parts.specs.Part.{IsAtEnd, IsFree, IsPartMoment, IsPart, IsSameFor}
use Rattle.switch_parts.specs.Store.{is_in_store}
use Rattle.boot_entries.specs.declared.boot_default.BootDefaultPlan.{BootDefaultPlan}
use Rattle.boot_entries.specs.BootDefault.{IsDefaultPlanOf, IsMakingDefault, boot_default_in, boot_default_part, default_end}
use Rattle.boot_entries.specs.Laws.{IsBootGens}
use Rattle.boot_entries.specs.Menu.{IsMenuBetween, IsMenuWhole}
use Rattle.boot_entries.specs.Places.{owns_boot}

-- the generations after a move are such as a boot menu has
abbrev pub GensAfterLaw : Type 0
GensAfterLaw = (move : Move) (system : Name) (leaves : Leaves) → IsSystemPath system → IsBootGens (gens_moved move system leaves)

-- making a system the boot default is a part of a switch
abbrev pub DefaultPartLaw : Type 0
DefaultPartLaw = (move : Move) (system : Name) (gens : Gens) → IsBootGens gens → IsPart (boot_default_part move system gens)

-- each moment of it is one of the part
abbrev pub DefaultMomentLaw : Type 0
DefaultMomentLaw =
    (move : Move) (system : Name) (w m : WorldState) → IsSystemPath system → IsFree (boot_default_in move system w.leaves) w.leaves → IsMakingDefault move system w m →
    IsPartMoment (boot_default_in move system w.leaves) w m

-- the last moment leaves each of its places at its end
abbrev pub DefaultEndLaw : Type 0
DefaultEndLaw =
    (move : Move) (system : Name) (w v : WorldState) → IsSystemPath system → IsFree (boot_default_in move system w.leaves) w.leaves → seen v ≡ default_end move system w →
    IsMakingDefault move system w v × IsAtEnd (boot_default_in move system w.leaves) w v

-- wherever it is cut, it leaves the same generations
abbrev pub DefaultStaysLaw : Type 0
DefaultStaysLaw =
    (move : Move) (system : Name) (gens : Gens) (w m : WorldState) → (boot_default_part move system gens).Keeps w m → gens_moved move system m.leaves ≡ gens_moved move system w.leaves

-- a plan stays one where nothing has changed that the part looks at
abbrev pub DefaultPlanLaw : Type 0
DefaultPlanLaw =
    (move : Move) (system : Name) (w u : WorldState) (plan : BootDefaultPlan) → IsSystemPath system → IsSameFor (boot_default_in move system w.leaves) w u →
    IsDefaultPlanOf move system w.leaves plan → IsDefaultPlanOf move system u.leaves plan

-- at each moment the profile names what it named, or the system
abbrev pub DefaultNamesLaw : Type 0
DefaultNamesLaw =
    (move : Move) (system : Name) (w m : WorldState) → IsSystemPath system → IsMoveTo move system w.leaves → IsFree (boot_default_in move system w.leaves) w.leaves → IsMakingDefault move system w m → NamesOldOrNew system w m

-- at each moment the boot menu is one between the first and the last
abbrev pub MenuLaw : Type 0
MenuLaw =
    (move : Move) (system : Name) (w m : WorldState) → IsSystemPath system → IsMoveTo move system w.leaves → IsFree (boot_default_in move system w.leaves) w.leaves → IsMakingDefault move system w m →
    IsMenuBetween w.leaves m.leaves

-- at the end each entry that stands is that of a generation that stands
abbrev pub MenuEndLaw : Type 0
MenuEndLaw =
    (move : Move) (system : Name) (w v : WorldState) → IsSystemPath system → IsMoveTo move system w.leaves → IsFree (boot_default_in move system w.leaves) w.leaves → seen v ≡ default_end move system w →
    IsMenuWhole w.leaves v.leaves

-- the places of the boot menu are the same
abbrev pub IsSameMenu : Leaves → Leaves → Type 0
IsSameMenu one other = (q : Name) → owns_boot q ≡ true → get other q ≡ get one q

-- so are those of the profile
abbrev pub IsSameProfile : Leaves → Leaves → Type 0
IsSameProfile one other = (q : Name) → owns_profile q ≡ true → get other q ≡ get one q

-- where no entry has changed the boot menu is such, and it stays so where neither it nor the profile changes
abbrev pub MenuBeginsLaw : Type 0
MenuBeginsLaw = (first now : Leaves) → IsSameMenu first now → IsMenuBetween first now

abbrev pub MenuStaysLaw : Type 0
MenuStaysLaw = (first now later : Leaves) → IsMenuBetween first now → IsSameMenu now later → IsSameProfile now later → IsMenuBetween first later

-- so is what lies in the store
abbrev pub IsSameStore : Leaves → Leaves → Type 0
IsSameStore one other = (q : Name) → is_in_store q ≡ true → get other q ≡ get one q

-- it is such since another first world too that has the same boot menu and the same store
abbrev pub MenuSinceLaw : Type 0
MenuSinceLaw = (first other now : Leaves) → IsSameMenu first other → IsSameStore first other → IsMenuBetween first now → IsMenuBetween other now
