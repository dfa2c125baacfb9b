-- What a command does is a part of a switch, whichever of its parts it has.
use Rattle.std.proofs.Common.{◌≡◌, Bool, true, false, ◌||◌, Option, None, Some, refl, sym, ap, ◌∙◌, inl, inr}
use Rattle.std.proofs.lemmas.Bool.{both_ways, cases_Bool, or_from}
use Rattle.accounts_stage.specs.AccountsPart.{reads_accounts}
use Rattle.accounts_stage.specs.Places.{owns_accounts}
use Rattle.activation_stage.specs.ActivationPart.{activation_part}
use Rattle.boot_entries.specs.BootDefault.{boot_default_part}
use Rattle.boot_entries.specs.BootPart.{reads_boot}
use Rattle.boot_entries.specs.Laws.{IsBootGens}
use Rattle.boot_entries.specs.Places.{owns_boot}
use Rattle.etc_farm.specs.FarmPart.{owns_farm, reads_farm}
use Rattle.etc_manifest.specs.Owners.{OwnerIds}
use Rattle.generations.specs.Places.{profiles}
use Rattle.generations.specs.declared.gens.Gens.{Gens}
use Rattle.generations.specs.declared.moving.Move.{Move}
use Rattle.generations.specs.declared.moving.Move.TheVariants.{Set}
use Rattle.generations.specs.GoalPart.{owns_goal, reads_goal}
use Rattle.generations.proofs.GoalPartLemmas.{goal_is}
use Rattle.generations.specs.ProfilePart.{owns_profile, reads_profile}
use Rattle.generations.proofs.ProfileApart.{owned_fails, store_unowned as profile_not_in_store}
use Rattle.host_trait.specs.World.{Leaves, stage}
use Rattle.owed_plan.specs.Store.{IsInStore}
use Rattle.switch_engine.specs.Commands.{is_back}
use Rattle.switch_engine.specs.Rows.{default_if, default_part, gens_to, goal_by, part_if, parts, switch_part}
use Rattle.switch_engine.proofs.ActivationApart.{activation_apart, not_owns_store, profile_unread, profile_path}
use Rattle.boot_entries.proofs.DefaultLemmas.{default_part_law}
use Rattle.boot_entries.proofs.GensLemmas.{gens_after_law}
use Rattle.boot_entries.proofs.OwnLemmas.{store_unowned as menu_not_in_store}
use Rattle.switch_engine.proofs.GoalApart.{activation_unread_goal, default_unread_goal, goal_not_in_store, goal_unread_activation, goal_unread_default, goal_unread_switch, switch_unread_goal}
use Rattle.switch_engine.proofs.MenuApart.{activation_unread, menu_unread, menu_unread_activation, switch_unread as menu_apart}
use Rattle.activation_stage.proofs.ActivationLemmas.{activation_part_law}
use Rattle.switch_names.specs.Names.{Name}
use Rattle.switch_names.specs.SystemName.{IsSystemPath}
use Rattle.switch_parts.specs.Part.{AreParted, IsPart, no_part}
use Rattle.switch_parts.proofs.LeafLemmas.{none_among, none_near}
use Rattle.switch_parts.proofs.Parts.{both_part}
use Rattle.switch_parts.specs.Store.{is_in_store}
use Rattle.unit_stage.specs.Owned.{owned_places, owns_units, reads_units, unit_places}
use Rattle.unit_stage.specs.Units.{units_part}
use Rattle.unit_stage.proofs.OwnedLemmas.{not_owns_store as units_not_in_store, units_open}
use Rattle.unit_stage.proofs.SystemsLemmas.{is_system}
use Rattle.unit_stage.proofs.UnitsPartLemmas.{units_part_law}

-- ---- a part that does nothing

none_is : IsPart no_part
none_is = record {
  keeps_self = λ w. tt;
  keeps_then = λ w v m one then. tt;
  same_end = λ w m keeps q own. absurd (both_ways false refl own);
  stays_free = λ w m keeps free. record { way = refl; refusal = refl; short = refl };
  frame = λ w m same. tt;
  reads_own = λ q own. absurd (both_ways false refl own);
  no_stage = refl;
}

pub switch_is : (start_up : Bool) (system : Name) → IsSystemPath system → (owners : OwnerIds) → IsPart (switch_part start_up system owners)
switch_is start_up system named owners =
    both_part (units_part start_up system) (activation_part system owners) (units_part_law start_up system (is_system system named)) (activation_part_law system owners named)

-- ---- neither looks at what the other owns

units_unread : (q : Name) → owns_units q ≡ true → reads_profile q ≡ false
unfolding units_open profiles stage
units_unread = none_among reads_profile owned_places refl

switch_unread : (q : Name) → owns_units q || (owns_accounts q || owns_farm q) ≡ true → reads_profile q ≡ false
switch_unread q own = elim (cases_Bool (owns_units q)) [
  | inl units ↦ units_unread q units
  | inr other ↦ profile_unread q (sym (ap (λ b. b || (owns_accounts q || owns_farm q)) other) ∙ own)
]

units_apart : (rest : Name) → reads_units (profile_path rest) ≡ false
unfolding stage units_open is_in_store
units_apart rest = or_from _ _ (or_from _ _ refl (none_near (profile_path rest) unit_places refl)) refl

profile_apart : (q : Name) → owns_profile q ≡ true → reads_units q || (reads_accounts q || reads_farm q) ≡ false
profile_apart q own = or_from _ _ (owned_fails reads_units units_apart q own) (activation_apart q own)

-- what is owned of a boot default is of the profile or of the boot menu
pub of_default : (P : Name → Type 0) → ((q : Name) → owns_profile q ≡ true → P q) → ((q : Name) → owns_boot q ≡ true → P q) → (q : Name) → owns_profile q || owns_boot q ≡ true → P q
of_default P profile menu q own = elim (cases_Bool (owns_profile q)) [
  | inl is ↦ profile q is
  | inr other ↦ menu q (sym (ap (λ b. b || owns_boot q) other) ∙ own)
]

default_apart : (q : Name) → owns_profile q || owns_boot q ≡ true → reads_units q || (reads_accounts q || reads_farm q) ≡ false
default_apart = of_default (λ q. reads_units q || (reads_accounts q || reads_farm q) ≡ false) profile_apart menu_apart

default_unread : (q : Name) → owns_units q || (owns_accounts q || owns_farm q) ≡ true → reads_profile q || reads_boot q ≡ false
default_unread q own = or_from _ _ (switch_unread q own) (menu_unread q own)

-- ---- what a move of the profile is about

pub goal_parted : (move : Move) (system : Name) (gens : Gens) → AreParted (boot_default_part move system gens) (goal_by move)
goal_parted move system gens = record { first = goal_unread_default; second = default_unread_goal; manager = refl }

pub default_is : (move : Move) (system : Name) (gens : Gens) → IsBootGens gens → IsPart (default_part move system gens)
default_is move system gens are = both_part (boot_default_part move system gens) (goal_by move) (default_part_law move system gens are) (goal_is (is_back (Some move)))

-- what it owns is of the boot default or the goal
of_moved : (P : Name → Type 0) → ((q : Name) → owns_profile q || owns_boot q ≡ true → P q) → ((q : Name) → owns_goal q ≡ true → P q) → (q : Name) → (owns_profile q || owns_boot q) || owns_goal q ≡ true → P q
of_moved P default goal q own = elim (cases_Bool (owns_profile q || owns_boot q)) [
  | inl is ↦ default q is
  | inr other ↦ goal q (sym (ap (λ b. b || owns_goal q) other) ∙ own)
]

moved_apart : (q : Name) → (owns_profile q || owns_boot q) || owns_goal q ≡ true → reads_units q || (reads_accounts q || reads_farm q) ≡ false
moved_apart = of_moved (λ q. reads_units q || (reads_accounts q || reads_farm q) ≡ false) default_apart switch_unread_goal

moved_unread : (q : Name) → owns_units q || (owns_accounts q || owns_farm q) ≡ true → (reads_profile q || reads_boot q) || reads_goal q ≡ false
moved_unread q own = or_from _ _ (default_unread q own) (goal_unread_switch q own)

-- ---- a switch and a move of the profile, where they are made

pub are_parted : (start_up switches : Bool) (moves : Option Move) (system : Name) (owners : OwnerIds) (gens : Gens) → AreParted (part_if switches (switch_part start_up system owners)) (default_if moves system gens)
are_parted start_up true (Some move) system owners gens = record { first = moved_unread; second = moved_apart; manager = refl }
are_parted start_up true None system owners gens = record { first = λ q own. refl; second = λ q own. absurd (both_ways false refl own); manager = refl }
are_parted start_up false (Some move) system owners gens = record { first = λ q own. absurd (both_ways false refl own); second = λ q own. refl; manager = refl }
are_parted start_up false None system owners gens = record { first = λ q own. refl; second = λ q own. refl; manager = refl }

-- an activation alone is parted from a move of the profile too
pub default_parted : (moves : Option Move) (system : Name) (owners : OwnerIds) (gens : Gens) → AreParted (default_if moves system gens) (activation_part system owners)
default_parted (Some move) system owners gens = record {
  first = of_moved (λ q. reads_accounts q || reads_farm q ≡ false) (of_default (λ q. reads_accounts q || reads_farm q ≡ false) activation_apart activation_unread) activation_unread_goal;
  second = λ q own. or_from _ _ (or_from _ _ (profile_unread q own) (menu_unread_activation q own)) (goal_unread_activation q own);
  manager = refl;
}
default_parted None system owners gens = record { first = λ q own. absurd (both_ways false refl own); second = λ q own. refl; manager = refl }

pub switch_if_is : (start_up switches : Bool) (system : Name) → IsSystemPath system → (owners : OwnerIds) → IsPart (part_if switches (switch_part start_up system owners))
switch_if_is start_up true system named owners = switch_is start_up system named owners
switch_if_is start_up false system named owners = none_is

pub default_if_is : (moves : Option Move) (system : Name) (gens : Gens) → IsBootGens gens → IsPart (default_if moves system gens)
default_if_is (Some move) system gens are = default_is move system gens are
default_if_is None system gens are = none_is

pub parts_are : (start_up switches : Bool) (moves : Option Move) (system : Name) → IsSystemPath system → (owners : OwnerIds) (gens : Gens) → IsBootGens gens → IsPart (parts start_up switches moves system owners gens)
parts_are start_up switches moves system named owners gens are =
    both_part (part_if switches (switch_part start_up system owners)) (default_if moves system gens) (switch_if_is start_up switches system named owners) (default_if_is moves system gens are)

-- the generations after a move are such as a boot menu has
pub gens_to_law : (moves : Option Move) (system : Name) (leaves : Leaves) → IsSystemPath system → IsBootGens (gens_to moves system leaves)
gens_to_law None system leaves named = gens_after_law Set system leaves named
gens_to_law (Some move) system leaves named = gens_after_law move system leaves named

-- ---- no part writes in the store

switch_not_in_store : (q : Name) → IsInStore q → owns_units q || (owns_accounts q || owns_farm q) ≡ false
switch_not_in_store q inside = or_from _ _ (units_not_in_store q inside) (not_owns_store q inside)

moved_not_in_store : (q : Name) → IsInStore q → (owns_profile q || owns_boot q) || owns_goal q ≡ false
moved_not_in_store q inside = or_from _ _ (or_from _ _ (profile_not_in_store q inside) (menu_not_in_store q inside)) (goal_not_in_store q inside)

pub not_in_store : (start_up switches : Bool) (moves : Option Move) (system : Name) (owners : OwnerIds) (gens : Gens) (q : Name) → IsInStore q → (parts start_up switches moves system owners gens).owns q ≡ false
not_in_store start_up true (Some move) system owners gens q inside = or_from _ _ (switch_not_in_store q inside) (moved_not_in_store q inside)
not_in_store start_up true None system owners gens q inside = or_from _ _ (switch_not_in_store q inside) refl
not_in_store start_up false (Some move) system owners gens q inside = moved_not_in_store q inside
not_in_store start_up false None system owners gens q inside = refl
