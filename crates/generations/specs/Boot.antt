-- The system that a machine boots into: Nix manual, "Profiles"; NixOS manual, "Rolling Back Configuration Changes".
use Rattle.std.specs.Prelude.{◌≡◌, ◌⊎◌, ◌↔◌, ◌^◌, ℕ, Option, Some, option_and_then}
use Rattle.host_trait.specs.Reboot.{rebooted, rebooted_with_blank}
use Rattle.host_trait.specs.World.{Leaves, WorldState}
use Rattle.generations.specs.Goal.{is_current}
use Rattle.generations.specs.Places.{Names, generation_at, greatest_below}
use Rattle.generations.specs.Set.{NamesOldOrNew}
use Rattle.switch_names.specs.Names.{Name}

-- the current generation, or 0
unfoldable pub current : Leaves → ℕ
current leaves = greatest_below (is_current leaves) (2 ^ 32)

-- the system that a machine boots into: that of the current generation, where it names one
abbrev pub boot_system : Leaves → Option Name
boot_system leaves = option_and_then (λ target. target) (generation_at leaves (current leaves))

-- it is the one that the profile names
abbrev pub NamedLaw : Type 0
NamedLaw = (leaves : Leaves) (system : Name) → Names leaves system ↔ (boot_system leaves ≡ Some system)

-- where the profile names what it named, or a system, a machine boots into what it would have, or into that system
abbrev pub OldOrNewLaw : Type 0
OldOrNewLaw =
    (system : Name) (w m : WorldState) → NamesOldOrNew system w m → (boot_system m.leaves ≡ boot_system w.leaves) ⊎ (boot_system m.leaves ≡ Some system)

-- a reboot, with or without an empty file at the stage, leaves the system that a machine boots into
abbrev pub BootStaysLaw : Type 0
BootStaysLaw = (w : WorldState) → (boot_system (rebooted w).leaves ≡ boot_system w.leaves) × (boot_system (rebooted_with_blank w).leaves ≡ boot_system w.leaves)
