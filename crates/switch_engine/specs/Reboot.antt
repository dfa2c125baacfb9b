-- What reboots leave of a switch: NixOS manual, "What happens during a system switch?"; file-hierarchy(7), "/run/"; bootup(7).
use Rattle.std.specs.Prelude.{◌≡◌, ◌⊎◌, ◌||◌, ◌∷◌, true, List, [], IsSome, None, Some}
use Rattle.std.specs.FinMap.{get}
use Rattle.accounts_stage.specs.Places.{owns_accounts}
use Rattle.activation_stage.specs.Reboot.{IsAfterReboot}
use Rattle.etc_farm.specs.FarmPart.{owns_farm}
use Rattle.generations.specs.Boot.{boot_system}
use Rattle.host_trait.specs.World.{IsSound, WorldState}
use Rattle.switch_engine.specs.declared.command.Command.{Command}
use Rattle.switch_engine.specs.declared.command.Command.TheVariants.{StartUp, Switch}
use Rattle.switch_engine.specs.Commands.{set_to}
use Rattle.switch_engine.specs.Final.{IsFinalOf}
use Rattle.switch_engine.specs.Moments.{IsMomentOf}
use Rattle.switch_engine.specs.Owing.{IsOver, IsUnderway}
use Rattle.switch_engine.specs.Rows.{refusal}
use Rattle.switch_names.specs.Names.{Name}
use Rattle.switch_names.specs.SystemName.{IsSystemPath}

-- a machine boots into the system that it would have booted into before, or into the one to which a command moves the profile
abbrev pub BootsOldOrNew : Command → WorldState → WorldState → Type 0
BootsOldOrNew command w m = (boot_system m.leaves ≡ boot_system w.leaves) ⊎ (IsSome (set_to command w.leaves) × (boot_system m.leaves ≡ set_to command w.leaves))

-- two worlds have the same account tables, maps of ids and declared names, and the same at each name below /etc that a switch writes
abbrev pub AreActivatedAlike : WorldState → WorldState → Type 0
AreActivatedAlike u v = (q : Name) → (owns_accounts q || owns_farm q) ≡ true → get v.leaves q ≡ get u.leaves q

-- a start-up has changed nothing, or it isn't refused, and this is a moment of it
abbrev pub HasBegunToStart : WorldState → WorldState → Type 0
HasBegunToStart r m = (m ≡ r) ⊎ ((refusal StartUp r.leaves ≡ None) × IsMomentOf StartUp r m)

-- a start-up was cut, and the machine starts up again from there, or from its reboot
pub record IsCutStartUp (r m again : WorldState) : Type 0 where
  pub sound : IsSound r.leaves
  pub moment : HasBegunToStart r m
  pub after : (again ≡ m) ⊎ IsAfterReboot m again

-- start-ups lead from one world to another: each but the last is cut, and goes on in the second of these worlds, and the last comes to
-- its end
abbrev pub LeadsByStartUps : List (WorldState × WorldState) → WorldState → WorldState → Type 0
LeadsByStartUps [] r v = IsFinalOf StartUp r v
LeadsByStartUps (cut ∷ cuts) r v = IsCutStartUp r cut.0 cut.1 × LeadsByStartUps cuts cut.1 v

-- where a machine is rebooted into the system of a switch that is underway or over, its start-ups, however often they are cut and the
-- machine is rebooted, leave of accounts and /etc what the switch leaves that isn't cut
abbrev pub SwitchRebootLaw : Type 0
SwitchRebootLaw =
    (system : Name) (cuts : List (WorldState × WorldState)) (first w r u v : WorldState) → IsSystemPath system → IsSound first.leaves → refusal (Switch system) first.leaves ≡ None →
    IsUnderway (Switch system) first w ⊎ IsOver (Switch system) first w → boot_system w.leaves ≡ Some system → IsAfterReboot w r → IsFinalOf (Switch system) first u → LeadsByStartUps cuts r v →
    AreActivatedAlike u v
