-- Reboots of a machine on which runs were cut: bootup(7); file-hierarchy(7), "/run/".
use Rattle.std.specs.Prelude.{◌≡◌, ◌⊎◌, ◌∷◌, ℕ, List, [], Some}
use Rattle.activation_stage.specs.Reboot.{IsAfterReboot}
use Rattle.generations.specs.Boot.{boot_system}
use Rattle.host_trait.specs.World.{IsSound, WorldState}
use Rattle.switch_engine.specs.declared.command.Command.TheVariants.{StartUp, Switch}
use Rattle.switch_engine.specs.Final.{IsEndOf}
use Rattle.switch_engine.specs.Reboot.{AreActivatedAlike}
use Rattle.switch_names.specs.Names.{Name}
use Rattle.switch_run.specs.Commands.{command_of}
use Rattle.switch_run.specs.Moments.{IsMomentFor}
use Rattle.switch_run.specs.Runs.{HasEnded, MayBeCut}

-- Runs of these words lead from one world to another: each is cut, in one of these worlds, which is a moment of a run from the
-- world before, and the last is cut there too, or comes to its end.
abbrev pub RunsReach : List (List ℕ) → List WorldState → WorldState → WorldState → Type 0
RunsReach words [] w v = (v ≡ w) ⊎ HasEnded words w v
RunsReach words (m ∷ cuts) w v = IsMomentFor (command_of words) w m × RunsReach words cuts m v

-- a run of a start-up was cut in a moment of it, and the machine starts up again from there, or from its reboot
pub record IsCutRun (r m again : WorldState) : Type 0 where
  pub sound : IsSound r.leaves
  pub moment : IsMomentFor (Some StartUp) r m
  pub after : (again ≡ m) ⊎ IsAfterReboot m again

-- Start-ups lead from one world to another: each but the last is cut, and goes on in the second of these worlds, and the last
-- comes to its end.
abbrev pub StartUpsLead : List (WorldState × WorldState) → WorldState → WorldState → Type 0
StartUpsLead [] r v = IsEndOf StartUp r v
StartUpsLead (cut ∷ cuts) r v = IsCutRun r cut.0 cut.1 × StartUpsLead cuts cut.1 v

-- Where runs of a switch were cut, the machine was rebooted into its system, and a start-up came to its end, the accounts and
-- what a switch writes below /etc are those that an uncut switch leaves.
abbrev pub RebootsLaw : Type 0
RebootsLaw =
    (words : List (List ℕ)) (system : Name) (cuts : List WorldState) (starts : List (WorldState × WorldState)) (first cut rebooted last uncut : WorldState) → (may : MayBeCut words first) →
    may.command ≡ Switch system → IsSound first.leaves → RunsReach words cuts first cut → boot_system cut.leaves ≡ Some system → IsAfterReboot cut rebooted → StartUpsLead starts rebooted last →
    HasEnded words first uncut → AreActivatedAlike uncut last
