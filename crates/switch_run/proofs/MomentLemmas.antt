-- The moments of a run.
use Rattle.std.proofs.Common.{◌≡◌, false, Option, None, Some, refl, ap, subst, inl}
use Rattle.generations.specs.Boot.{boot_system}
use Rattle.host_trait.specs.World.{WorldState}
use Rattle.switch_engine.specs.declared.command.Command.{Command}
use Rattle.switch_engine.specs.Commands.{IsQuery, brought_to, lacks_system, moved_by, new_system, row, set_to}
use Rattle.switch_engine.specs.Moments as engine
use Rattle.switch_engine.specs.Moments.{IsStepIf}
use Rattle.switch_engine.specs.Owing.{Refuses}
use Rattle.switch_engine.specs.Reboot.{BootsOldOrNew}
use Rattle.switch_engine.proofs.BootLemmas.{boots_into}
use Rattle.switch_engine.proofs.LawLemmas.{begins_moment}
use Rattle.switch_engine.proofs.RefusesLemmas.{one_refusal_law, refused_by_leaves_law, some_refusal_law}
use Rattle.switch_engine.proofs.UnderwayLemmas.{has_a_system}
use Rattle.switch_names.specs.SystemName.{IsSystemPath}
use Rattle.switch_parts.specs.declared.refusal.Refusal.{Refusal}
use Rattle.dry_report.proofs.RerunLemmas.{keeps_report, keeps_same}
use Rattle.dry_report.specs.Report.{KeepsReport}
use Rattle.switch_run.specs.Moments.{IsMomentBy, IsMomentFor}

-- the world at the beginning is one
pub begins : (given : Option Command) (w : WorldState) → IsMomentFor given w w
begins None w = refl
begins (Some command) w = by
  where
    by : (o : Option Refusal) → Refuses command w o → IsMomentBy o command w w
    by None none = begins_moment command w (refused_by_leaves_law command w none)
    by (Some why) is = refl

-- each moment of a command that isn't refused is one of its run
pub of_command : (command : Command) (w m : WorldState) → Refuses command w None → engine.IsMomentOf command w m → IsMomentFor (Some command) w m
of_command command w m none moment = λ why is. subst (λ (o : Option Refusal). IsMomentBy o command w m) (one_refusal_law command w None why none is) moment

-- each moment is one by why the world at the beginning refuses the command
pub by_refusal : (command : Command) (w m : WorldState) → IsMomentFor (Some command) w m → (why : Option Refusal) × Refuses command w why × IsMomentBy why command w m
by_refusal command w m moment = let its = some_refusal_law command w in (its.0, its.1, moment its.0 its.1)

-- each moment of a query is the world at the beginning
pub of_query : (command : Command) (w m : WorldState) → IsQuery command → IsMomentFor (Some command) w m → m ≡ w
of_query command w m query moment = let its = by_refusal command w m moment in by its.0 its.2
  where
    by : (o : Option Refusal) → IsMomentBy o command w m → m ≡ w
    by None moment = subst (λ b. IsStepIf b (row command w.leaves).start_up (moved_by (row command w.leaves)) (new_system command w.leaves) (brought_to command w.leaves) w m) (query w.leaves) moment.step
    by (Some why) moment = moment

-- at each moment a machine boots into the system that it would have booted into, or into the new one
pub boots_of : (command : Command) (w m : WorldState) → IsMomentFor (Some command) w m → BootsOldOrNew command w m
boots_of command w m moment = let its = by_refusal command w m moment in by its.0 its.2
  where
    by : (o : Option Refusal) → IsMomentBy o command w m → BootsOldOrNew command w m
    by None moment = boots_into (set_to command w.leaves) w m moment.named
    by (Some why) same = inl (ap (λ (x : WorldState). boot_system x.leaves) same)

-- the report is kept at each moment
pub of_report : (command : Command) (w m : WorldState) → (lacks_system command w.leaves ≡ false → IsSystemPath (new_system command w.leaves)) → IsMomentFor (Some command) w m → KeepsReport command w m
of_report command w m named moment = let its = by_refusal command w m moment in by its.0 its.1 its.2
  where
    by : (o : Option Refusal) → Refuses command w o → IsMomentBy o command w m → KeepsReport command w m
    by None is moment = let none = refused_by_leaves_law command w is in keeps_report command w m (named (has_a_system command w.leaves none)) none moment
    by (Some why) is same = keeps_same command w m same
