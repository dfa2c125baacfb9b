-- A reboot, and the start-up that follows: NixOS manual, "What happens during a system switch?"; bootup(7).
use Rattle.std.specs.Prelude.{◌≡◌, ℕ}
use Rattle.host_memory.specs.Reboots.{IsRebooted}
use Rattle.host_trait.specs.World.{WorldState}
use Rattle.rehearse.specs.declared.summary.End.{End}
use Rattle.rehearse.specs.Ends.{HasEnded, IsHeld}
use Rattle.rehearse.specs.Through.{IsThrough}
use Rattle.switch_engine.specs.declared.command.Command.TheVariants.{StartUp}

-- a machine was rebooted, and its start-up was run until it ended, however often it was cut
pub record HasStartedUp (pick : ℕ) (how : End) (w v : WorldState) : Type 0 where
  pub rebooted : WorldState
  pub is_rebooted : IsRebooted pick w rebooted
  pub started : IsThrough StartUp how rebooted v

-- the same in one run, which ended so from the world that the reboot left, steady or not
pub record HasStartedAtOnce (pick : ℕ) (how : End) (w v : WorldState) : Type 0 where
  pub rebooted : WorldState
  pub is_rebooted : IsRebooted pick w rebooted
  pub ended : HasEnded StartUp how rebooted v

-- a machine stands as before, or it was rebooted, and what a start-up keeps holds since
pub data IsStartingUp (pick : ℕ) (w m : WorldState) : Type 0 where
  Standing : m ≡ w → IsStartingUp pick w m
  Rebooted : (rebooted : WorldState) → IsRebooted pick w rebooted → IsHeld StartUp rebooted m → IsStartingUp pick w m
