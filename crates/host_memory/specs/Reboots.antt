-- What a reboot leaves of a world, by a pick.
use Rattle.std.specs.Prelude.{◌≡◌, ◌%◌, ℕ}
use Rattle.host_trait.specs.Reboot.{rebooted, rebooted_with_blank}
use Rattle.host_trait.specs.World.{WorldState, IsClear, IsInTheWay, stage}

-- an odd pick leaves an empty file at the stage, where nothing is in its way
pub record IsRebooted (pick : ℕ) (w v : WorldState) : Type 0 where
  pub even : pick % 2 ≡ 0 → v ≡ rebooted w
  pub odd : pick % 2 ≡ 1 → IsClear w.leaves stage → v ≡ rebooted_with_blank w
  pub blocked : IsInTheWay w.leaves stage → v ≡ rebooted w
