use Rattle.std.proofs.Common.{take}
use Rattle.host_trait.specs.World.{Leaves}
use Rattle.leaf_limits.specs.Limits.{AreWithin}
use Rattle.switch_engine.proofs.sources.are_known_short.Given as goal
use Rattle.tree_put.specs.Found.{AreFound}

-- those so far are within the limit
abbrev pub invariant-loop-at : goal.invariant-loop-at
invariant-loop-at l = (leaves : Leaves) → AreFound leaves l.findings → AreWithin (take l.at-index l.places) leaves
