use Rattle.std.proofs.Common.{rules}
use Rattle.host_trait.proofs.world.World.same_seen.Goals as goal

pub returns-then-same : goal.returns-then-same
returns-then-same c = search rules steps 500000
