use Rattle.std.proofs.Common.{rules}
use Rattle.host_trait.proofs.world.World.take_leaf.Goals as goal

pub returns-clause-was : goal.returns-clause-was
returns-clause-was c = search rules steps 500000

pub returns-clause-ok : goal.returns-clause-ok
returns-clause-ok c = search rules steps 500000
