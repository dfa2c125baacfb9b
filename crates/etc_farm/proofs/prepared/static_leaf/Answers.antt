use Rattle.std.proofs.Common.{rules}
use Rattle.etc_farm.specs.FarmPart.{static_target}
use Rattle.etc_farm.proofs.prepared.static_leaf.Goals as goal

pub returns : goal.returns
unfolding static_target
returns c = search rules steps 300000
