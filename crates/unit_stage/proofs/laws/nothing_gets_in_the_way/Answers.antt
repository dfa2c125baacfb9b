use Rattle.unit_stage.proofs.MomentLemmas.{free_law}
use Rattle.unit_stage.proofs.laws.nothing_gets_in_the_way.Goals as goal

pub returns : goal.returns
returns c = free_law
