use Rattle.switch_engine.proofs.RefusesLemmas.{refused_by_leaves_law}
use Rattle.switch_engine.proofs.laws.refused_by_leaves.Goals as goal

pub returns : goal.returns
returns c = refused_by_leaves_law
