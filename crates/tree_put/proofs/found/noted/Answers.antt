use Rattle.tree_put.proofs.FoundLemmas.{noted_in}
use Rattle.tree_put.proofs.found.noted.Goals as goal

pub returns : goal.returns
returns c leaves are = noted_in leaves c.args.findings.now c.args.at.now c.get.result are c.get.ensures.value
