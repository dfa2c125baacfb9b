use Rattle.tree_put.proofs.FoundLemmas.{found_in, found_less}
use Rattle.tree_put.proofs.found.take.Goals as goal

pub returns-clause-found : goal.returns-clause-found
returns-clause-found c leaves are = found_in leaves c.args.findings.now c.args.at.now c.remove.result are c.remove.ensures.value

pub returns-clause-others : goal.returns-clause-others
returns-clause-others c leaves are = found_less leaves c.args.findings.now c.remove.new.self c.args.at.now are c.remove.ensures.updates.0
