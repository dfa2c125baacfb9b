use Rattle.tree_put.proofs.FoundLemmas.{none_found}
use Rattle.tree_put.proofs.found.nothing_found.Goals as goal

pub returns : goal.returns
returns c leaves = none_found leaves c.new.result c.new.ensures.empty
