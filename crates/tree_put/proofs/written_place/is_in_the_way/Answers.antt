use Rattle.host_trait.proofs.Readings.{read_then}
use Rattle.tree_put.specs.Found.{AreFound}
use Rattle.tree_put.proofs.FoundLemmas.{ok_before, told_still}
use Rattle.tree_put.proofs.written_place.is_in_the_way.Goals as goal

pub lacks_content-requires : goal.lacks_content-requires
lacks_content-requires g c = told_still c.is_blocked.ensures.reads.moments c.requires.found

pub returns-clause-found : goal.returns-clause-found
returns-clause-found g c = ok_before (λ w. AreFound w.leaves c.lacks_content.new.findings) c.lacks_content.result c.is_blocked.ensures.reads.moments c.lacks_content.ensures.found

pub returns-clause-reads : goal.returns-clause-reads
returns-clause-reads g c = read_then c.is_blocked.ensures.reads c.lacks_content.ensures.reads
