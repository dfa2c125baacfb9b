use Rattle.host_trait.proofs.Moments.{told_as}
use Rattle.host_trait.proofs.Readings.{nothing_read_ok}
use Rattle.tree_put.specs.Found.{AreFound, IsFound}
use Rattle.tree_put.proofs.FoundLemmas.{when_ok}
use Rattle.tree_put.proofs.found.find.Goals as goal

pub returns-in-Some-clause-found : goal.returns-in-Some-clause-found
returns-in-Some-clause-found g c = told_as c.requires (λ w. IsFound w.leaves c.args.at.now c.in-Some.found) (λ w is are. c.in-Some.ensures.found w.leaves are)

pub returns-in-Some-clause-others : goal.returns-in-Some-clause-others
returns-in-Some-clause-others g c = told_as c.requires (λ w. AreFound w.leaves c.take.new.findings) (λ w is are. c.take.ensures.others w.leaves are)

pub returns-in-Some-clause-reads : goal.returns-in-Some-clause-reads
returns-in-Some-clause-reads g c = nothing_read_ok c.in-Some.found

pub returns-in-None-clause-others : goal.returns-in-None-clause-others
returns-in-None-clause-others g c =
    when_ok c.look.result (told_as c.requires (λ w. AreFound w.leaves c.take.new.findings) (λ w is are. c.take.ensures.others w.leaves are))
