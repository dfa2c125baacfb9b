use Rattle.host_trait.proofs.Moments.{told_as}
use Rattle.tree_put.specs.Found.{AreFound}
use Rattle.tree_put.proofs.written_place.lacks_content.Goals as goal

pub returns-clause-found : goal.returns-clause-found
returns-clause-found g c = told_as c.requires (λ w. AreFound w.leaves c.note.new.findings)
    (λ w is are. c.in_ok-note.ensures w.leaves are (c.in_ok-found.ensures.found.has w is))
