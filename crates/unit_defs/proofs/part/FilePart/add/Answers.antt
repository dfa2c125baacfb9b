use Rattle.std.proofs.Common.{rules}
use Rattle.unit_defs.proofs.part.FilePart.add.Goals as goal

pub returns-clause-text : goal.returns-clause-text
returns-clause-text c = c.in_ok-add.ensures.ok

pub returns-clause-fault : goal.returns-clause-fault
returns-clause-fault c = search rules steps 300000
