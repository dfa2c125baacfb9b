use Rattle.host_trait.proofs.Readings.{read_handed, read_ok, read_then}
use Rattle.tree_put.proofs.found.look.Goals as goal

pub returns-in_err-content-in-Link-clause-reads : goal.returns-in_err-content-in-Link-clause-reads
returns-in_err-content-in-Link-clause-reads g c = read_handed (read_then c.read.ensures.reads c.in_err-content-in-Link.ensures.reads) _ c.from_residual-in_err-content-in-Link.ensures.1

pub returns-clause-reads : goal.returns-clause-reads
returns-clause-reads g c = read_ok (read_then c.read.ensures.reads c.content.ensures.reads) _
