use Rattle.host_trait.proofs.Readings.{read_then}
use Rattle.host_trait.proofs.reading.content.Goals as goal

pub returns-in-Link-clause-reads : goal.returns-in-Link-clause-reads
returns-in-Link-clause-reads g c = read_then c.read.ensures.reads c.store_content.ensures.reads
