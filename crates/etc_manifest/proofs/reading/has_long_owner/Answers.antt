use Rattle.host_trait.proofs.Readings.{read_then}
use Rattle.etc_manifest.proofs.reading.has_long_owner.Goals as goal

pub returns-clause-reads : goal.returns-clause-reads
returns-clause-reads g c = read_then c.has_long.ensures.reads c.has_long-2.ensures.reads
