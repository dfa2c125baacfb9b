use Rattle.host_trait.proofs.Readings.{nothing_read_of}
use Rattle.etc_manifest.proofs.entry.read_with.Goals as goal

pub returns-in-None-clause-reads : goal.returns-in-None-clause-reads
returns-in-None-clause-reads g c = nothing_read_of _ c.refused_kind.ensures.cause
