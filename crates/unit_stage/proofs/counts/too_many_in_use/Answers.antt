use Rattle.host_trait.proofs.Readings.{read_then}
use Rattle.unit_stage.proofs.counts.too_many_in_use.Goals as goal

pub returns-clause-reads : goal.returns-clause-reads
returns-clause-reads g c = read_then c.current_system.ensures.reads c.too_many_of.ensures.reads
