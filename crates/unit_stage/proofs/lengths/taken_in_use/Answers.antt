use Rattle.host_trait.proofs.Readings.{read_then}
use Rattle.unit_stage.proofs.lengths.taken_in_use.Goals as goal

pub returns-in-Some-clause-reads : goal.returns-in-Some-clause-reads
returns-in-Some-clause-reads g c = read_then c.current_system.ensures.reads c.taken.ensures.reads
