use Rattle.host_trait.proofs.Readings.{no_device, nothing_read, read_ok}
use Rattle.switch_engine.proofs.system.version_length.Goals as goal

pub returns-in_err-at-clause-reads : goal.returns-in_err-at-clause-reads
returns-in_err-at-clause-reads g c = nothing_read _ (no_device _ c.from_residual.ensures.1)

pub returns-clause-reads : goal.returns-clause-reads
returns-clause-reads g c = read_ok c.content.ensures.reads _
