use Rattle.host_trait.proofs.Readings.{no_device, nothing_read}
use Rattle.host_trait.proofs.reading.store_content.Goals as goal

pub returns-in_err-place-clause-reads : goal.returns-in_err-place-clause-reads
returns-in_err-place-clause-reads g c = nothing_read _ (no_device _ c.from_residual.ensures.1)
