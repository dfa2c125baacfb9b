use Rattle.std.proofs.Common.{false}
use Rattle.host_trait.proofs.Readings.{no_device, nothing_read, nothing_read_ok}
use Rattle.etc_manifest.proofs.reading.has_long.Goals as goal

pub returns-in_err-path-clause-reads : goal.returns-in_err-path-clause-reads
returns-in_err-path-clause-reads g c = nothing_read _ (no_device _ c.from_residual.ensures.1)

pub returns-in_default-clause-reads : goal.returns-in_default-clause-reads
returns-in_default-clause-reads g c = nothing_read_ok false
