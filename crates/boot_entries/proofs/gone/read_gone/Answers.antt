use Rattle.host_trait.proofs.Readings.{no_device, nothing_read}
use Rattle.boot_entries.proofs.gone.read_gone.Goals as goal

pub returns-in_err-numbers-clause-reads : goal.returns-in_err-numbers-clause-reads
returns-in_err-numbers-clause-reads g c = nothing_read _ (no_device _ c.from_residual.ensures.1)

pub returns-in_err-folder-clause-reads : goal.returns-in_err-folder-clause-reads
returns-in_err-folder-clause-reads g c = nothing_read _ (no_device _ c.from_residual-in_err-folder.ensures.1)
