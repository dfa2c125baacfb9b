use Rattle.std.proofs.Common.{None}
use Rattle.host_trait.proofs.Readings.{no_device, nothing_read, nothing_read_ok, read_ok, read_starved}
use Rattle.generations.proofs.listing.read_link.Goals as goal

pub returns-in_err-number-clause-reads : goal.returns-in_err-number-clause-reads
returns-in_err-number-clause-reads g c = nothing_read _ (no_device _ c.from_residual.ensures.1)

pub returns-in_default-clause-reads : goal.returns-in_default-clause-reads
returns-in_default-clause-reads g c = nothing_read_ok None

pub returns-in_default-2-clause-reads : goal.returns-in_default-2-clause-reads
returns-in_default-2-clause-reads g c = read_ok c.read.ensures.reads None

pub returns-in_err-target-clause-reads : goal.returns-in_err-target-clause-reads
returns-in_err-target-clause-reads g c = read_starved c.read.ensures.reads _ c.from_residual-in_err-target.ensures.1

pub returns-clause-reads : goal.returns-clause-reads
returns-clause-reads g c = read_ok c.read.ensures.reads _
