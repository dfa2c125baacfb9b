use Rattle.std.proofs.Common.{None}
use Rattle.host_trait.proofs.Readings.{nothing_read_ok}
use Rattle.host_trait.proofs.reading.file_content.Goals as goal

pub returns-in_default-clause-reads : goal.returns-in_default-clause-reads
returns-in_default-clause-reads g c = nothing_read_ok None
