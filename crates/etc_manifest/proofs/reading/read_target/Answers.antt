use Rattle.host_trait.proofs.Readings.{no_device, nothing_read, read_handed, read_ok, read_then}
use Rattle.etc_manifest.proofs.reading.read_target.Goals as goal

pub returns-in_err-path-clause-reads : goal.returns-in_err-path-clause-reads
returns-in_err-path-clause-reads g c = nothing_read _ (no_device _ c.from_residual.ensures.1)

pub returns-in_err-is_target_long-clause-reads : goal.returns-in_err-is_target_long-clause-reads
returns-in_err-is_target_long-clause-reads g c = read_handed (read_then c.read.ensures.reads c.in_err-is_target_long.ensures.reads) _ c.from_residual-in_err-is_target_long.ensures.1

pub returns-then-branch-clause-reads : goal.returns-then-branch-clause-reads
returns-then-branch-clause-reads g c = read_ok (read_then c.read.ensures.reads c.is_target_long.ensures.reads) _

pub returns-clause-reads : goal.returns-clause-reads
returns-clause-reads g c = read_ok (read_then c.read.ensures.reads c.is_target_long.ensures.reads) _
