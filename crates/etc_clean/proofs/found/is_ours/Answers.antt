use Rattle.std.proofs.Common.{rules, true}
use Rattle.host_trait.proofs.Readings.{nothing_read_ok}
use Rattle.etc_clean.proofs.found.is_ours.Goals as goal

pub returns-then-is_clean-clause-reads : goal.returns-then-is_clean-clause-reads
returns-then-is_clean-clause-reads g c = nothing_read_ok true

pub returns-clause-ours : goal.returns-clause-ours
returns-clause-ours g c = search rules steps 300000

pub returns-then-is_clean-clause-ours : goal.returns-then-is_clean-clause-ours
returns-then-is_clean-clause-ours g c = search rules steps 300000
