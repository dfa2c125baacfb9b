use Rattle.std.proofs.Common.{Some}
use Rattle.host_trait.proofs.Readings.{read_ok, read_then}
use Rattle.switch_engine.proofs.planning.too_much.Goals as goal

pub returns-in-Some-clause-reads : goal.returns-in-Some-clause-reads
returns-in-Some-clause-reads g c = read_ok c.too_long.ensures.reads (Some c.in-Some.why)

pub returns-clause-reads : goal.returns-clause-reads
returns-clause-reads g c = read_then c.too_long.ensures.reads c.too_many.ensures.reads
