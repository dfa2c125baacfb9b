use Rattle.std.proofs.Common.{None, Some}
use Rattle.host_trait.proofs.Readings.{nothing_read_ok, read_handed, read_ok, read_then}
use Rattle.switch_engine.proofs.planning.too_many.Goals as goal

pub returns-then-not-row-clause-reads : goal.returns-then-not-row-clause-reads
returns-then-not-row-clause-reads g c = nothing_read_ok None

pub returns-in_err-why-2-clause-reads : goal.returns-in_err-why-2-clause-reads
returns-in_err-why-2-clause-reads g c =
    read_then c.too_many_units.ensures.reads (read_handed c.in_err-why-2.ensures.reads _ c.from_residual-in_err-why-2.ensures.1)

pub returns-in-Some-2-clause-reads : goal.returns-in-Some-2-clause-reads
returns-in-Some-2-clause-reads g c = read_then c.too_many_units.ensures.reads (read_ok c.too_many_entries.ensures.reads (Some c.in-Some-2.why))

pub returns-clause-reads : goal.returns-clause-reads
returns-clause-reads g c = read_then c.too_many_units.ensures.reads (read_then c.too_many_entries.ensures.reads c.too_many_rows.ensures.reads)
