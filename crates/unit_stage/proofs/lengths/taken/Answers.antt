use Rattle.host_trait.proofs.Readings.{read_handed, read_ok, read_starved, read_then, told_read}
use Rattle.unit_stage.proofs.LengthLemmas.{both_taken}
use Rattle.unit_stage.proofs.lengths.taken.Goals as goal

pub returns-in_err-in_use-clause-reads : goal.returns-in_err-in_use-clause-reads
returns-in_err-in_use-clause-reads g c = read_handed (read_then c.taken.ensures.reads c.in_err-in_use.ensures.reads) _ c.from_residual-in_err-in_use.ensures.1

pub returns-in_err-joined-clause-reads : goal.returns-in_err-joined-clause-reads
returns-in_err-joined-clause-reads g c = read_starved (read_then c.taken.ensures.reads c.taken_in_use.ensures.reads) _ c.from_residual-in_err-joined.ensures.1

pub returns-clause-taken : goal.returns-clause-taken
returns-clause-taken g c =
    let old = told_read c.taken.ensures.reads c.in_ok-in_use.ensures.taken in
    record {
      has = λ w is.
          both_taken w.leaves c.args.system.now c.in_ok-places.places c.in_ok-in_use.in_use c.in_ok-joined.field-0 c.in_ok-joined.ensures (c.in_ok-places.ensures.taken.has w is) (old.has w is);
    }

pub returns-clause-reads : goal.returns-clause-reads
returns-clause-reads g c = read_ok (read_then c.taken.ensures.reads c.taken_in_use.ensures.reads) _
