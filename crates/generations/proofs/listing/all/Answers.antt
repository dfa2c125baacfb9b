use Rattle.host_trait.proofs.Readings.{read_handed, read_ok, read_starved, read_then, told_read}
use Rattle.generations.proofs.Reading.{gens_of_world}
use Rattle.generations.proofs.listing.all.Goals as goal

pub returns-clause-gens : goal.returns-clause-gens
returns-clause-gens g c =
    let linked = told_read c.read_targets.ensures.reads c.in_ok-linked.ensures.number in
    record {
      has = λ w is.
          gens_of_world w.leaves c.in_ok-targets.targets c.in_ok-linked.linked (record { list = c.in_ok-list.list; current = c.current_of-current.result })
          (c.in_ok-targets.ensures.targets.has w is) (linked.has w is) c.in_ok-list.ensures.rising c.in_ok-list.ensures.exact
          c.current_of-current.ensures.stands c.current_of-current.ensures.only;
    }

pub returns-in_err-linked-clause-reads : goal.returns-in_err-linked-clause-reads
returns-in_err-linked-clause-reads g c = read_handed (read_then c.read_targets.ensures.reads c.in_err-linked.ensures.reads) _ c.from_residual-in_err-linked.ensures.1

pub returns-in_err-list-clause-reads : goal.returns-in_err-list-clause-reads
returns-in_err-list-clause-reads g c = read_starved (read_then c.read_targets.ensures.reads c.read_profile.ensures.reads) _ c.from_residual-in_err-list.ensures.1

pub returns-clause-reads : goal.returns-clause-reads
returns-clause-reads g c = read_ok (read_then c.read_targets.ensures.reads c.read_profile.ensures.reads) _
