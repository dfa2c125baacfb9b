use Rattle.std.proofs.Common.{sym, subst}
use Rattle.host_trait.proofs.Readings.{read_handed, read_ok, read_starved, read_then, told_read}
use Rattle.log_text.specs.declared.lists.Lists.{Lists}
use Rattle.owed_log.specs.Standing.{AreListsAt}
use Rattle.tree_put.proofs.FoundLemmas.{told_still}
use Rattle.unit_stage.proofs.WaitingLemmas.{lists_taken}
use Rattle.unit_stage.proofs.known.read_states.Goals as goal

pub read-requires : goal.read-requires
read-requires g c = record { found = told_still c.units.ensures.reads.moments c.requires.found }

pub returns-clause-others : goal.returns-clause-others
returns-clause-others g c = told_read c.units.ensures.reads c.in_ok-standing.ensures.others

pub returns-in_err-standing-clause-reads : goal.returns-in_err-standing-clause-reads
returns-in_err-standing-clause-reads g c = read_handed (read_then c.units.ensures.reads c.in_err-standing.ensures.reads) _ c.from_residual-in_err-standing.ensures.1

pub returns-clause-reads : goal.returns-clause-reads
returns-clause-reads g c = read_ok (read_then c.units.ensures.reads c.read.ensures.reads) _

pub returns-clause-states : goal.returns-clause-states
returns-clause-states g c = record {
  has = λ w is system defs.
      let standing = (told_read c.units.ensures.reads c.in_ok-standing.ensures.standing).has w is in
      record {
        states = c.in_ok-states.ensures.states.has w is;
        lists = lists_taken w.leaves system c.args.new.now defs c.args.start_up c.lists_of.result c.in_ok-lists.lists
            (subst (λ (lists : Lists). AreListsAt w.leaves lists) (sym c.lists_of.ensures) standing.lists) c.in_ok-lists.ensures;
        log = standing.log;
      };
}

pub returns-in_err-lists-clause-reads : goal.returns-in_err-lists-clause-reads
returns-in_err-lists-clause-reads g c = read_starved (read_then c.units.ensures.reads c.read.ensures.reads) _ c.from_residual-in_err-lists.ensures.1
