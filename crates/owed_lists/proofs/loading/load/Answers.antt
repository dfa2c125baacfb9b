use Rattle.host_trait.proofs.Readings.{read_handed, read_ok, read_then, told_read}
use Rattle.tree_put.proofs.FoundLemmas.{told_still}
use Rattle.owed_lists.proofs.ListLemmas.{lists_are}
use Rattle.owed_lists.proofs.loading.load.Goals as goal

pub read_list-requires-2 : goal.read_list-requires-2
read_list-requires-2 g c = record { found = told_still c.read_list.ensures.reads.moments c.in_ok-starts.ensures.others }

pub read_list-requires-3 : goal.read_list-requires-3
read_list-requires-3 g c = record { found = told_still c.read_list-2.ensures.reads.moments c.in_ok-restarts.ensures.others }

pub returns-in_err-restarts-clause-reads : goal.returns-in_err-restarts-clause-reads
returns-in_err-restarts-clause-reads g c = read_handed (read_then c.read_list.ensures.reads c.in_err-restarts.ensures.reads) _ c.from_residual-in_err-restarts.ensures.1

pub returns-in_err-reloads-clause-reads : goal.returns-in_err-reloads-clause-reads
returns-in_err-reloads-clause-reads g c =
    read_handed (read_then c.read_list.ensures.reads (read_then c.read_list-2.ensures.reads c.in_err-reloads.ensures.reads)) _ c.from_residual-in_err-reloads.ensures.1

pub returns-clause-reads : goal.returns-clause-reads
returns-clause-reads g c = read_ok (read_then c.read_list.ensures.reads (read_then c.read_list-2.ensures.reads c.read_list-3.ensures.reads)) _

pub returns-clause-lists : goal.returns-clause-lists
returns-clause-lists g c =
    let restarts = told_read c.read_list.ensures.reads c.in_ok-restarts.ensures.list in
    let reloads = told_read c.read_list.ensures.reads (told_read c.read_list-2.ensures.reads c.in_ok-reloads.ensures.list) in
    record { has = λ w is. lists_are w.leaves _ (c.in_ok-starts.ensures.list.has w is) (restarts.has w is) (reloads.has w is) }

pub returns-clause-others : goal.returns-clause-others
returns-clause-others g c = told_read c.read_list.ensures.reads (told_read c.read_list-2.ensures.reads c.in_ok-reloads.ensures.others)
