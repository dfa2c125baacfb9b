use Rattle.host_trait.proofs.Readings.{no_device, nothing_read, read_handed, read_ok, read_then, told_read}
use Rattle.tree_put.proofs.FoundLemmas.{told_still}
use Rattle.accounts_stage.proofs.judging.read_account_texts.Goals as goal

pub returns-in_err-at-clause-reads : goal.returns-in_err-at-clause-reads
returns-in_err-at-clause-reads g c = nothing_read _ (no_device _ c.from_residual.ensures.1)

pub returns-in_err-tables-clause-reads : goal.returns-in_err-tables-clause-reads
returns-in_err-tables-clause-reads g c = read_handed (read_then c.find_content.ensures.reads c.in_err-tables.ensures.reads) _ c.from_residual-in_err-tables.ensures.1

pub returns-in_err-memory-clause-reads : goal.returns-in_err-memory-clause-reads
returns-in_err-memory-clause-reads g c =
    read_handed (read_then (read_then c.find_content.ensures.reads c.read_texts.ensures.reads) c.in_err-memory.ensures.reads) _ c.from_residual-in_err-memory.ensures.1

pub returns-clause-reads : goal.returns-clause-reads
returns-clause-reads g c = read_ok (read_then (read_then c.find_content.ensures.reads c.read_texts.ensures.reads) c.read_memory.ensures.reads) _

pub read_texts-requires : goal.read_texts-requires
read_texts-requires g c = record { found = told_still c.find_content.ensures.reads.moments c.in_ok-spec.ensures.others }

pub read_memory-requires : goal.read_memory-requires
read_memory-requires g c = record { found = told_still c.read_texts.ensures.reads.moments c.in_ok-tables.ensures.others }

pub returns-clause-others : goal.returns-clause-others
returns-clause-others g c = told_read c.find_content.ensures.reads (told_read c.read_texts.ensures.reads c.in_ok-memory.ensures.others)
