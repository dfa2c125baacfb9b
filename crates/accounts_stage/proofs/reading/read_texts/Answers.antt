use Rattle.host_trait.proofs.Readings.{no_device, nothing_read, read_handed, read_ok, read_then, told_read}
use Rattle.tree_put.proofs.FoundLemmas.{told_still}
use Rattle.accounts_stage.proofs.reading.read_texts.Goals as goal

pub returns-in_err-group_path-clause-reads : goal.returns-in_err-group_path-clause-reads
returns-in_err-group_path-clause-reads g c = nothing_read _ (no_device _ c.from_residual.ensures.1)

pub returns-in_err-passwd_path-clause-reads : goal.returns-in_err-passwd_path-clause-reads
returns-in_err-passwd_path-clause-reads g c = nothing_read _ (no_device _ c.from_residual-in_err-passwd_path.ensures.1)

pub returns-in_err-shadow_path-clause-reads : goal.returns-in_err-shadow_path-clause-reads
returns-in_err-shadow_path-clause-reads g c = nothing_read _ (no_device _ c.from_residual-in_err-shadow_path.ensures.1)

pub returns-in_err-passwd-clause-reads : goal.returns-in_err-passwd-clause-reads
returns-in_err-passwd-clause-reads g c = read_handed (read_then c.bytes_at.ensures.reads c.in_err-passwd.ensures.reads) _ c.from_residual-in_err-passwd.ensures.1

pub returns-in_err-shadow-clause-reads : goal.returns-in_err-shadow-clause-reads
returns-in_err-shadow-clause-reads g c = read_handed (read_then (read_then c.bytes_at.ensures.reads c.bytes_at-2.ensures.reads) c.in_err-shadow.ensures.reads) _ c.from_residual-in_err-shadow.ensures.1

pub returns-clause-reads : goal.returns-clause-reads
returns-clause-reads g c = read_ok (read_then (read_then c.bytes_at.ensures.reads c.bytes_at-2.ensures.reads) c.bytes_at-3.ensures.reads) _

pub bytes_at-requires-2 : goal.bytes_at-requires-2
bytes_at-requires-2 g c = record { found = told_still c.bytes_at.ensures.reads.moments c.in_ok-group.ensures.others }

pub bytes_at-requires-3 : goal.bytes_at-requires-3
bytes_at-requires-3 g c = record { found = told_still c.bytes_at-2.ensures.reads.moments c.in_ok-passwd.ensures.others }

pub returns-clause-others : goal.returns-clause-others
returns-clause-others g c = told_read c.bytes_at.ensures.reads (told_read c.bytes_at-2.ensures.reads c.in_ok-shadow.ensures.others)
