use Rattle.host_trait.proofs.Readings.{no_device, nothing_read, read_handed, read_ok, read_then, told_read}
use Rattle.tree_put.proofs.FoundLemmas.{told_still}
use Rattle.accounts_stage.proofs.memory.read_memory.Goals as goal

pub returns-in_err-uids_path-clause-reads : goal.returns-in_err-uids_path-clause-reads
returns-in_err-uids_path-clause-reads g c = nothing_read _ (no_device _ c.from_residual.ensures.1)

pub returns-in_err-gids_path-clause-reads : goal.returns-in_err-gids_path-clause-reads
returns-in_err-gids_path-clause-reads g c = nothing_read _ (no_device _ c.from_residual-in_err-gids_path.ensures.1)

pub returns-in_err-users_path-clause-reads : goal.returns-in_err-users_path-clause-reads
returns-in_err-users_path-clause-reads g c = nothing_read _ (no_device _ c.from_residual-in_err-users_path.ensures.1)

pub returns-in_err-groups_path-clause-reads : goal.returns-in_err-groups_path-clause-reads
returns-in_err-groups_path-clause-reads g c = nothing_read _ (no_device _ c.from_residual-in_err-groups_path.ensures.1)

pub returns-in_err-gids-clause-reads : goal.returns-in_err-gids-clause-reads
returns-in_err-gids-clause-reads g c = read_handed (read_then c.find_content.ensures.reads c.in_err-gids.ensures.reads) _ c.from_residual-in_err-gids.ensures.1

pub returns-in_err-users-clause-reads : goal.returns-in_err-users-clause-reads
returns-in_err-users-clause-reads g c = read_handed (read_then (read_then c.find_content.ensures.reads c.find_content-2.ensures.reads) c.in_err-users.ensures.reads) _ c.from_residual-in_err-users.ensures.1

pub returns-in_err-groups-clause-reads : goal.returns-in_err-groups-clause-reads
returns-in_err-groups-clause-reads g c = read_handed (read_then (read_then (read_then c.find_content.ensures.reads c.find_content-2.ensures.reads) c.bytes_at.ensures.reads) c.in_err-groups.ensures.reads) _ c.from_residual-in_err-groups.ensures.1

pub returns-clause-reads : goal.returns-clause-reads
returns-clause-reads g c = read_ok (read_then (read_then (read_then c.find_content.ensures.reads c.find_content-2.ensures.reads) c.bytes_at.ensures.reads) c.bytes_at-2.ensures.reads) _

pub find_content-requires-2 : goal.find_content-requires-2
find_content-requires-2 g c = told_still c.find_content.ensures.reads.moments c.in_ok-uids.ensures.others

pub bytes_at-requires : goal.bytes_at-requires
bytes_at-requires g c = record { found = told_still c.find_content-2.ensures.reads.moments c.in_ok-gids.ensures.others }

pub bytes_at-requires-2 : goal.bytes_at-requires-2
bytes_at-requires-2 g c = record { found = told_still c.bytes_at.ensures.reads.moments c.in_ok-users.ensures.others }

pub returns-clause-others : goal.returns-clause-others
returns-clause-others g c =
    told_read c.find_content.ensures.reads (told_read c.find_content-2.ensures.reads (told_read c.bytes_at.ensures.reads c.in_ok-groups.ensures.others))
