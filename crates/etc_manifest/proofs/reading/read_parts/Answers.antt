use Rattle.host_trait.proofs.Readings.{no_device, nothing_read, read_handed, read_ok, read_then}
use Rattle.etc_manifest.proofs.reading.read_parts.Goals as goal

pub returns-in_err-path-clause-reads : goal.returns-in_err-path-clause-reads
returns-in_err-path-clause-reads g c = nothing_read _ (no_device _ c.from_residual.ensures.1)

pub returns-in_err-uid-clause-reads : goal.returns-in_err-uid-clause-reads
returns-in_err-uid-clause-reads g c = read_handed (read_then c.short_content.ensures.reads c.in_err-uid.ensures.reads) _ c.from_residual-in_err-uid.ensures.1

pub returns-in_err-gid-clause-reads : goal.returns-in_err-gid-clause-reads
returns-in_err-gid-clause-reads g c =
    read_handed (read_then (read_then c.short_content.ensures.reads c.owner_text.ensures.reads) c.in_err-gid.ensures.reads) _ c.from_residual-in_err-gid.ensures.1

pub returns-clause-reads : goal.returns-clause-reads
returns-clause-reads g c = read_ok (read_then (read_then c.short_content.ensures.reads c.owner_text.ensures.reads) c.owner_text-2.ensures.reads) _
