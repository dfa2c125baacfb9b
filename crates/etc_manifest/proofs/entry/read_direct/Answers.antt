use Rattle.host_trait.proofs.Readings.{read_of, read_then}
use Rattle.etc_manifest.proofs.AnswerLemmas.{host_handed}
use Rattle.etc_manifest.proofs.entry.read_direct.Goals as goal

pub returns-in_err-has_long_owner-clause-reads : goal.returns-in_err-has_long_owner-clause-reads
returns-in_err-has_long_owner-clause-reads g c =
    read_of (read_then c.read_target.ensures.reads c.in_err-has_long_owner.ensures.reads) _ (host_handed _ _ c.from_residual-in_err-has_long_owner.ensures.1)

pub returns-then-branch-clause-reads : goal.returns-then-branch-clause-reads
returns-then-branch-clause-reads g c =
    read_of (read_then c.read_target.ensures.reads c.has_long_owner.ensures.reads) _ (λ fault. absurd (c.refused_kind.ensures.cause fault))

pub returns-clause-reads : goal.returns-clause-reads
returns-clause-reads g c =
    read_of (read_then c.read_target.ensures.reads c.has_long_owner.ensures.reads) _ (λ fault. absurd (c.direct_kind.ensures.cause fault))
