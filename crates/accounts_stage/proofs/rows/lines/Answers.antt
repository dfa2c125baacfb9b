use Rattle.host_trait.proofs.Readings.{no_device, nothing_read}
use Rattle.accounts_stage.proofs.rows.lines.Goals as goal

pub returns-in_err-at-clause-reads : goal.returns-in_err-at-clause-reads
returns-in_err-at-clause-reads g c = nothing_read _ (no_device _ c.from_residual.ensures.1)

pub bytes_at-requires : goal.bytes_at-requires
bytes_at-requires g c = record { found = record { has = λ w is. c.nothing_found-findings.ensures w.leaves } }
