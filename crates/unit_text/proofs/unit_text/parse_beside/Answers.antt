use Rattle.std.proofs.Common.{inl, inr, ⊎_elim}
use Rattle.std.proofs.lemmas.Result.{on_ok_weaker, IfErr-weaker}
use Rattle.unit_text.proofs.FaultLemmas.{no_fault, least_fault}
use Rattle.unit_text.proofs.unit_text.parse_beside.Goals as goal

pub returns-clause-sound : goal.returns-clause-sound
returns-clause-sound c = on_ok_weaker c.from_bytes.result (no_fault c.args.bytes.now) c.from_bytes.ensures.sound

pub returns-clause-first : goal.returns-clause-first
returns-clause-first c =
    IfErr-weaker c.from_bytes.result _ _ (λ fault h. ⊎_elim inl (λ e. inr (least_fault c.args.bytes.now fault e)) h) c.from_bytes.ensures.fault
