use Rattle.std.proofs.lemmas.Result.{IfOk-weaker}
use Rattle.account_text.specs.Shadow.{shadow_name, shadow_row, is_shadow_row}
use Rattle.account_text.proofs.RowLemmas.{shadow_sound}
use Rattle.account_text.proofs.SoundLemmas.{both_ok, read_sound}
use Rattle.account_text.proofs.shadow.read_shadow.Goals as goal

pub returns-clause-ok : goal.returns-clause-ok
returns-clause-ok c =
    both_ok c.read_rows.result _ _ _ c.read_rows.ensures.ok c.read_rows.ensures.complete (λ rows exact complete. record { complete = complete; exact = exact })

pub returns-clause-sound : goal.returns-clause-sound
returns-clause-sound c =
    IfOk-weaker c.read_rows.result _ _ (λ rows is. read_sound shadow_row is_shadow_row shadow_name shadow_sound c.args.bytes.now rows is) c.read_rows.ensures.ok
