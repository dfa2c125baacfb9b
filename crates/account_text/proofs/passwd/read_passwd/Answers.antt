use Rattle.std.proofs.lemmas.Result.{IfOk-weaker}
use Rattle.account_text.specs.Passwd.{passwd_name, passwd_row, is_passwd_row}
use Rattle.account_text.proofs.RowLemmas.{passwd_sound}
use Rattle.account_text.proofs.SoundLemmas.{both_ok, read_sound}
use Rattle.account_text.proofs.passwd.read_passwd.Goals as goal

pub returns-clause-ok : goal.returns-clause-ok
returns-clause-ok c =
    both_ok c.read_rows.result _ _ _ c.read_rows.ensures.ok c.read_rows.ensures.complete (λ rows exact complete. record { complete = complete; exact = exact })

pub returns-clause-sound : goal.returns-clause-sound
returns-clause-sound c =
    IfOk-weaker c.read_rows.result _ _ (λ rows is. read_sound passwd_row is_passwd_row passwd_name passwd_sound c.args.bytes.now rows is) c.read_rows.ensures.ok
