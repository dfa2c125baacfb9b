use Rattle.std.proofs.lemmas.Result.{IfOk-weaker}
use Rattle.account_text.specs.Group.{group_name, group_row, is_group_row}
use Rattle.account_text.proofs.RowLemmas.{group_sound}
use Rattle.account_text.proofs.SoundLemmas.{both_ok, read_sound}
use Rattle.account_text.proofs.group.read_group.Goals as goal

pub returns-clause-ok : goal.returns-clause-ok
returns-clause-ok c =
    both_ok c.read_rows.result _ _ _ c.read_rows.ensures.ok c.read_rows.ensures.complete (λ rows exact complete. record { complete = complete; exact = exact })

pub returns-clause-sound : goal.returns-clause-sound
returns-clause-sound c =
    IfOk-weaker c.read_rows.result _ _ (λ rows is. read_sound group_row is_group_row group_name group_sound c.args.bytes.now rows is) c.read_rows.ensures.ok
