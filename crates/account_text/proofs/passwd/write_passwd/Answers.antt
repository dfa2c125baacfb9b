use Rattle.std.proofs.Common.{◌≡◌, true, List, ap, sym, subst, ◌∙◌}
use Rattle.std.specs.List.{list_all}
use Rattle.std.specs.Str.{is_utf8}
use Rattle.account_text.specs.declared.passwd.PasswdRow.{PasswdRow}
use Rattle.account_text.specs.Passwd.{passwd_line, passwd_name, passwd_row, passwd_text, is_passwd_row, IsPasswd}
use Rattle.account_text.proofs.BackLemmas.{passwd_back}
use Rattle.account_text.proofs.SoundLemmas.{both_ok, written_table}
use Rattle.account_text.proofs.passwd.write_passwd.Goals as goal

pub returns-clause-read_back : goal.returns-clause-read_back
returns-clause-read_back c =
    both_ok c.write_rows.result _ _ _ c.write_rows.ensures.text c.write_rows.ensures.utf8
    (λ text is utf8 sound.
    let good = subst (λ (rows : List PasswdRow). list_all (λ row. is_utf8 (passwd_line row)) rows ≡ true) c.as_slice.ensures utf8 in
    let same = is ∙ ap passwd_text c.as_slice.ensures in
    subst (λ t. IsPasswd t c.args.rows.now) (sym same) (written_table passwd_row is_passwd_row passwd_name passwd_line passwd_back c.args.rows.now sound good))
