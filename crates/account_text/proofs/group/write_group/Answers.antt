use Rattle.std.proofs.Common.{◌≡◌, true, List, ap, sym, subst, ◌∙◌}
use Rattle.std.specs.List.{list_all}
use Rattle.std.specs.Str.{is_utf8}
use Rattle.account_text.specs.declared.group.GroupRow.{GroupRow}
use Rattle.account_text.specs.Group.{group_line, group_name, group_row, group_text, is_group_row, IsGroup}
use Rattle.account_text.proofs.BackLemmas.{group_back}
use Rattle.account_text.proofs.SoundLemmas.{both_ok, written_table}
use Rattle.account_text.proofs.group.write_group.Goals as goal

pub returns-clause-read_back : goal.returns-clause-read_back
returns-clause-read_back c =
    both_ok c.write_rows.result _ _ _ c.write_rows.ensures.text c.write_rows.ensures.utf8
    (λ text is utf8 sound.
    let good = subst (λ (rows : List GroupRow). list_all (λ row. is_utf8 (group_line row)) rows ≡ true) c.as_slice.ensures utf8 in
    let same = is ∙ ap group_text c.as_slice.ensures in
    subst (λ t. IsGroup t c.args.rows.now) (sym same) (written_table group_row is_group_row group_name group_line group_back c.args.rows.now sound good))
