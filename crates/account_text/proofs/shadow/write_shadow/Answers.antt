use Rattle.std.proofs.Common.{◌≡◌, true, List, ap, sym, subst, ◌∙◌}
use Rattle.std.specs.List.{list_all}
use Rattle.std.specs.Str.{is_utf8}
use Rattle.account_text.specs.declared.shadow.ShadowRow.{ShadowRow}
use Rattle.account_text.specs.Shadow.{shadow_line, shadow_name, shadow_row, shadow_text, is_shadow_row, IsShadow}
use Rattle.account_text.proofs.BackLemmas.{shadow_back}
use Rattle.account_text.proofs.SoundLemmas.{both_ok, written_table}
use Rattle.account_text.proofs.shadow.write_shadow.Goals as goal

pub returns-clause-read_back : goal.returns-clause-read_back
returns-clause-read_back c =
    both_ok c.write_rows.result _ _ _ c.write_rows.ensures.text c.write_rows.ensures.utf8
    (λ text is utf8 sound.
    let good = subst (λ (rows : List ShadowRow). list_all (λ row. is_utf8 (shadow_line row)) rows ≡ true) c.as_slice.ensures utf8 in
    let same = is ∙ ap shadow_text c.as_slice.ensures in
    subst (λ t. IsShadow t c.args.rows.now) (sym same) (written_table shadow_row is_shadow_row shadow_name shadow_line shadow_back c.args.rows.now sound good))
