use Rattle.std.proofs.Common.{sym, ap, ◌∙◌}
use Rattle.std.specs.Str.{is_utf8}
use Rattle.std.proofs.lemmas.Str.{is_utf8-from_IsUtf8}
use Rattle.account_text.proofs.table.write_row.Goals as goal

pub returns-clause-utf8 : goal.returns-clause-utf8
returns-clause-utf8 g c =
    ap is_utf8 (sym (c.as_bytes.ensures.value ∙ c.as_str.ensures.value ∙ c.in_ok-line.ensures)) ∙ is_utf8-from_IsUtf8 c.as_bytes.result.now c.as_bytes.ensures.utf8
