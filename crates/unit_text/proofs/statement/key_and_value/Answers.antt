use Rattle.std.proofs.Common.{not, lit<, None, Some, ap, ◌∙◌}
use Rattle.std.proofs.lemmas.Bool.{and_left, and_right}
use Rattle.std.proofs.lemmas.Str.Pattern.{split_once_first}
use Rattle.unit_text.specs.Statement.{begins_section, is_equals, trimmed}
use Rattle.unit_text.proofs.EndLemmas.{no_key, none_passes, some_key}
use Rattle.unit_text.proofs.statement.key_and_value.Goals as goal

pub returns-in-None : goal.returns-in-None
returns-in-None c =
    and_left _ _ (and_right (not (begins_section c.args.text.now)) _ (none_passes is_equals c.args.text.now (split_once_first 61 c.args.text.now None c.in-None.ensures.cases (lit< tt))))

pub returns-then-is_empty : goal.returns-then-is_empty
returns-then-is_empty c =
    let split = split_once_first 61 c.args.text.now (Some (c.in-Some.key, c.in-Some.value)) c.in-Some.ensures.cases (lit< tt) in
    no_key c.args.text.now c.in-Some.key.now c.trimmed-key.result.now split.1 c.trimmed-key.ensures c.if-is_empty.ensures

pub returns-else-is_empty : goal.returns-else-is_empty
returns-else-is_empty c =
    let split = split_once_first 61 c.args.text.now (Some (c.in-Some.key, c.in-Some.value)) c.in-Some.ensures.cases (lit< tt) in (
      some_key c.args.text.now c.in-Some.key.now c.trimmed-key.result.now c.requires split.0 split.1 c.trimmed-key.ensures c.if-is_empty.ensures,
      c.trimmed-key.ensures ∙ ap trimmed split.1,
      c.trimmed.ensures ∙ ap trimmed split.2,
    )
