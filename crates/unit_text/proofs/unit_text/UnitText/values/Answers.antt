use Rattle.std.proofs.Common.{sym, ap, ◌∙◌}
use Rattle.unit_text.specs.UnitKey.{key_of}
use Rattle.unit_text.specs.UnitText.{values_of}
use Rattle.unit_text.proofs.IndexLemmas.{missing_key}
use Rattle.unit_text.proofs.ValueLemmas.{values_kept}
use Rattle.unit_text.proofs.unit_text.UnitText.values.Goals as goal

pub returns-in-Err : goal.returns-in-Err
returns-in-Err c =
    let key = key_of c.args.section.now c.args.key.now in
    let front = c.self.inside.front in
    let later = c.self.inside.later.items in
    c.values.ensures
    ∙ sym (values_kept front later key (missing_key later c.self.inside.changes.keys key c.in-Err.field-0 c.self.invariant.keys c.in-Err.ensures.missing))
    ∙ ap (λ text. values_of text key) c.self.view_is
