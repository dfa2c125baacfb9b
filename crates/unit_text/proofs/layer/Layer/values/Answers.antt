use Rattle.std.proofs.Common.{sym, ap, ◌∙◌}
use Rattle.unit_text.specs.UnitKey.{key_of}
use Rattle.unit_text.specs.UnitText.{assignments, values_of}
use Rattle.unit_text.proofs.IndexLemmas.{missing_key, read_values}
use Rattle.unit_text.proofs.ValueLemmas.{no_values}
use Rattle.unit_text.proofs.layer.Layer.values.Goals as goal

pub returns-in-Err : goal.returns-in-Err
returns-in-Err c =
    let key = key_of c.args.section.now c.args.key.now in
    let text = (assignments c.self.inside.bytes.items) in
    sym (ap (λ text. values_of text key) (sym c.self.view_is)
    ∙ no_values text key (missing_key text c.self.inside.index.keys key c.in-Err.field-0 c.self.invariant.indexed.keys c.in-Err.ensures.missing))

pub returns-in-Ok : goal.returns-in-Ok
returns-in-Ok c =
    let key = key_of c.args.section.now c.args.key.now in
    c.values_at.ensures
    ∙ read_values (assignments c.self.inside.bytes.items) c.self.inside.index.keys c.self.inside.index.values.items c.in-Ok.at key c.self.invariant.indexed.values c.in-Ok.ensures.found
    ∙ ap (λ text. values_of text key) c.self.view_is
