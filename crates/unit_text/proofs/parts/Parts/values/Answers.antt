use Rattle.std.proofs.Common.{sym, subst, ◌∙◌}
use Rattle.unit_text.specs.declared.unit_key.UnitKey.{UnitKey}
use Rattle.unit_text.specs.Index.{IsPlaceFor}
use Rattle.unit_text.specs.UnitKey.{key_of}
use Rattle.unit_text.proofs.IndexLemmas.{missing_lacks}
use Rattle.unit_text.proofs.parts.Parts.values.Goals as goal

pub returns-in-Err : goal.returns-in-Err
returns-in-Err c are before =
    let keys = c.args.self.now.changed_keys.now in
    let place = subst (λ (key : UnitKey). IsPlaceFor keys key c.in-Err.field-0) (λ i. key_of (c.as_str.ensures i) (c.as_str-2.ensures i)) c.in-Err.ensures.missing in
    before ∙ sym (are.others c.args.key.now (missing_lacks keys c.args.key.now c.in-Err.field-0 place))
