use Rattle.std.proofs.Common.{◌≡◌, ap, ◌∙◌, sym, map}
use Rattle.unit_text.specs.UnitText.{is_assigned, values_of}
use Rattle.unit_text.proofs.KeyLemmas.{same_keys}
use Rattle.unit_text.proofs.layer.Layer.values_by_key.Goals as goal

pub returns : goal.returns
returns c keys are =
    let is = c.self.invariant.indexed in
    let one : c.self.inside.index.keys ≡ keys =
    same_keys _ keys is.keys.sorted are.sorted (λ key. is.keys.exact key ∙ ap (λ text. is_assigned text key) c.self.view_is ∙ sym (are.exact key)) in
    c.as_slice.ensures.value ∙ is.values ∙ (λ i. map (values_of (c.self.view_is i)) (one i))
