use Rattle.std.proofs.Common.{◌≡◌, [], ◌∷◌, ◌++◌, ap, sym, ◌∙◌, take}
use Rattle.std.proofs.lemmas.List.{take_all, take_more}
use Rattle.unit_text.specs.UnitKey.{key_of}
use Rattle.unit_text.specs.UnitText.{values_of}
use Rattle.unit_text.specs.declared.unit_key.UnitKey.{UnitKey}
use Rattle.unit_compare.specs.Compare.{differs}
use Rattle.unit_compare.specs.Walk.{key_comparison, worse}
use Rattle.unit_compare.proofs.Differing.{made_of}
use Rattle.unit_compare.proofs.Outcomes.{outcome_made, worse_comm, made_first, made_append}
use Rattle.unit_compare.specs.declared.comparison.Comparison.TheVariants.{Same}
use Rattle.unit_compare.proofs.WalkLemmas.{one_key}
use Rattle.unit_compare.proofs.walk.compare_keys.Goals as goal

pub loop-key-preserved : goal.loop-key-preserved
loop-key-preserved c =
    let kind = c.args.kind in
    let old = c.args.old.now in
    let new = c.args.new.now in
    let keys = c.args.keys.now in
    let key = c.key-item.result in
    let before = take c.loop-key.key-index keys in
    let named : key_of c.as_str-section.result.now c.as_str-name.result.now ≡ key = λ i. key_of (c.as_str-section.ensures i) (c.as_str-name.ensures i) in
    let one : c.compare_values-one.result ≡ made_of kind old new (key ∷ []) =
    c.compare_values-one.ensures
    ∙ (λ i. key_comparison kind key ((c.values.ensures ∙ ap (values_of old) named) i) ((c.values-in-loop-key.ensures ∙ ap (values_of new) named) i))
    ∙ one_key kind old new key ∙ worse_comm Same _ ∙ sym (made_first kind (differs old new) key []) in
    c.worse-outcome.ensures
    ∙ (λ i. worse (c.loop-key.invariant i) (one i))
    ∙ sym (made_append kind (differs old new) before (key ∷ []))
    ∙ ap (λ (k : UnitKey). made_of kind old new (before ++ k ∷ [])) c.key-item.is
    ∙ sym (ap (made_of kind old new) (take_more keys c.loop-key.key-index key c.loop-key-test.true))

pub returns : goal.returns
returns c =
    let kind = c.args.kind in
    let old = c.args.old.now in
    let new = c.args.new.now in
    c.loop-key.invariant ∙ ap (made_of kind old new) (take_all c.loop-key.key-index c.args.keys.now c.loop-key-test.false)
    ∙ sym (outcome_made kind (differs old new) c.args.keys.now)
