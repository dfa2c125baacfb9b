use Rattle.std.proofs.Common.{◌≡◌, ◌∙◌, ◌++◌, ap, sym}
use Rattle.unit_compare.specs.Compare.{comparison, differs}
use Rattle.unit_compare.specs.Walk.{worse}
use Rattle.unit_compare.proofs.Differing.{made_of}
use Rattle.unit_compare.proofs.Outcomes.{made_append, outcome_made, worse_assoc}
use Rattle.unit_compare.proofs.WalkLemmas.{walked}
use Rattle.unit_compare.proofs.walk.compare_texts.Goals as goal

pub returns : goal.returns
returns c =
    let kind = c.args.kind in
    let old = c.parts-old_parts.result in
    let new = c.parts-new_parts.result in
    let this = old.text.now in
    let that = new.text.now in
    let fronts = old.front_keys.now ++ new.front_keys.now in
    let old_text : this ≡ c.args.old.now = c.parts-old_parts.ensures.text in
    let new_text : that ≡ c.args.new.now = c.parts-new_parts.ensures.text in
    let first : c.compare_fronts.result ≡ made_of kind this that fronts = c.compare_fronts.ensures ∙ outcome_made kind (differs this that) fronts in
    let second : c.compare_keys.result ≡ made_of kind this that old.changed_keys.now =
    c.compare_keys.ensures ∙ outcome_made kind (differs c.args.old.now c.args.new.now) old.changed_keys.now
    ∙ sym (λ i. made_of kind (old_text i) (new_text i) old.changed_keys.now) in
    let third : c.compare_keys-2.result ≡ made_of kind this that new.changed_keys.now =
    c.compare_keys-2.ensures ∙ outcome_made kind (differs c.args.old.now c.args.new.now) new.changed_keys.now
    ∙ sym (λ i. made_of kind (old_text i) (new_text i) new.changed_keys.now) in
    c.worse-2.ensures
    ∙ ap (λ o. worse o c.compare_keys-2.result) c.worse.ensures
    ∙ (λ i. worse (worse (first i) (second i)) (third i))
    ∙ worse_assoc (made_of kind this that fronts) (made_of kind this that old.changed_keys.now) (made_of kind this that new.changed_keys.now)
    ∙ ap (λ o. worse (made_of kind this that fronts) o) (sym (made_append kind (differs this that) old.changed_keys.now new.changed_keys.now))
    ∙ sym (made_append kind (differs this that) fronts (old.changed_keys.now ++ new.changed_keys.now))
    ∙ walked old new c.parts-old_parts.ensures.parts c.parts-new_parts.ensures.parts kind
    ∙ (λ i. comparison kind (old_text i) (new_text i))
