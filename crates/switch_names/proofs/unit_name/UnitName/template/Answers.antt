use Rattle.std.proofs.Common.{◌≡◌, ◌<◌, ◌==◌, ◌∷◌, ◌++◌, false, length, Some, subst, sym, ap, ◌∙◌, arith}
use Rattle.std.specs.List.{position_or_len, before_first, after_first}
use Rattle.std.proofs.lemmas.Grind.{common_steps}
use Rattle.switch_names.specs.UnitKind.{ending_of, kind_of}
use Rattle.switch_names.specs.UnitName.{IsUnitName, is_at_sign, stem_of}
use Rattle.switch_names.proofs.UnitNames.{template_is_name, template_of-parts}
use Rattle.switch_names.proofs.unit_name.UnitName.template.Goals as goal

-- a template is a name of the kind of its instance
pub invariant_of-result : goal.invariant_of-result
invariant_of-result c =
    let name = c.args.self.now in
    let kind = c.self.inside.kind in
    let before = c.in-Some.before.now in
    let is : IsUnitName name × (kind_of name ≡ Some kind) = subst (λ text. IsUnitName text × (kind_of text ≡ Some kind)) c.self.view_is c.self.invariant in
    let at : position_or_len is_at_sign (stem_of name) < length (stem_of name) = rw c.stem.ensures.stem at c.in-Some.ensures.0 in
    let cut : before ≡ before_first is_at_sign (stem_of name) = rw c.stem.ensures.stem at c.in-Some.ensures.1 in
    let made : before ++ 64 ∷ ending_of kind ≡ c.in_ok-template_text.field-0 = ap (λ e. before ++ 64 ∷ e) (sym c.ending.ensures) ∙ sym c.in_ok-template_text.ensures in
    subst (λ text. IsUnitName text × (kind_of text ≡ Some kind)) made (template_is_name name before kind is.0 is.1 at cut)

pub returns : goal.returns
returns c =
    let name = c.args.self.now in
    let kind = c.self.inside.kind in
    let before = c.in-Some.before.now in
    let instance = c.in-Some.instance.now in
    let of : kind_of name ≡ Some kind = subst (λ text. kind_of text ≡ Some kind) c.self.view_is c.self.invariant.1 in
    let cut : before ≡ before_first is_at_sign (stem_of name) = rw c.stem.ensures.stem at c.in-Some.ensures.1 in
    let after : instance ≡ after_first is_at_sign (stem_of name) = rw c.stem.ensures.stem at c.in-Some.ensures.2 in
    let more : (length instance == 0) ≡ false = sym c.is_empty.ensures ∙ c.if-is_empty.false in
    let made : before ++ 64 ∷ ending_of kind ≡ c.in_ok-template_text.field-0 = ap (λ e. before ++ 64 ∷ e) (sym c.ending.ensures) ∙ sym c.in_ok-template_text.ensures in
    ap Some (sym made) ∙ template_of-parts name before instance kind of cut after more

pub returns-in_default : goal.returns-in_default
returns-in_default c = grind (arith, common_steps)
