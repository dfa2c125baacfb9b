use Rattle.std.proofs.Common.{◌≡◌, ◌-◌, ◌∙◌, length, take, Some, subst, sym, nat_eq}
use Rattle.std.specs.List.{ends_with}
use Rattle.std.proofs.lemmas.Bool.{true≢false}
use Rattle.switch_names.specs.UnitKind.{ending_of, kind_of}
use Rattle.switch_names.proofs.Endings.{ends-from_kind}
use Rattle.switch_names.proofs.UnitNames.{stem_parts}
use Rattle.switch_names.proofs.unit_name.UnitName.stem.Goals as goal

-- a name of a kind has its ending
pub returns-in-None : goal.returns-in-None
returns-in-None c =
    let ends = ends-from_kind c.self.inside.text c.self.inside.kind c.self.invariant.1 in
    let lent : ends_with nat_eq c.as_str-text.result.now c.ending.result.now ≡ ends_with nat_eq c.self.inside.text (ending_of c.self.inside.kind) =
    λ i. ends_with nat_eq (c.as_str-text.ensures i) (c.ending.ensures i) in
    absurd (true≢false (sym ends ∙ sym lent ∙ c.in-None.ensures))

pub returns-in-Some : goal.returns-in-Some
returns-in-Some c =
    let name = c.args.self.now in
    let kind = c.self.inside.kind in
    let is : kind_of name ≡ Some kind = subst (λ text. kind_of text ≡ Some kind) c.self.view_is c.self.invariant.1 in
    let taken : c.in-Some.stem.now ≡ take (length name - length (ending_of kind)) name = cc c.in-Some.ensures.1 in
    let parts = stem_parts name c.in-Some.stem.now kind is taken in
    record { stem = parts.0; whole = parts.1 }
