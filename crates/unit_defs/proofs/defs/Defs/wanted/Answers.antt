use Rattle.std.proofs.Common.{List, get_or, length, ap, subst, ◌≡◌, ◌<◌, ◌∙◌, None, arith}
use Rattle.std.specs.List.{slice_get}
use Rattle.std.specs.Option.{option_and_then}
use Rattle.switch_names.specs.UnitName.{template_of}
use Rattle.unit_defs.specs.declared.unit.Unit.{Unit}
use Rattle.unit_defs.specs.declared.unit.Wants.{Wants}
use Rattle.unit_defs.specs.Defs.{unit_in, wanted_in}
use Rattle.unit_defs.proofs.WantLemmas.{list_each, list_sorted, wanted_by_text, wanted_none, wanted_whole}
use Rattle.std.proofs.lemmas.Grind.{common_steps}
use Rattle.unit_defs.proofs.defs.Defs.wanted.Goals as goal

pub returns-in-Some-clause-wanted : goal.returns-in-Some-clause-wanted
returns-in-Some-clause-wanted c =
    let there = subst (λ (us : List Unit). (c.in-Some.at < length us) × (unit_in us c.args.unit.now ≡ slice_get us c.in-Some.at)) c.as_slice.ensures c.in-Some.ensures in
    let item : Wants = c.index-as_slice-at.result in
    ap (λ (ws : List Wants). (get_or ws c.in-Some.at item).whole) c.as_slice-in-Some.ensures
    ∙ wanted_whole c.self.inside.units c.self.inside.wants c.self.invariant.their_wants c.args.unit.now c.in-Some.at item there.0 there.1
    ∙ ap (λ (us : List Unit). wanted_in us c.args.unit.now) c.self.view_is

pub returns-in-Some-find_template-clause-wanted : goal.returns-in-Some-find_template-clause-wanted
returns-in-Some-find_template-clause-wanted c =
    let at = c.in-Some-find_template.at in
    let none = subst (λ (us : List Unit). unit_in us c.args.unit.now ≡ None) c.as_slice.ensures c.in_default.ensures in
    let there = subst (λ (us : List Unit). (at < length us) × (option_and_then (unit_in us) (template_of c.args.unit.now) ≡ slice_get us at)) c.as_slice-2.ensures c.in-Some-find_template.ensures in
    let item : Wants = c.index-as_slice-at-in-Some-find_template.result in
    ap (λ (ws : List Wants). (get_or ws at item).by_text) c.as_slice-in-Some-find_template.ensures
    ∙ wanted_by_text c.self.inside.units c.self.inside.wants c.self.invariant.their_wants c.args.unit.now at item
    c.as_str-name.ensures.is_name none there.0 there.1
    ∙ ap (λ (us : List Unit). wanted_in us c.args.unit.now) c.self.view_is

pub returns-in-None-clause-wanted : goal.returns-in-None-clause-wanted
returns-in-None-clause-wanted c =
    let none = subst (λ (us : List Unit). unit_in us c.args.unit.now ≡ None) c.as_slice.ensures c.in_default.ensures in
    let no_template = subst (λ (us : List Unit). option_and_then (unit_in us) (template_of c.args.unit.now) ≡ None) c.as_slice-2.ensures c.in-None.ensures in
    wanted_none c.self.inside.units c.args.unit.now c.self.inside.nothing c.self.invariant.is_empty c.as_str-name.ensures.is_name none no_template
    ∙ ap (λ (us : List Unit). wanted_in us c.args.unit.now) c.self.view_is

pub returns-in-Some-find_template-clause-sorted : goal.returns-in-Some-find_template-clause-sorted
returns-in-Some-find_template-clause-sorted c = list_sorted c.args.self.now c.args.unit.now _ (returns-in-Some-find_template-clause-wanted c)

pub returns-in-Some-find_template-clause-each : goal.returns-in-Some-find_template-clause-each
returns-in-Some-find_template-clause-each c = list_each c.args.self.now c.args.unit.now _ (returns-in-Some-find_template-clause-wanted c)

pub returns-in-None-clause-sorted : goal.returns-in-None-clause-sorted
returns-in-None-clause-sorted c = list_sorted c.args.self.now c.args.unit.now _ (returns-in-None-clause-wanted c)

pub returns-in-None-clause-each : goal.returns-in-None-clause-each
returns-in-None-clause-each c = list_each c.args.self.now c.args.unit.now _ (returns-in-None-clause-wanted c)

pub returns-in-Some-clause-sorted : goal.returns-in-Some-clause-sorted
returns-in-Some-clause-sorted c = list_sorted c.args.self.now c.args.unit.now _ (returns-in-Some-clause-wanted c)

pub returns-in-Some-clause-each : goal.returns-in-Some-clause-each
returns-in-Some-clause-each c = list_each c.args.self.now c.args.unit.now _ (returns-in-Some-clause-wanted c)

pub bounds-as_slice-at : goal.bounds-as_slice-at
bounds-as_slice-at c = grind (arith, common_steps)

pub bounds-as_slice-at-in-Some-find_template : goal.bounds-as_slice-at-in-Some-find_template
bounds-as_slice-at-in-Some-find_template c = grind (arith, common_steps)
