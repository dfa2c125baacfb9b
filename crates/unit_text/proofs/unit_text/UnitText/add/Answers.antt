use Rattle.std.proofs.Common.{◌≡◌, ◌++◌, List, OnErr, Ok, Err, Result, ap, subst, ◌∙◌}
use Rattle.std.proofs.lemmas.List.{append_assoc}
use Rattle.std.proofs.lemmas.Result.{on_err_weaker, on_ok_weaker}
use Rattle.unit_text.specs.declared.assignment.Assignment.{Assignment}
use Rattle.unit_text.specs.UnitText.{HasFrontOf}
use Rattle.unit_text.proofs.ValueLemmas.{of_first, of_second}
use Rattle.unit_text.proofs.unit_text.UnitText.add.Goals as goal

on_err : {T E P : Type 0} (r : Result T E) → P → OnErr r P
on_err (Ok x) p = tt
on_err (Err e) p = p

pub returns-in_err-push_all-clause-err : goal.returns-in_err-push_all-clause-err
returns-in_err-push_all-clause-err c =
    let old = c.args.self.now in
    let new = c.push_all.new.self in
    let has = subst (λ (first : List Assignment). HasFrontOf old first new) (c.as_slice.ensures.value ∙ c.in_ok-first.ensures) c.in_err-push_all.ensures.err in
    on_err c.from_residual-in_err-push_all.result
    (subst (λ (text : List Assignment). HasFrontOf old text new) c.later.view_is (of_first old c.later.inside.front c.later.inside.later.items new has))

pub returns-clause-err : goal.returns-clause-err
returns-clause-err c =
    let old = c.args.self.now in
    let new = c.push_all-2.new.self in
    let first = c.later.inside.front in
    let second = c.later.inside.later.items in
    let before : c.push_all.new.self ≡ old ++ first = c.in_ok-push_all.ensures.ok ∙ ap (λ (xs : List Assignment). old ++ xs) (c.as_slice.ensures.value ∙ c.in_ok-first.ensures) in
    on_err_weaker c.push_all-2.result
    (λ h. subst (λ (text : List Assignment). HasFrontOf old text new) c.later.view_is
    (of_second old first second new (subst (λ (text : List Assignment). HasFrontOf text second new) before h)))
    (subst (λ (xs : List Assignment). OnErr c.push_all-2.result (HasFrontOf c.push_all.new.self xs new)) c.as_slice-2.ensures.value c.push_all-2.ensures.err)

pub returns-clause-ok : goal.returns-clause-ok
returns-clause-ok c =
    let old = c.args.self.now in
    let first = c.later.inside.front in
    let second = c.later.inside.later.items in
    let before : c.push_all.new.self ≡ old ++ first = c.in_ok-push_all.ensures.ok ∙ ap (λ (xs : List Assignment). old ++ xs) (c.as_slice.ensures.value ∙ c.in_ok-first.ensures) in
    on_ok_weaker c.push_all-2.result
    (λ is. is ∙ (λ i. before i ++ c.as_slice-2.ensures.value i) ∙ append_assoc old first second ∙ ap (λ (xs : List Assignment). old ++ xs) c.later.view_is)
    c.push_all-2.ensures.ok
