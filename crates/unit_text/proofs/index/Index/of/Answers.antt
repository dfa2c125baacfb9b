use Rattle.std.proofs.Common.{◌≡◌, [], List, refl, subst, sym, ◌∙◌, rules}
use Rattle.std.specs.List.Sorted.{IsStableBy}
use Rattle.std.proofs.lemmas.Fn.{always_returns_same}
use Rattle.std.proofs.lemmas.Iterator.Adapters.{YieldsList-from_vec}
use Rattle.std.proofs.lemmas.Iterator.Consumers.{YieldsList-end}
use Rattle.std.proofs.lemmas.List.{map-id}
use Rattle.std.proofs.lemmas.List.Sorted.{ranks_by}
use Rattle.unit_text.specs.declared.assignment.Assignment.{Assignment}
use Rattle.unit_text.specs.Index.{IsIndexOf}
use Rattle.unit_text.proofs.KeyLemmas.{key_total}
use Rattle.unit_text.proofs.ValueLemmas.{is_lower}
use Rattle.unit_text.proofs.IndexLemmas.{index_stable}
use Rattle.unit_text.proofs.index.Index.of.Goals as goal

pub loop-assignment-init : goal.loop-assignment-init
loop-assignment-init c = c.new-index.ensures []

pub loop-assignment-preserved : goal.loop-assignment-preserved
loop-assignment-preserved c = c.in_ok-apply.ensures.ok [] c.loop-assignment.yielded c.loop-assignment.invariant refl

pub returns : goal.returns
returns c =
    let stable : IsStableBy is_lower c.args.assignments.items c.sort_by.new.self.items =
    c.in_ok-sort_by.ensures.stable is_lower (ranks_by key_total (λ (a : Assignment). a.at)) (always_returns_same _ _ _ (λ a r q k. search rules)) in
    let sorted = c.sort_by.new.self in
    let gives = c.into_iter-assignment-iterator.ensures.into_iter_gives in
    let end = YieldsList-end (YieldsList-from_vec sorted.items gives.0 (gives.1 ∙ sorted.ok.0))
    c.loop-assignment.yielded _ c.loop-assignment.yielded_by _ c.next.new.self c.in-None.is c.next.ensures.steps in
    let all : c.loop-assignment.yielded ≡ sorted.items = sym (map-id c.loop-assignment.yielded) ∙ end.0 in
    index_stable c.args.assignments.items c.sort_by.new.self.items c.loop-assignment.index stable
    (subst (λ (text : List Assignment). IsIndexOf [] text c.loop-assignment.index) all c.loop-assignment.invariant)
