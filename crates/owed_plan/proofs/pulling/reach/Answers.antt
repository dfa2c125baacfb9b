use Rattle.std.proofs.Common.{not, ◌||◌, ◌++◌, ◌∷◌, [], List, ap, sym, ◌∙◌, rules}
use Rattle.std.proofs.lemmas.Bool.{not-false, not-true}
use Rattle.switch_names.specs.Names.{Name, has, is_name}
use Rattle.owed_plan.proofs.NameSetLemmas.{new_pushed, nothing_pushed}
use Rattle.owed_plan.proofs.pulling.reach.Goals as goal

pub returns-in_ok-push-clause-added : goal.returns-in_ok-push-clause-added
returns-in_ok-push-clause-added c = λ name.
    c.in_ok-insert.ensures.added name ∙ ap (λ (n : Name). has c.args.reached.now name || is_name name n) c.in_ok-copy.ensures

pub returns-else-branch-clause-added : goal.returns-else-branch-clause-added
returns-else-branch-clause-added c = λ name.
    c.in_ok-insert.ensures.added name ∙ ap (λ (n : Name). has c.args.reached.now name || is_name name n) c.in_ok-copy.ensures

pub returns-in_ok-push-clause-pushed : goal.returns-in_ok-push-clause-pushed
returns-in_ok-push-clause-pushed c = λ name.
    ap (λ (items : List Name). has items name) (c.in_ok-push.ensures.items ∙ ap (λ (n : Name). c.args.left.now.items ++ n ∷ []) c.in_ok-copy-2.ensures)
    ∙ new_pushed c.args.reached.now c.args.left.now.items c.args.unit.now name
    (not-true _ (ap (λ (n : Name). not (has c.args.reached.now n)) (sym c.in_ok-copy.ensures) ∙ sym c.in_ok-insert.ensures.is_new ∙ c.if-branch.true))

pub returns-else-branch-clause-pushed : goal.returns-else-branch-clause-pushed
returns-else-branch-clause-pushed c = λ name.
    nothing_pushed c.args.reached.now c.args.left.now.items c.args.unit.now name
    (not-false _ (ap (λ (n : Name). not (has c.args.reached.now n)) (sym c.in_ok-copy.ensures) ∙ sym c.in_ok-insert.ensures.is_new ∙ c.if-branch.false))

pub returns-in_ok-push-clause-as_many : goal.returns-in_ok-push-clause-as_many
returns-in_ok-push-clause-as_many c = search rules
