use Rattle.std.proofs.Common.{sym, subst, ◌∙◌, arith}
use Rattle.host_memory.proofs.Histories.{kept, one_more}
use Rattle.host_memory.proofs.Undoing.{renamed}
use Rattle.host_memory.proofs.history.History.rename.Goals as goal
use Rattle.host_trait.specs.World.{IsSound, WorldState}
use Rattle.host_trait.specs.Manager.{HasPlainTexts}
use Rattle.host_trait.specs.States.{AreStates}

pub returns-clause-ok : goal.returns-clause-ok
returns-clause-ok c =
    renamed _ _ _ _ _ _ c.in_ok-from.ensures c.in_ok-place.ensures c.requires.other c.requires.staged c.in_ok-was.ensures.was c.in_ok-was.ensures.ok
    (one_more _ _ _ _ c.push_reserved.ensures.items c.reserve.ensures.items)

pub push_reserved-requires : goal.push_reserved-requires
push_reserved-requires c = omega (arith, c.in_ok-reserve.ensures.ok)

pub invariant_of-self-2 : goal.invariant_of-self-2
invariant_of-self-2 c = record {
  sound = c.in_ok-was.ensures.sound;
  plain = subst (λ (w : WorldState). HasPlainTexts w.manager) (sym c.in_ok-was.ensures.ok) c.args.self.now.plain;
  states = subst (λ (w : WorldState). AreStates w.manager.states) (sym c.in_ok-was.ensures.ok) c.args.self.now.states;
}

pub invariant_of-self-in-Break-branch-4 : goal.invariant_of-self-in-Break-branch-4
invariant_of-self-in-Break-branch-4 c = record {
  sound = subst (λ (w : WorldState). IsSound w.leaves) (sym c.in_err-was.ensures.err) c.args.self.now.sound;
  plain = subst (λ (w : WorldState). HasPlainTexts w.manager) (sym c.in_err-was.ensures.err) c.args.self.now.plain;
  states = subst (λ (w : WorldState). AreStates w.manager.states) (sym c.in_err-was.ensures.err) c.args.self.now.states;
}

pub move_leaf-requires-clause-other : goal.move_leaf-requires-clause-other
move_leaf-requires-clause-other c = λ same. c.requires.other (same ∙ c.in_ok-from.ensures)

pub returns-in_err-was-clause-err : goal.returns-in_err-was-clause-err
returns-in_err-was-clause-err c = kept _ _ _ _ _ c.in_err-was.ensures.err c.reserve.ensures.items
