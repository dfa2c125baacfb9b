use Rattle.std.proofs.Common.{sym, subst, arith}
use Rattle.host_memory.proofs.Histories.{kept, one_more}
use Rattle.host_memory.proofs.Undoing.{appended}
use Rattle.host_memory.proofs.history.History.append.Goals as goal
use Rattle.host_trait.specs.World.{IsSound, WorldState}
use Rattle.host_trait.specs.Manager.{HasPlainTexts}
use Rattle.host_trait.specs.States.{AreStates}

pub returns-clause-ok : goal.returns-clause-ok
returns-clause-ok c = appended _ _ c.args.at.now c.args.bytes.now _ _ c.in_ok-place.ensures c.file_len-count.ensures c.requires c.in_ok-extend_leaf.ensures.ok
    (one_more _ _ _ _ c.push_reserved.ensures.items c.reserve.ensures.items)

pub push_reserved-requires : goal.push_reserved-requires
push_reserved-requires c = omega (arith, c.in_ok-reserve.ensures.ok)

pub invariant_of-self-2 : goal.invariant_of-self-2
invariant_of-self-2 c = record {
  sound = c.in_ok-extend_leaf.ensures.sound;
  plain = subst (λ (w : WorldState). HasPlainTexts w.manager) (sym c.in_ok-extend_leaf.ensures.ok) c.args.self.now.plain;
  states = subst (λ (w : WorldState). AreStates w.manager.states) (sym c.in_ok-extend_leaf.ensures.ok) c.args.self.now.states;
}

pub invariant_of-self-in-Break-branch-3 : goal.invariant_of-self-in-Break-branch-3
invariant_of-self-in-Break-branch-3 c = record {
  sound = subst (λ (w : WorldState). IsSound w.leaves) (sym c.in_err-extend_leaf.ensures.err) c.args.self.now.sound;
  plain = subst (λ (w : WorldState). HasPlainTexts w.manager) (sym c.in_err-extend_leaf.ensures.err) c.args.self.now.plain;
  states = subst (λ (w : WorldState). AreStates w.manager.states) (sym c.in_err-extend_leaf.ensures.err) c.args.self.now.states;
}

pub returns-in_err-extend_leaf-clause-err : goal.returns-in_err-extend_leaf-clause-err
returns-in_err-extend_leaf-clause-err c = kept _ _ _ _ _ c.in_err-extend_leaf.ensures.err c.reserve.ensures.items
