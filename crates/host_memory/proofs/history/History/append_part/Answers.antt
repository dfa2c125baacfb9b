use Rattle.std.proofs.Common.{sym, subst, arith}
use Rattle.host_memory.proofs.Histories.{one_more}
use Rattle.host_memory.proofs.Undoing.{appended_part}
use Rattle.host_memory.proofs.history.History.append_part.Goals as goal
use Rattle.host_trait.specs.World.{WorldState}
use Rattle.host_trait.specs.Manager.{HasPlainTexts}
use Rattle.host_trait.specs.States.{AreStates}

pub returns-in-Ok-clause-ok : goal.returns-in-Ok-clause-ok
returns-in-Ok-clause-ok c =
    appended_part _ _ c.args.at.now _ _ _ _ c.args.part.now c.in_ok-place.ensures c.in_ok-key.ensures c.in-Ok.ensures.was c.in-Ok.ensures.ok c.in_ok-longer.ensures
    (one_more _ _ _ _ c.push_reserved.ensures.items c.reserve.ensures.items)

pub push_reserved-requires : goal.push_reserved-requires
push_reserved-requires c = omega (arith, c.in_ok-reserve.ensures.ok)

pub invariant_of-self-in-Ok : goal.invariant_of-self-in-Ok
invariant_of-self-in-Ok c = record {
  sound = c.set_leaf.ensures.sound;
  plain = subst (λ (w : WorldState). HasPlainTexts w.manager) (sym c.in-Ok.ensures.ok) c.args.self.now.plain;
  states = subst (λ (w : WorldState). AreStates w.manager.states) (sym c.in-Ok.ensures.ok) c.args.self.now.states;
}

pub returns-in-Err-Memory-clause-err : goal.returns-in-Err-Memory-clause-err
returns-in-Err-Memory-clause-err c = (c.in-Err-Memory.ensures.err, c.reserve.ensures.items)
