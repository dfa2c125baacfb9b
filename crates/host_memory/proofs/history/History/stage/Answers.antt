use Rattle.std.proofs.Common.{Err, sym, ap, subst, ◌∙◌, arith}
use Rattle.host_memory.proofs.Histories.{one_more}
use Rattle.host_memory.proofs.Undoing.{blocked_clear, staged}
use Rattle.host_memory.proofs.history.History.stage.Goals as goal
use Rattle.host_trait.specs.World.{WorldState, stage}
use Rattle.host_trait.specs.Manager.{HasPlainTexts}
use Rattle.host_trait.specs.States.{AreStates}

pub returns-in-Ok-clause-ok : goal.returns-in-Ok-clause-ok
returns-in-Ok-clause-ok c =
    staged _ _ _ _ _ _ c.in_ok-at.ensures c.in_ok-copy.ensures c.in-Ok.ensures.was c.in-Ok.ensures.ok
    (one_more _ _ _ _ c.push_reserved.ensures.items c.reserve.ensures.items)

pub push_reserved-requires : goal.push_reserved-requires
push_reserved-requires c = omega (arith, c.in_ok-reserve.ensures.ok)

pub invariant_of-self-in-Ok : goal.invariant_of-self-in-Ok
invariant_of-self-in-Ok c = record {
  sound = c.set_leaf.ensures.sound;
  plain = subst (λ (w : WorldState). HasPlainTexts w.manager) (sym c.in-Ok.ensures.ok) c.args.self.now.plain;
  states = subst (λ (w : WorldState). AreStates w.manager.states) (sym c.in-Ok.ensures.ok) c.args.self.now.states;
}

pub unreachable-requires : goal.unreachable-requires
unreachable-requires c =
    blocked_clear c.args.self.now.world.leaves stage _ c.requires c.in_ok-at.ensures
    (c.set_leaf.ensures.blocked (c.in-Err-Blocked.is ∙ ap (λ fault. Err fault) c.in-Err-Blocked.field-0-is))

pub returns-in-Err-Memory-clause-err : goal.returns-in-Err-Memory-clause-err
returns-in-Err-Memory-clause-err c = (c.in-Err-Memory.ensures.err, c.reserve.ensures.items)
