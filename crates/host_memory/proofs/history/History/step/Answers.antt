use Rattle.std.proofs.Common.{sym, subst}
use Rattle.host_memory.proofs.Histories.{one_more}
use Rattle.host_memory.proofs.history.History.step.Goals as goal
use Rattle.host_trait.specs.World.{IsSound, WorldState}

pub returns-clause-calls : goal.returns-clause-calls
returns-clause-calls c = one_more _ _ _ c.args.done_call c.push_reserved.ensures.items c.reserve.ensures.items

pub invariant_of-self-2 : goal.invariant_of-self-2
invariant_of-self-2 c = record {
  sound = subst (λ (w : WorldState). IsSound w.leaves) (sym c.in_ok-step_world.ensures.ok) c.args.self.now.sound;
  plain = c.step_world.ensures.plain;
  states = c.step_world.ensures.are_states;
}

pub invariant_of-self-in-Break-branch-2 : goal.invariant_of-self-in-Break-branch-2
invariant_of-self-in-Break-branch-2 c = record {
  sound = subst (λ (w : WorldState). IsSound w.leaves) (sym c.in_err-step_world.ensures.err) c.args.self.now.sound;
  plain = c.step_world.ensures.plain;
  states = c.step_world.ensures.are_states;
}
