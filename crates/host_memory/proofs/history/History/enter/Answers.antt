use Rattle.std.proofs.Common.{◌++◌, ◌∷◌, [], sym, subst, ◌∙◌}
use Rattle.host_memory.proofs.Histories.{one_more}
use Rattle.host_memory.proofs.history.History.enter.Goals as goal
use Rattle.host_memory.specs.declared.history.DoneCall.TheVariants.{Performed}
use Rattle.host_trait.specs.World.{IsSound, WorldState}

pub returns-clause-ok : goal.returns-clause-ok
returns-clause-ok c = record {
  world = c.in_ok-enter_in.ensures.ok;
  calls =
      one_more _ _ _ _ c.push_reserved.ensures.items c.reserve.ensures.items
      ∙ (λ i. c.args.self.now.calls.items ++ Performed (c.in_ok-name.ensures i) (c.state_in-was.ensures i) ∷ []);
}

pub invariant_of-self-2 : goal.invariant_of-self-2
invariant_of-self-2 c = record {
  sound = subst (λ (w : WorldState). IsSound w.leaves) (sym c.in_ok-enter_in.ensures.ok) c.args.self.now.sound;
  plain = c.enter_in.ensures.plain;
  states = c.enter_in.ensures.are_states;
}

pub invariant_of-self-in-Break-branch-3 : goal.invariant_of-self-in-Break-branch-3
invariant_of-self-in-Break-branch-3 c = record {
  sound = subst (λ (w : WorldState). IsSound w.leaves) (sym c.in_err-enter_in.ensures.err) c.args.self.now.sound;
  plain = c.enter_in.ensures.plain;
  states = c.enter_in.ensures.are_states;
}
