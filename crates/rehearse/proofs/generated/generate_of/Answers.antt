use Rattle.std.proofs.Common.{◌≡◌, ◌+◌, ap, subst, ◌∙◌}
use Rattle.made_world.specs.Draws.{state_at}
use Rattle.made_world.specs.Machine.{IsMachine}
use Rattle.rehearse.specs.Generated.{IsSettled, drawn_cuts, in_use}
use Rattle.rehearse.proofs.generated.generate_of.Goals as goal

pub returns : goal.returns
returns c =
    let units = c.args.units in let entries = c.args.entries in let users = c.args.users in let settled = c.in_ok-settled.settled in
    let seed : c.new-draws.result.state ≡ c.args.number = ap (λ draws. draws.state) c.new-draws.ensures in
    let made = subst (λ number. IsMachine number units entries users c.in_ok-machine.machine) seed c.in_ok-machine.ensures.made in
    record {
      settled = settled;
      is_settled = subst (λ w. IsSettled w settled) (ap (λ parts. parts.0) c.into_parts-world.ensures ∙ made.world) c.in_ok-settled.ensures;
      world = c.in_ok-world.ensures ∙ ap (λ states. in_use states settled) (ap (λ parts. parts.1) c.into_parts-world.ensures ∙ made.states);
      system = c.in_ok-system.ensures;
      cuts = c.in_ok-cuts.ensures ∙ ap (λ state. drawn_cuts state 64) (c.in_ok-machine.ensures.draws ∙ ap (λ state. state_at state (units + entries + users)) seed);
    }
