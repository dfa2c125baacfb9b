use Rattle.std.proofs.Common.{◌||◌, ◌&&◌, ap, filter, ◌∙◌}
use Rattle.std.proofs.Math.Bool.{or_assoc}
use Rattle.std.proofs.lemmas.Result.{on_ok_weaker}
use Rattle.host_trait.specs.Manager.{is_active}
use Rattle.owed_plan.specs.Decisions.{is_stopped, situation_of}
use Rattle.switch_names.specs.Names.{has, is_name}
use Rattle.owed_plan.proofs.collecting.add_stops.Goals as goal

pub returns : goal.returns
returns c =
    let old = c.args.set.now in let decided = c.args.decided.now in
    on_ok_weaker c.add_active.result
    (λ added unit.
    let own = c.in_ok-add_if.ensures unit ∙ ap (λ is. has old unit || (is && is_name unit decided.unit)) c.is_stopped.ensures in
    added unit ∙ (λ i. own i || has (filter (λ socket. is_active ((situation_of c.args.known).states socket)) (c.as_slice.ensures i)) unit)
    ∙ or_assoc (has old unit) (is_stopped decided.decision && is_name unit decided.unit) (has (filter (λ socket. is_active ((situation_of c.args.known).states socket)) decided.live) unit))
    c.add_active.ensures
