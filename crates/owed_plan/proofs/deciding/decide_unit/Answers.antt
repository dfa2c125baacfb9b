use Rattle.std.proofs.Common.{◌==◌, List, length, ap, ◌∙◌}
use Rattle.switch_names.specs.Names.{Name}
use Rattle.owed_plan.specs.Decisions.{situation_of}
use Rattle.owed_plan.proofs.DecisionLemmas.{unit_decided}
use Rattle.owed_plan.proofs.deciding.decide_unit.Goals as goal

pub returns : goal.returns
returns c =
    unit_decided (situation_of c.args.known) c.args.unit.now c.in_ok-copy.field-0 c.facts-facts.result c.in_ok-live.live c.is_empty.result c.decide_by-decision.result c.is_left.result
    c.in_ok-copy.ensures c.facts-facts.ensures c.in_ok-live.ensures (c.is_empty.ensures ∙ ap (λ (names : List Name). length names == 0) c.as_slice.ensures) c.decide_by-decision.ensures c.is_left.ensures
