use Rattle.start_order.proofs.GraphLemmas.{found_place, never_missing}
use Rattle.start_order.proofs.graph.place_in.Goals as goal

pub returns-in-Ok : goal.returns-in-Ok
returns-in-Ok c = found_place c.args.units.now c.args.unit.now c.in-Ok.at c.in-Ok.ensures.bound c.in-Ok.ensures.position

pub returns-in-Err : goal.returns-in-Err
returns-in-Err c = absurd (never_missing c.args.units.now c.args.unit.now c.in-Err.at c.requires.units c.requires.there c.in-Err.ensures.bound c.in-Err.ensures.position)
