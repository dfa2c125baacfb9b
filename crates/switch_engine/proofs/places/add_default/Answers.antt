use Rattle.std.proofs.Common.{◌++◌}
use Rattle.std.proofs.lemmas.Result.{on_ok_weaker}
use Rattle.tree_put.proofs.AddedLemmas.{joined_two}
use Rattle.boot_entries.specs.BootPart.{boot_places}
use Rattle.generations.specs.GoalPart.{goal_places}
use Rattle.generations.specs.Move.{gens_moved, move_places}
use Rattle.switch_engine.proofs.places.add_default.Goals as goal

pub returns-clause-places : goal.returns-clause-places
returns-clause-places c =
    on_ok_weaker c.add_goal_place.result
    (λ added leaves is.
    let system = c.args.system.now in let to = c.args.to in
    joined_two c.args.places.now c.add_boot_default.new.places c.add_goal_place.new.places (move_places to system leaves ++ boot_places (gens_moved to system leaves).list) goal_places
    (c.in_ok-add_boot_default.ensures.places leaves is) added)
    c.add_goal_place.ensures.places

pub returns-clause-apart : goal.returns-clause-apart
returns-clause-apart c before = c.add_goal_place.ensures.apart (c.in_ok-add_boot_default.ensures.apart before)
