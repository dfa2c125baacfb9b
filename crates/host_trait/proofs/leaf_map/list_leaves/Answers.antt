use Rattle.std.proofs.Common.{ap, sym, ◌∙◌, arith}
use Rattle.std.proofs.lemmas.Grind.{common_steps}
use Rattle.std.specs.List.{filter}
use Rattle.host_trait.proofs.Places.{filtered_all, ordered_keys}
use Rattle.host_trait.specs.World.{is_listed}
use Rattle.host_trait.proofs.leaf_map.list_leaves.Goals as goal

-- the map's keys are in order
pub returns : goal.returns
returns c =
    filtered_all _ _ _ _ c.in-None.ensures.steps.0 c.loop-path.invariant
    ∙ ap (filter (is_listed c.args.under.now)) (sym (ordered_keys c.args.leaves.now.entries c.keys-path-items.ensures.ordered))

pub loop-path-preserved-in_ok-push : goal.loop-path-preserved-in_ok-push
loop-path-preserved-in_ok-push c = grind (arith, common_steps)
