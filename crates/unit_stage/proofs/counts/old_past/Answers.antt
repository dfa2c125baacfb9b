use Rattle.std.proofs.Common.{List, ap, length, ◌∙◌}
use Rattle.leaf_limits.specs.Counts.{past, units_max}
use Rattle.switch_names.specs.Names.{Name}
use Rattle.unit_stage.proofs.CountLemmas.{counted_old}
use Rattle.unit_stage.proofs.counts.old_past.Goals as goal

pub returns : goal.returns
returns c leaves system are =
    c.past.ensures ∙ ap (λ (names : List Name). past units_max (length names)) c.as_slice.ensures
    ∙ counted_old leaves system c.args.old.now _ are c.names.ensures
