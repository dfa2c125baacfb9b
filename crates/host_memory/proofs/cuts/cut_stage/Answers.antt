use Rattle.std.proofs.Common.{rules}
use Rattle.host_memory.proofs.Cutting.{cut_before, cut_within, first_of}
use Rattle.host_memory.proofs.cuts.cut_stage.Goals as goal
use Rattle.host_trait.specs.Change.{Stage}

pub returns-in-0-clause-ok : goal.returns-in-0-clause-ok
returns-in-0-clause-ok c = cut_before _ (Stage c.args.leaf.now) _ (first_of _ _ _ c.in-0.is)

pub returns-in-1-clause-ok : goal.returns-in-1-clause-ok
returns-in-1-clause-ok c = cut_within _ _ _ c.args.leaf.now _ _ _ c.stage.ensures.ok (search rules)
