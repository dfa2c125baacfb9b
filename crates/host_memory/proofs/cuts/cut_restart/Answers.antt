use Rattle.std.proofs.Common.{rules}
use Rattle.host_memory.proofs.Cutting.{cut_before, first_of}
use Rattle.host_memory.proofs.cuts.cut_restart.Goals as goal
use Rattle.host_trait.specs.Change.{Perform}
use Rattle.host_trait.specs.declared.entry.Act.TheVariants.{Restart}

pub returns-in-0-clause-ok : goal.returns-in-0-clause-ok
returns-in-0-clause-ok c = cut_before _ (Perform Restart c.args.unit.now) _ (first_of _ _ _ c.in-0.is)

pub returns-in-1-clause-ok : goal.returns-in-1-clause-ok
returns-in-1-clause-ok c = search rules
