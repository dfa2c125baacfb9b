use Rattle.host_memory.proofs.cuts.cut_at_once.Goals as goal
use Rattle.host_memory.proofs.Cutting.{cut_before, first_of}
use Rattle.host_memory.specs.ChangingCall.{change_of}

pub returns-in-0-clause-ok : goal.returns-in-0-clause-ok
returns-in-0-clause-ok c = cut_before _ (change_of c.args.call) _ (first_of _ _ _ c.in-0.is)
