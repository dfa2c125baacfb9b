use Rattle.std.proofs.Common.{rules}
use Rattle.host_memory.proofs.cuts.ArmedCut.is_due.Goals as goal

pub returns : goal.returns
returns c = search rules
