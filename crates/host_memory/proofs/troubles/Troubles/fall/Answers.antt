use Rattle.std.proofs.Common.{rules}
use Rattle.host_memory.proofs.troubles.Troubles.fall.Goals as goal

pub returns-clause-new : goal.returns-clause-new
returns-clause-new c = search rules
