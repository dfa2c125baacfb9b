use Rattle.std.proofs.Common.{rules}
use Rattle.host_memory.proofs.troubles.Troubles.admit.Goals as goal

pub returns-clause-answer : goal.returns-clause-answer
returns-clause-answer c = search rules
