use Rattle.std.proofs.Common.{rules}
use Rattle.host_memory.proofs.calls.load_of.Goals as goal

pub returns-clause-does : goal.returns-clause-does
returns-clause-does c = search rules
