use Rattle.std.proofs.Common.{rules}
use Rattle.owed_plan.proofs.known.Inputs.is_live_socket.Goals as goal

pub returns-else-is_active : goal.returns-else-is_active
returns-else-is_active c = search rules
