use Rattle.std.proofs.Common.{rules}
use Rattle.switch_run.proofs.status.fault_status.Goals as goal

pub returns-in-Sink : goal.returns-in-Sink
returns-in-Sink c = search rules
