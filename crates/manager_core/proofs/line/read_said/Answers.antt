use Rattle.std.proofs.Common.{rules}
use Rattle.manager_core.proofs.line.read_said.Goals as goal

pub returns-in-Failed : goal.returns-in-Failed
returns-in-Failed c = search rules steps 300000
