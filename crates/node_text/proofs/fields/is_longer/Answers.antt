use Rattle.std.proofs.Common.{rules}
use Rattle.node_text.proofs.fields.is_longer.Goals as goal

pub returns-then-number-gt0 : goal.returns-then-number-gt0
returns-then-number-gt0 c = search rules steps 500000
