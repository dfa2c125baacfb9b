use Rattle.std.proofs.Common.{arith, rules}
use Rattle.node_text.proofs.Nodes.{link_is_exact, left_within}
use Rattle.node_text.proofs.reading.read_link.Goals as goal

pub overflow_sub-result : goal.overflow_sub-result
overflow_sub-result c = omega (arith, c.requires, left_within 76 c.args.fields.now c.in-Err.left (link_is_exact.stuck c.args.fields.now c.in-Err.left c.in-Err.ensures))

pub returns-in_default : goal.returns-in_default
returns-in_default c = search rules steps 500000
