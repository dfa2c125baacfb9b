use Rattle.std.proofs.Common.{arith, rules}
use Rattle.node_text.proofs.Nodes.{file_is_exact, left_within}
use Rattle.node_text.proofs.reading.read_file.Goals as goal

pub overflow_sub-result : goal.overflow_sub-result
overflow_sub-result c = omega (arith, c.requires, left_within 70 c.args.fields.now c.in-Err.left (file_is_exact.stuck c.args.fields.now c.in-Err.left c.in-Err.ensures.read))

pub returns-in-Err : goal.returns-in-Err
returns-in-Err c = search rules steps 500000
