use Rattle.std.proofs.Common.{arith}
use Rattle.node_text.proofs.fields.mode_at.Goals as goal

pub overflow_mul-result : goal.overflow_mul-result
overflow_mul-result c = omega (arith, c.in_ok-first.ensures.low)

pub overflow_mul-result-2 : goal.overflow_mul-result-2
overflow_mul-result-2 c = omega (arith, c.in_ok-second.ensures.low)

pub overflow_mul-result-3 : goal.overflow_mul-result-3
overflow_mul-result-3 c = omega (arith, c.in_ok-third.ensures.low)

pub overflow_add-result : goal.overflow_add-result
overflow_add-result c = omega (arith, c.in_ok-first.ensures.low, c.in_ok-second.ensures.low)

pub overflow_add-result-2 : goal.overflow_add-result-2
overflow_add-result-2 c = omega (arith, c.in_ok-first.ensures.low, c.in_ok-second.ensures.low, c.in_ok-third.ensures.low)

pub overflow_add-result-3 : goal.overflow_add-result-3
overflow_add-result-3 c = omega (arith, c.in_ok-first.ensures.low, c.in_ok-second.ensures.low, c.in_ok-third.ensures.low, c.in_ok-fourth.ensures.low)

pub returns-clause-low : goal.returns-clause-low
returns-clause-low c = omega (arith, c.in_ok-first.ensures.low, c.in_ok-second.ensures.low, c.in_ok-third.ensures.low, c.in_ok-fourth.ensures.low)
