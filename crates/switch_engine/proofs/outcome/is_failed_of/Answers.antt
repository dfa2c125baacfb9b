use Rattle.std.proofs.Common.{rules}
use Rattle.switch_engine.proofs.outcome.is_failed_of.Goals as goal

pub returns-then-is_failed : goal.returns-then-is_failed
returns-then-is_failed c = search rules
