use Rattle.std.proofs.Common.{rules}
use Rattle.unit_compare.proofs.keys.compare_values.Goals as goal

pub returns-then-eq : goal.returns-then-eq
returns-then-eq c = search rules steps 300000

pub returns-else-is_reload_key : goal.returns-else-is_reload_key
returns-else-is_reload_key c = search rules
