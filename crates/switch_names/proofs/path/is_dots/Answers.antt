use Rattle.std.proofs.Common.{rules}
use Rattle.switch_names.proofs.path.is_dots.Goals as goal

pub returns-then-first-eq46 : goal.returns-then-first-eq46
returns-then-first-eq46 c = search rules steps 500000
