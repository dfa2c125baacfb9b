use Rattle.std.proofs.Common.{rules}
use Rattle.switch_names.proofs.path.fault_after.Goals as goal

pub returns-in-Some : goal.returns-in-Some
returns-in-Some c = search rules steps 500000

pub returns-then-has_dots : goal.returns-then-has_dots
returns-then-has_dots c = search rules steps 500000

pub returns-else-has_dots : goal.returns-else-has_dots
returns-else-has_dots c = search rules steps 500000
