use Rattle.std.proofs.Common.{rules}
use Rattle.switch_names.proofs.unit_name.read_kind.Goals as goal

pub returns-in_default : goal.returns-in_default
returns-in_default c = search rules steps 500000
