use Rattle.std.proofs.Common.{rules}
use Rattle.switch_names.proofs.unit_name.is_no_unit_byte.Goals as goal

pub returns : goal.returns
returns c = search rules steps 500000
