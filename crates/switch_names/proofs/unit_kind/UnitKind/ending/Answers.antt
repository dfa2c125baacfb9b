use Rattle.std.proofs.Common.{rules}
use Rattle.switch_names.proofs.unit_kind.UnitKind.ending.Goals as goal

pub returns-in-Socket : goal.returns-in-Socket
returns-in-Socket c = search rules steps 500000
