use Rattle.std.proofs.Common.{rules}
use Rattle.unit_defs.proofs.reading.units.add_both.Goals as goal

pub returns : goal.returns
returns c = search rules steps 300000
