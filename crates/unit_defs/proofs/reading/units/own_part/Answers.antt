use Rattle.std.proofs.Common.{rules}
use Rattle.unit_defs.proofs.reading.units.own_part.Goals as goal

pub returns-in-Some : goal.returns-in-Some
returns-in-Some c = search rules steps 300000

pub returns : goal.returns
returns c = search rules steps 300000
