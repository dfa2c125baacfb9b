use Rattle.std.proofs.Common.{sym, subst}
use Rattle.generations.specs.LinkNumber.{Bears}
use Rattle.generations.specs.Places.{link_name}
use Rattle.generations.proofs.LinkNumbers.{bears_above}
use Rattle.generations.proofs.link_number.number_of_name.Goals as goal

pub returns : goal.returns
returns c = subst (Bears link_name c.args.name.now) (sym c.above_zero.ensures) (bears_above c.args.name.now c.in_ok-number.number c.in_ok-number.ensures)
