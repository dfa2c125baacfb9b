use Rattle.std.proofs.Common.{codes}
use Rattle.generations.proofs.DigitLemmas.{if_ok_as}
use Rattle.generations.proofs.LinkNumbers.{bears_after}
use Rattle.generations.specs.LinkNumber.{Bears}
use Rattle.generations.specs.Places.{link_name, link_path}
use Rattle.generations.proofs.link_number.number_of_path.Goals as goal

pub returns-in-Some : goal.returns-in-Some
unfolding link_path
returns-in-Some c =
    if_ok_as c.number_of_name.result (Bears link_name c.in-Some.name.now) (Bears link_path c.args.path.now) c.number_of_name.ensures
    (λ number. bears_after (codes "nix/var/nix/profiles/") c.args.path.now c.in-Some.name.now number link_name c.in-Some.ensures)

pub returns-in-None : goal.returns-in-None
unfolding link_path
returns-in-None c = λ n is. c.in-None.ensures (link_name n)
