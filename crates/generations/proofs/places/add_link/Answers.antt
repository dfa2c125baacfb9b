use Rattle.std.proofs.Common.{rules}
use Rattle.generations.proofs.places.add_link.Goals as goal

pub returns-in-Some : goal.returns-in-Some
returns-in-Some c = search rules steps 300000
