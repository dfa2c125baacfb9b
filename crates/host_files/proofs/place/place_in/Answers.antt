use Rattle.std.proofs.Common.{arith}
use Rattle.std.proofs.lemmas.Grind.{common_steps}
use Rattle.host_files.proofs.place.place_in.Goals as goal

pub returns : goal.returns
returns c = grind (arith, common_steps) steps 500000
