use Rattle.unit_defs.proofs.PathLemmas.{places_named}
use Rattle.unit_defs.proofs.laws.places_are_named.Goals as goal

pub returns : goal.returns
returns c = places_named
