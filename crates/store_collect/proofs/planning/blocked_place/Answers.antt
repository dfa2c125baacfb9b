use Rattle.host_trait.proofs.Readings.{nothing_read, no_device}
use Rattle.store_collect.proofs.planning.blocked_place.Goals as goal

pub returns-in_err-places-clause-reads : goal.returns-in_err-places-clause-reads
returns-in_err-places-clause-reads g c = nothing_read _ (no_device _ c.from_residual.ensures.1)

pub first_in_the_way-requires-clause-found : goal.first_in_the_way-requires-clause-found
first_in_the_way-requires-clause-found g c = record { has = λ w is. c.nothing_found-findings.ensures w.leaves }
