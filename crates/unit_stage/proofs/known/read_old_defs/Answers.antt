use Rattle.std.proofs.Common.{ap}
use Rattle.std.specs.Option.{option_copied}
use Rattle.host_trait.proofs.Readings.{nothing_read_ok}
use Rattle.unit_defs.proofs.NotingLemmas.{none_noted}
use Rattle.unit_stage.specs.System.{takes_old}
use Rattle.unit_stage.proofs.known.read_old_defs.Goals as goal

pub returns-in-None-clause-reads : goal.returns-in-None-clause-reads
returns-in-None-clause-reads g c = nothing_read_ok _

pub returns-in-None-clause-short : goal.returns-in-None-clause-short
returns-in-None-clause-short g c = record { has = λ w is. none_noted w.leaves (takes_old w.leaves (option_copied c.args.system)) c.args.long.now (λ q. ap (λ system. takes_old w.leaves (option_copied system) q) c.in-None.is) }
