use Rattle.host_trait.specs.declared.tree.HostFault.TheVariants.{Device}
use Rattle.host_trait.proofs.Readings.{nothing_read_of}
use Rattle.switch_parts.specs.declared.plan_fault.PlanFault.TheVariants.{Host}
use Rattle.switch_parts.proofs.Faults.{no_err}
use Rattle.unit_stage.proofs.LengthLemmas.{none_long}
use Rattle.unit_stage.proofs.lengths.check_lengths.Goals as goal

pub returns-then-not-long-clause-not_refused : goal.returns-then-not-long-clause-not_refused
returns-then-not-long-clause-not_refused g c = record { has = λ w is noted. none_long w.leaves c.args.system.now (noted c.if-not-long.true).1 }

pub returns-then-not-long-clause-reads : goal.returns-then-not-long-clause-reads
returns-then-not-long-clause-reads g c = nothing_read_of _ (no_err tt (Host Device))
