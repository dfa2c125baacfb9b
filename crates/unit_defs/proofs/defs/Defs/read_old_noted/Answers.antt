use Rattle.std.proofs.Common.{subst, sym}
use Rattle.host_trait.proofs.Moments.{told_as}
use Rattle.unit_defs.specs.Defs.{AreDefsOf}
use Rattle.unit_defs.proofs.AgreeLemmas.{are_defs}
use Rattle.host_trait.proofs.Readings.{read_ok, read_starved}
use Rattle.unit_defs.proofs.defs.Defs.read_old_noted.Goals as goal

pub returns-clause-defs : goal.returns-clause-defs
returns-clause-defs g c =
    told_as c.in_ok-old_units.ensures.units (λ w. AreDefsOf w.leaves c.args.system.now c.in_ok-from_units.field-0)
    (λ w is are. subst (AreDefsOf w.leaves c.args.system.now) (sym c.in_ok-from_units.ensures) (are_defs w.leaves c.args.system.now c.in_ok-old_units.old_units are))

pub returns-in_err-from_units-clause-reads : goal.returns-in_err-from_units-clause-reads
returns-in_err-from_units-clause-reads g c = read_starved c.read_units.ensures.reads _ c.from_residual-in_err-from_units.ensures.1

pub returns-clause-reads : goal.returns-clause-reads
returns-clause-reads g c = read_ok c.read_units.ensures.reads _
