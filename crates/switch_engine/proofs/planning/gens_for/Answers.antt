use Rattle.std.proofs.Common.{None, Option, Some, IfSome, is_some, ap, subst}
use Rattle.generations.specs.declared.gens.Gens.{Gens}
use Rattle.generations.specs.Gens.{IsGensOf}
use Rattle.host_trait.proofs.Moments.{told_as}
use Rattle.host_trait.proofs.Readings.{nothing_read_ok}
use Rattle.switch_engine.specs.Plan.{AreGensBy}
use Rattle.switch_engine.proofs.planning.gens_for.Goals as goal

pub returns-in_default-clause-reads : goal.returns-in_default-clause-reads
returns-in_default-clause-reads g c = nothing_read_ok None

pub returns-in-Some-known-clause-gens : goal.returns-in-Some-known-clause-gens
returns-in-Some-known-clause-gens g c =
    told_as c.requires (λ w. AreGensBy c.args.row.now.moves w.leaves (Some c.in-Some-known.gens))
    (λ w is known. (ap is_some c.in-Some.is, subst (λ (o : Option Gens). IfSome o (IsGensOf w.leaves)) c.in-Some-known.is known))

pub returns-in-Some-known-clause-reads : goal.returns-in-Some-known-clause-reads
returns-in-Some-known-clause-reads g c = nothing_read_ok (Some c.in-Some-known.gens)

pub returns-in_ok-gens-in-None-clause-gens : goal.returns-in_ok-gens-in-None-clause-gens
returns-in_ok-gens-in-None-clause-gens g c =
    told_as c.in_ok-gens-in-None.ensures.gens (λ w. AreGensBy c.args.row.now.moves w.leaves (Some c.in_ok-gens-in-None.gens)) (λ w is gens. (ap is_some c.in-Some.is, gens))
