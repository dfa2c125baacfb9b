use Rattle.std.proofs.Common.{◌+◌, IfSome, Option, length, refl, subst}
use Rattle.rehearse.specs.declared.summary.Summary.{Summary}
use Rattle.rehearse.specs.Through.{IsRunThroughAll}
use Rattle.rehearse.proofs.RunLemmas.{through_from, through_last, way_after, way_on}
use Rattle.rehearse.proofs.running.through_all.Goals as goal

pub returns-in_err-summary-clause-moments : goal.returns-in_err-summary-clause-moments
returns-in_err-summary-clause-moments g c = way_after c.args.command.now c.revive.ensures.moments c.run_troubles.ensures.moments

pub returns-in-Some-clause-through : goal.returns-in-Some-clause-through
returns-in-Some-clause-through g c =
    let command = c.args.command.now in let troubles = c.args.troubles.now in
    through_from command troubles c.in-Some.summary c.revive.ensures.moments c.revive.ensures.clock c.revive.ensures.faults
    (subst (λ (o : Option Summary). IfSome o (IsRunThroughAll command (g.H.Tree.host c.revive.new.self) (g.H.Tree.host c.run_troubles.new.host) troubles)) c.in-Some.is c.in_ok-summary.ensures.some)

pub returns-in-Some-clause-moments : goal.returns-in-Some-clause-moments
returns-in-Some-clause-moments g c = way_after c.args.command.now c.revive.ensures.moments c.run_troubles.ensures.moments

pub returns-in-Ok-clause-through : goal.returns-in-Ok-clause-through
returns-in-Ok-clause-through g c =
    let command = c.args.command.now in let troubles = c.args.troubles.now in
    through_from command troubles (record { runs = length troubles + 1; end = c.in-Ok.end }) c.revive.ensures.moments c.revive.ensures.clock c.revive.ensures.faults
    (through_last command c.requires.repeatable c.in-Ok.end (length troubles) c.run_troubles.ensures.moments (c.in_ok-summary.ensures.still c.in_default.is) c.in-Ok.ensures.ended c.attempt.ensures.cause.later
    troubles refl (c.in_ok-summary.ensures.none c.in_default.is))

pub returns-in-Ok-clause-moments : goal.returns-in-Ok-clause-moments
returns-in-Ok-clause-moments g c = let command = c.args.command.now in way_on command (way_after command c.revive.ensures.moments c.run_troubles.ensures.moments) c.attempt.ensures.moments

pub returns-in-Err-clause-moments : goal.returns-in-Err-clause-moments
returns-in-Err-clause-moments g c = let command = c.args.command.now in way_on command (way_after command c.revive.ensures.moments c.run_troubles.ensures.moments) c.attempt.ensures.moments
