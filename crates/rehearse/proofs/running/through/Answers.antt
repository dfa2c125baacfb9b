use Rattle.std.proofs.Common.{IfOk, subst, ◌∙◌}
use Rattle.rehearse.specs.Through.{IsRunThrough, IsRunThroughAll}
use Rattle.rehearse.specs.Troubles.{as_troubles}
use Rattle.rehearse.proofs.AttemptLemmas.{held_same}
use Rattle.rehearse.proofs.CutLemmas.{through_cuts}
use Rattle.rehearse.proofs.RunLemmas.{if_ok_as, through_from, way_after}
use Rattle.rehearse.proofs.running.through.Goals as goal

pub returns-in_err-troubles-clause-moments : goal.returns-in_err-troubles-clause-moments
returns-in_err-troubles-clause-moments g c = held_same c.args.command.now c.revive.ensures.moments

pub returns-clause-through : goal.returns-clause-through
returns-clause-through g c =
    let command = c.args.command.now in let cuts = c.args.cuts.now in let answer = c.through_all.result in
    let start = g.H.Tree.host c.args.host.now in let revived = g.H.Tree.host c.revive.new.self in let end = g.H.Tree.host c.through_all.new.host in
    if_ok_as (IsRunThroughAll command revived end (as_troubles cuts)) (IsRunThrough command start end cuts)
    (λ summary is. through_cuts command cuts summary (through_from command (as_troubles cuts) summary c.revive.ensures.moments c.revive.ensures.clock c.revive.ensures.faults is)) answer
    (subst (λ troubles. IfOk answer (IsRunThroughAll command revived end troubles)) (c.as_slice.ensures ∙ c.in_ok-troubles.ensures) c.through_all.ensures.through)

pub returns-clause-moments : goal.returns-clause-moments
returns-clause-moments g c = way_after c.args.command.now c.revive.ensures.moments c.through_all.ensures.moments
