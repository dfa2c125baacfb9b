use Rattle.host_trait.specs.Host.{Leads}
use Rattle.host_trait.proofs.Moments.{started}
use Rattle.rehearse.specs.Ends.{HasEnded, IsHeld}
use Rattle.rehearse.proofs.HeldLemmas.{held_begins}
use Rattle.rehearse.proofs.RunLemmas.{if_ok_as, led_between, way_between}
use Rattle.rehearse.proofs.running.run_fail.Goals as goal

pub returns-clause-ended : goal.returns-clause-ended
returns-clause-ended g c =
    let command = c.args.command.now in
    if_ok_as (λ how. Leads (g.H.Tree.host c.fail.new.self) (g.H.Tree.host c.attempt-ending.new.host) (HasEnded command how)) (λ how. Leads (g.H.Tree.host c.args.host.now) (g.H.Tree.host c.revive.new.self) (HasEnded command how))
    (λ how led. led_between (HasEnded command how) c.fail.ensures.moments led c.revive.ensures.moments) c.attempt-ending.result c.attempt-ending.ensures.ended

pub returns-clause-moments : goal.returns-clause-moments
returns-clause-moments g c = way_between c.args.command.now c.fail.ensures.moments c.attempt-ending.ensures.moments c.revive.ensures.moments

pub returns-in_err-push-clause-moments : goal.returns-in_err-push-clause-moments
returns-in_err-push-clause-moments g c = started (IsHeld c.args.command.now) (λ w is. held_begins c.args.command.now w)
