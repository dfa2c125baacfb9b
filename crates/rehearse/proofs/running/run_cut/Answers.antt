use Rattle.std.proofs.Common.{◌+◌, ◌∙◌, arith}
use Rattle.host_trait.specs.Host.{Leads}
use Rattle.rehearse.specs.Ends.{HasEnded}
use Rattle.rehearse.proofs.RunLemmas.{if_ok_as, led_between, way_between}
use Rattle.rehearse.proofs.running.run_cut.Goals as goal

pub returns-clause-ended : goal.returns-clause-ended
returns-clause-ended g c =
    let command = c.args.command.now in
    if_ok_as (λ how. Leads (g.H.Tree.host c.arm.new.self) (g.H.Tree.host c.attempt-ending.new.host) (HasEnded command how)) (λ how. Leads (g.H.Tree.host c.args.host.now) (g.H.Tree.host c.revive.new.self) (HasEnded command how))
    (λ how led. led_between (HasEnded command how) c.arm.ensures.moments led c.revive.ensures.moments) c.attempt-ending.result c.attempt-ending.ensures.ended

pub returns-clause-moments : goal.returns-clause-moments
returns-clause-moments g c = way_between c.args.command.now c.arm.ensures.moments c.attempt-ending.ensures.moments c.revive.ensures.moments

pub returns-clause-clock : goal.returns-clause-clock
returns-clause-clock g c =
    let last = c.attempt-ending.ensures.cause.same_last ∙ c.arm.ensures.last in
    let ends = (g.met.H.Tree.is_host c.attempt-ending.new.host).ends ((g.H.Tree.host c.args.host.now).clock + c.args.cut.now.after + 1) last in
    let revived = c.revive.ensures.clock in omega (arith, ends, revived)
