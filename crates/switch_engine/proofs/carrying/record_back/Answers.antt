use Rattle.std.proofs.Common.{◌≡◌, None, Option, OnOk, Some, refl, sym, ap, subst, ◌∙◌}
use Rattle.generations.specs.declared.moving.Move.{Move}
use Rattle.host_trait.specs.Host.{Leads, Passes, Told}
use Rattle.host_trait.specs.World.{seen}
use Rattle.host_trait.proofs.Moments.{started}
use Rattle.switch_engine.specs.Carried.{CanRecordBy, moves_of}
use Rattle.switch_engine.specs.Moments.{IsRecordStep, record_world}
use Rattle.switch_names.proofs.Outcomes.{none_left}
use Rattle.switch_engine.proofs.MovedQuiet.{led_nowhere}
use Rattle.switch_engine.proofs.carrying.record_back.Goals as goal

pub returns-in_default-clause-ok : goal.returns-in_default-clause-ok
returns-in_default-clause-ok g c =
    subst (λ (moves : Option Move). Leads (g.T.Tree.host c.args.host.now) (g.T.Tree.host c.args.host.now) (λ w r. seen r ≡ record_world moves w))
    (ap moves_of (none_left c.args.plan.now.boot_default c.in_default.not-Some)) (record { to = λ w is. (w, is, refl) })

pub returns-in_default-clause-moments : goal.returns-in_default-clause-moments
returns-in_default-clause-moments g c =
    subst (λ (moves : Option Move). Passes (g.T.Tree.host c.args.host.now) (g.T.Tree.host c.args.host.now) (IsRecordStep moves))
    (ap moves_of (none_left c.args.plan.now.boot_default c.in_default.not-Some)) (started (IsRecordStep None) (λ w is. refl))

pub record_kept-requires : goal.record_kept-requires
record_kept-requires g c =
    subst (λ (moves : Option Move). Told (g.T.Tree.host c.args.host.now) (CanRecordBy moves)) (ap moves_of c.in-Some.is ∙ ap Some c.in-Point.is) c.requires

pub returns-in-Set-clause-ok : goal.returns-in-Set-clause-ok
returns-in-Set-clause-ok g c =
    subst (λ (moves : Option Move). Leads (g.T.Tree.host c.args.host.now) (g.T.Tree.host c.args.host.now) (λ w r. seen r ≡ record_world moves w))
    (sym (ap moves_of c.in-Some.is ∙ ap Some c.in-Set.is)) (record { to = λ w is. (w, is, refl) })

pub returns-in-Set-clause-moments : goal.returns-in-Set-clause-moments
returns-in-Set-clause-moments g c =
    subst (λ (moves : Option Move). Passes (g.T.Tree.host c.args.host.now) (g.T.Tree.host c.args.host.now) (IsRecordStep moves))
    (sym (ap moves_of c.in-Some.is ∙ ap Some c.in-Set.is)) (started (IsRecordStep None) (λ w is. refl))

pub returns-in-Point-clause-ok : goal.returns-in-Point-clause-ok
returns-in-Point-clause-ok g c =
    subst (λ (moves : Option Move). OnOk c.record_kept.result (Leads (g.T.Tree.host c.args.host.now) (g.T.Tree.host c.record_kept.new.host) (λ w r. seen r ≡ record_world moves w)))
    (sym (ap moves_of c.in-Some.is ∙ ap Some c.in-Point.is)) c.record_kept.ensures.ok

pub returns-in-Point-clause-moments : goal.returns-in-Point-clause-moments
returns-in-Point-clause-moments g c =
    subst (λ (moves : Option Move). Passes (g.T.Tree.host c.args.host.now) (g.T.Tree.host c.record_kept.new.host) (IsRecordStep moves))
    (sym (ap moves_of c.in-Some.is ∙ ap Some c.in-Point.is)) c.record_kept.ensures.moments

pub returns-in_default-clause-written : goal.returns-in_default-clause-written
returns-in_default-clause-written g c = led_nowhere

pub returns-in-Set-clause-written : goal.returns-in-Set-clause-written
returns-in-Set-clause-written g c = led_nowhere
