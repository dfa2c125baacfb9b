use Rattle.std.proofs.Common.{◌≡◌, None, Option, Some, OnOk, refl, sym, ap, subst}
use Rattle.std.proofs.lemmas.Result.{on_ok_weaker}
use Rattle.boot_entries.specs.BootDefault.{IsDefaultFor, owns_default}
use Rattle.boot_entries.specs.declared.boot_default.BootDefaultPlan.{BootDefaultPlan}
use Rattle.host_trait.specs.Host.{Leads, Passes, Told}
use Rattle.host_trait.specs.World.{seen}
use Rattle.host_trait.proofs.Moments.{leads_as, started}
use Rattle.switch_engine.specs.Carried.{CanMakeBy, moves_of}
use Rattle.switch_engine.specs.Moments.{IsDefaultStep, default_world}
use Rattle.generations.specs.declared.moving.Move.{Move}
use Rattle.switch_names.specs.Names.{Name}
use Rattle.tree_put.specs.Written.{WritesOnly}
use Rattle.tree_put.proofs.WrittenLemmas.{writes_wider}
use Rattle.switch_engine.specs.Quiet.{is_not_quiet}
use Rattle.switch_engine.proofs.MovedQuiet.{default_not_quiet, led_nowhere}
use Rattle.switch_engine.proofs.carrying.make_default.Goals as goal

pub make_boot_default-requires-clause-sound : goal.make_boot_default-requires-clause-sound
make_boot_default-requires-clause-sound g c =
    subst (λ (system : Name). IsDefaultFor system c.in-Some.boot_default) (sym c.to.ensures) (c.requires.sound.default c.in-Some.boot_default c.in-Some.is)

pub make_boot_default-requires-clause-can : goal.make_boot_default-requires-clause-can
make_boot_default-requires-clause-can g c =
    subst (λ (system : Name). Told (g.T.Tree.host c.args.host.now) (CanMakeBy system (Some c.in-Some.boot_default))) (sym c.to.ensures)
    (subst (λ (o : Option BootDefaultPlan). Told (g.T.Tree.host c.args.host.now) (CanMakeBy c.args.plan.now.row.system o)) c.in-Some.is c.requires.can)

pub returns-in-Some-clause-ok : goal.returns-in-Some-clause-ok
returns-in-Some-clause-ok g c =
    subst (λ (system : Name). OnOk c.make_boot_default.result (Leads (g.T.Tree.host c.args.host.now) (g.T.Tree.host c.make_boot_default.new.host) (λ w u. seen u ≡ default_world (moves_of c.args.plan.now.boot_default) system w))) c.to.ensures
    (subst (λ (moves : Option Move). OnOk c.make_boot_default.result (Leads (g.T.Tree.host c.args.host.now) (g.T.Tree.host c.make_boot_default.new.host) (λ w u. seen u ≡ default_world moves c.to.result.now w)))
    (sym (ap moves_of c.in-Some.is)) c.make_boot_default.ensures.ok)

pub returns-in-Some-clause-moments : goal.returns-in-Some-clause-moments
returns-in-Some-clause-moments g c =
    subst (λ (system : Name). Passes (g.T.Tree.host c.args.host.now) (g.T.Tree.host c.make_boot_default.new.host) (IsDefaultStep (moves_of c.args.plan.now.boot_default) system)) c.to.ensures
    (subst (λ (moves : Option Move). Passes (g.T.Tree.host c.args.host.now) (g.T.Tree.host c.make_boot_default.new.host) (IsDefaultStep moves c.to.result.now)) (sym (ap moves_of c.in-Some.is)) c.make_boot_default.ensures.moments)

pub returns-in-None-clause-ok : goal.returns-in-None-clause-ok
returns-in-None-clause-ok g c =
    subst (λ (moves : Option Move). Leads (g.T.Tree.host c.args.host.now) (g.T.Tree.host c.args.host.now) (λ w u. seen u ≡ default_world moves c.args.plan.now.row.system w))
    (sym (ap moves_of c.in-None.is)) (record { to = λ w is. (w, is, refl) })

pub returns-in-None-clause-moments : goal.returns-in-None-clause-moments
returns-in-None-clause-moments g c =
    subst (λ (moves : Option Move). Passes (g.T.Tree.host c.args.host.now) (g.T.Tree.host c.args.host.now) (IsDefaultStep moves c.args.plan.now.row.system))
    (sym (ap moves_of c.in-None.is)) (started (IsDefaultStep None c.args.plan.now.row.system) (λ w is. refl))

pub returns-in-Some-clause-written : goal.returns-in-Some-clause-written
returns-in-Some-clause-written g c =
    on_ok_weaker c.make_boot_default.result
    (λ led. leads_as led (WritesOnly is_not_quiet) (λ w v is made. writes_wider owns_default is_not_quiet default_not_quiet w v made))
    c.make_boot_default.ensures.written

pub returns-in-None-clause-written : goal.returns-in-None-clause-written
returns-in-None-clause-written g c = led_nowhere
