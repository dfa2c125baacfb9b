use Rattle.std.proofs.Common.{◌≡◌, Option, refl, sym, ap, subst, ◌∙◌}
use Rattle.std.proofs.lemmas.Result.{on_ok_weaker}
use Rattle.generations.specs.declared.moving.Move.{Move}
use Rattle.generations.specs.Goal.{goal_place}
use Rattle.generations.specs.GoalPart.{owns_goal}
use Rattle.host_trait.specs.Host.{Leads}
use Rattle.host_trait.specs.World.{WorldState, without_leaf}
use Rattle.host_trait.proofs.Moments.{leads_then, passes_as, same_then, started}
use Rattle.switch_engine.specs.Carried.{cleared_by, moves_of}
use Rattle.switch_engine.specs.Moments.{IsClearStep}
use Rattle.switch_engine.proofs.CarryLemmas.{clear_begins}
use Rattle.switch_names.proofs.Outcomes.{none_left}
use Rattle.tree_put.specs.Written.{WritesOnly}
use Rattle.tree_put.proofs.WrittenLemmas.{writes_wider}
use Rattle.switch_engine.specs.Quiet.{is_not_quiet}
use Rattle.switch_engine.proofs.MovedQuiet.{goal_not_quiet, led_nowhere}
use Rattle.switch_engine.proofs.carrying.clear_back.Goals as goal

pub returns-in_default-clause-ok : goal.returns-in_default-clause-ok
returns-in_default-clause-ok g c =
    subst (λ (moves : Option Move). Leads (g.T.Tree.host c.args.host.now) (g.T.Tree.host c.args.host.now) (λ w v. v ≡ cleared_by moves w))
    (ap moves_of (none_left c.args.plan.now.boot_default c.in_default.not-Some)) (record { to = λ w is. (w, is, refl) })

pub returns-in_default-clause-moments : goal.returns-in_default-clause-moments
returns-in_default-clause-moments g c = started (IsClearStep (moves_of c.args.plan.now.boot_default)) (λ w is. clear_begins (moves_of c.args.plan.now.boot_default) w w refl)

pub returns-in_err-sync-clause-moments : goal.returns-in_err-sync-clause-moments
returns-in_err-sync-clause-moments g c =
    passes_as c.sync.ensures.reads.moments (IsClearStep (moves_of c.args.plan.now.boot_default)) (λ w m is same. clear_begins (moves_of c.args.plan.now.boot_default) w m same)

pub returns-clause-ok : goal.returns-clause-ok
returns-clause-ok g c =
    on_ok_weaker c.clear_goal.result
    (λ led. subst (λ (moves : Option Move). Leads (g.T.Tree.host c.args.host.now) (g.T.Tree.host c.clear_goal.new.host) (λ w v. v ≡ cleared_by moves w))
    (sym (ap moves_of c.in-Some.is))
    (leads_then c.sync.ensures.reads.moments.tells led (λ w v. v ≡ without_leaf goal_place w) (λ w v u is is_v same gone. gone ∙ ap (without_leaf goal_place) same)))
    c.clear_goal.ensures.ok

pub returns-clause-moments : goal.returns-clause-moments
returns-clause-moments g c =
    same_then c.sync.ensures.reads.moments c.clear_goal.ensures.moments (IsClearStep (moves_of c.args.plan.now.boot_default))
    (λ w is. clear_begins (moves_of c.args.plan.now.boot_default) w w refl)
    (λ w m is moment. subst (λ (moves : Option Move). IsClearStep moves w m) (sym (ap moves_of c.in-Some.is)) moment)

pub returns-in_default-clause-written : goal.returns-in_default-clause-written
returns-in_default-clause-written g c = led_nowhere

pub returns-clause-written : goal.returns-clause-written
returns-clause-written g c =
    on_ok_weaker c.clear_goal.result
    (λ led. leads_then c.sync.ensures.reads.moments.tells led (WritesOnly is_not_quiet)
    (λ w v u is is_v same gone. subst (λ (x : WorldState). WritesOnly is_not_quiet x u) same (writes_wider owns_goal is_not_quiet goal_not_quiet v u gone)))
    c.clear_goal.ensures.written
