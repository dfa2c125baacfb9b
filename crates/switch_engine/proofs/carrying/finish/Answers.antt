use Rattle.std.proofs.Common.{◌≡◌, sym, subst, ◌∙◌}
use Rattle.host_trait.specs.World.{WorldState}
use Rattle.host_trait.proofs.Moments.{goes_on_same, leads_then}
use Rattle.switch_engine.specs.Carried.{cleared_by, moves_of}
use Rattle.switch_engine.specs.Moments.{IsClearStep}
use Rattle.tree_put.specs.Written.{WritesOnly}
use Rattle.switch_engine.specs.Quiet.{is_not_quiet}
use Rattle.switch_engine.proofs.carrying.finish.Goals as goal

pub returns-in_err-sync-clause-moments : goal.returns-in_err-sync-clause-moments
returns-in_err-sync-clause-moments g c =
    goes_on_same c.clear_back.ensures.moments c.clear_back.ensures.moments.tells c.sync.ensures.reads.moments (IsClearStep (moves_of c.args.plan.now.boot_default))
    (λ w m is moment. moment) (λ w v is moment. moment)

pub returns-clause-ok : goal.returns-clause-ok
returns-clause-ok g c =
    leads_then c.in_ok-clear_back.ensures.ok c.sync.ensures.reads.moments.tells (λ w v. v ≡ cleared_by (moves_of c.args.plan.now.boot_default) w)
    (λ w v u is is_v cleared same. same ∙ cleared)

pub returns-clause-moments : goal.returns-clause-moments
returns-clause-moments g c =
    goes_on_same c.clear_back.ensures.moments c.clear_back.ensures.moments.tells c.sync.ensures.reads.moments (IsClearStep (moves_of c.args.plan.now.boot_default))
    (λ w m is moment. moment) (λ w v is moment. moment)

pub returns-clause-written : goal.returns-clause-written
returns-clause-written g c =
    leads_then c.in_ok-clear_back.ensures.written c.sync.ensures.reads.moments.tells (WritesOnly is_not_quiet)
    (λ w v u is is_v cleared same. subst (λ (x : WorldState). WritesOnly is_not_quiet w x) (sym same) cleared)
