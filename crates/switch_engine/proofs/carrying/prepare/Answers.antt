use Rattle.host_trait.proofs.Moments.{goes_on, leads_then, passes_as}
use Rattle.switch_engine.specs.Carried.{IsPrepared, IsPreparing, moves_of}
use Rattle.switch_engine.specs.Carried.IsPreparing.{Recording, Setting}
use Rattle.tree_put.specs.Written.{WritesOnly}
use Rattle.tree_put.proofs.WrittenLemmas.{writes_then}
use Rattle.switch_engine.specs.Quiet.{is_not_quiet}
use Rattle.switch_engine.proofs.carrying.prepare.Goals as goal

pub returns-in_err-record_back-clause-moments : goal.returns-in_err-record_back-clause-moments
returns-in_err-record_back-clause-moments g c = passes_as c.record_back.ensures.moments (IsPreparing (moves_of c.args.plan.now.boot_default) c.args.plan.now.row.system) (λ w m is step. Recording step)

pub returns-in_err-make_default-clause-moments : goal.returns-in_err-make_default-clause-moments
returns-in_err-make_default-clause-moments g c =
    goes_on c.record_back.ensures.moments c.in_ok-record_back.ensures.ok c.make_default.ensures.moments (IsPreparing (moves_of c.args.plan.now.boot_default) c.args.plan.now.row.system)
    (λ w m is step. Recording step) (λ w r m is is_r recorded step. Setting r recorded step)

pub returns-clause-ok : goal.returns-clause-ok
returns-clause-ok g c =
    leads_then c.in_ok-record_back.ensures.ok c.in_ok-make_default.ensures.ok (IsPrepared (moves_of c.args.plan.now.boot_default) c.args.plan.now.row.system)
    (λ w r u is is_r recorded set. record { recorded = r; is_recorded = recorded; is_set = set })

pub returns-clause-moments : goal.returns-clause-moments
returns-clause-moments g c =
    goes_on c.record_back.ensures.moments c.in_ok-record_back.ensures.ok c.make_default.ensures.moments (IsPreparing (moves_of c.args.plan.now.boot_default) c.args.plan.now.row.system)
    (λ w m is step. Recording step) (λ w r m is is_r recorded step. Setting r recorded step)

pub returns-clause-written : goal.returns-clause-written
returns-clause-written g c =
    leads_then c.in_ok-record_back.ensures.written c.in_ok-make_default.ensures.written (WritesOnly is_not_quiet)
    (λ w r u is is_r recorded set. writes_then is_not_quiet w r u recorded set)
