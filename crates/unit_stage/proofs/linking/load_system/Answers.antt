use Rattle.std.proofs.Common.{◌≡◌, ap, ◌∙◌}
use Rattle.std.proofs.lemmas.Result.{err_from_is_err_and}
use Rattle.host_trait.specs.World.{seen, with_leaf}
use Rattle.host_trait.proofs.Causes.{cause_on}
use Rattle.host_trait.proofs.Moments.{goes_on, leads_then, passes_as, told_as}
use Rattle.tree_put.specs.Put.{CanPut}
use Rattle.tree_put.specs.Written.{WritesOnly}
use Rattle.unit_stage.specs.Owned.{owns_units}
use Rattle.unit_stage.specs.Steps.{IsLoadMoment, with_loaded}
use Rattle.unit_stage.specs.System.{current_place}
use Rattle.switch_parts.proofs.Faults.{handed}
use Rattle.unit_stage.proofs.CauseLemmas.{cause_end}
use Rattle.unit_stage.proofs.StepLemmas.{linking, loaded_world, loads}
use Rattle.unit_stage.proofs.WrittenLemmas.{then_reloaded}
use Rattle.unit_stage.proofs.linking.load_system.Goals as goal

pub put_current-requires : goal.put_current-requires
put_current-requires g c = told_as c.requires.can (CanPut current_place) (λ w is can. record { stage = can.stage; place = can.current })

pub returns-in_err-put_current-clause-moments : goal.returns-in_err-put_current-clause-moments
returns-in_err-put_current-clause-moments g c =
    passes_as c.put_current.ensures.moments (IsLoadMoment c.args.system.now)
    (λ w m is moment. linking c.args.system.now w (c.requires.can.has w is) c.args.current.now m c.requires.current moment)

pub returns-in_err-daemon_reload-clause-moments : goal.returns-in_err-daemon_reload-clause-moments
returns-in_err-daemon_reload-clause-moments g c =
    goes_on c.put_current.ensures.moments c.in_ok-put_current.ensures.ok c.daemon_reload.ensures.moments (IsLoadMoment c.args.system.now)
    (λ w m is moment. linking c.args.system.now w (c.requires.can.has w is) c.args.current.now m c.requires.current moment)
    (λ w v m is is_v came moment. loads c.args.system.now w (c.requires.can.has w is) v m (came ∙ ap (λ l. seen (with_leaf current_place l w)) c.requires.current) moment)

pub returns-clause-ok : goal.returns-clause-ok
returns-clause-ok g c =
    leads_then c.in_ok-put_current.ensures.ok c.in_ok-daemon_reload.ensures.ok (λ w v. seen v ≡ seen (with_loaded c.args.system.now w))
    (λ w v u is is_v came done. loaded_world c.args.system.now w (c.requires.can.has w is) v u (came ∙ ap (λ l. seen (with_leaf current_place l w)) c.requires.current) done)

pub returns-clause-moments : goal.returns-clause-moments
returns-clause-moments g c =
    goes_on c.put_current.ensures.moments c.in_ok-put_current.ensures.ok c.daemon_reload.ensures.moments (IsLoadMoment c.args.system.now)
    (λ w m is moment. linking c.args.system.now w (c.requires.can.has w is) c.args.current.now m c.requires.current moment)
    (λ w v m is is_v came moment. loads c.args.system.now w (c.requires.can.has w is) v m (came ∙ ap (λ l. seen (with_leaf current_place l w)) c.requires.current) moment)

pub returns-in_err-daemon_reload-clause-cause : goal.returns-in_err-daemon_reload-clause-cause
returns-in_err-daemon_reload-clause-cause g c =
    let p = err_from_is_err_and c.from_residual-in_err-daemon_reload.result c.from_residual-in_err-daemon_reload.ensures.1 in
    cause_on c.put_current.ensures.cause c.in_err-daemon_reload.ensures.cause (λ e. handed _ p.0 _ _ p.1 p.2 e)

pub returns-clause-cause : goal.returns-clause-cause
returns-clause-cause g c = cause_end c.put_current.ensures.cause c.daemon_reload.ensures.cause

pub returns-clause-written : goal.returns-clause-written
returns-clause-written g c =
    leads_then c.in_ok-put_current.ensures.written c.in_ok-daemon_reload.ensures.ok (WritesOnly owns_units)
    (λ w v u is is_v writes done. then_reloaded w v u writes done)
