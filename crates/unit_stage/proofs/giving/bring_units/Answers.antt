use Rattle.std.proofs.Common.{◌≡◌, sym, subst}
use Rattle.std.proofs.lemmas.Result.{err_from_is_err_and}
use Rattle.std.specs.List.{flat_map}
use Rattle.host_trait.specs.World.{seen}
use Rattle.host_trait.proofs.Causes.{cause_on}
use Rattle.host_trait.proofs.Moments.{goes_on, leads_then, passes_as, told_after, told_as}
use Rattle.log_text.specs.declared.lists.Which.{Which}
use Rattle.tree_put.specs.Written.{WritesOnly}
use Rattle.owed_plan.specs.Calls.{give_order}
use Rattle.unit_stage.specs.Acts.{CanPerform}
use Rattle.unit_stage.specs.Owned.{owns_units}
use Rattle.unit_stage.specs.PlanCalls.{calls_in}
use Rattle.unit_stage.specs.Steps.{CanLoad, HasLogFor, IsBringMoment, with_brought, with_loaded}
use Rattle.switch_parts.proofs.Faults.{handed}
use Rattle.unit_stage.proofs.CauseLemmas.{cause_end}
use Rattle.unit_stage.proofs.StandLemmas.{loaded_log}
use Rattle.unit_stage.proofs.StepLemmas.{brought_world, giving_brings, loading_brings, log_as, manager_seen}
use Rattle.unit_stage.proofs.WrittenLemmas.{then_given}
use Rattle.unit_stage.proofs.giving.bring_units.Goals as goal

pub load_system-requires-clause-can : goal.load_system-requires-clause-can
load_system-requires-clause-can g c = told_as c.requires.can (CanLoad c.args.system.now) (λ w is can. can.load)

pub give_all-requires-clause-calls : goal.give_all-requires-clause-calls
give_all-requires-clause-calls g c =
    let calls = flat_map (calls_in c.args.calls) give_order in
    told_after c.load_system.ensures.moments c.in_ok-load_system.ensures.ok (λ w. CanPerform calls w.manager)
    (λ w v is came. subst (CanPerform calls) (sym (manager_seen v (with_loaded c.args.system.now w) came)) (c.requires.can.has w is).can_call)

pub give_all-requires-clause-log : goal.give_all-requires-clause-log
give_all-requires-clause-log g c =
    let calls = calls_in c.args.calls in
    told_after c.load_system.ensures.moments c.in_ok-load_system.ensures.ok (λ w. (which : Which) → HasLogFor which (calls which) w.leaves)
    (λ w v is came which. log_as which (calls which) v.leaves w.leaves (loaded_log c.args.system.now w v came) ((c.requires.can.has w is).log which))

pub returns-in_err-load_system-clause-moments : goal.returns-in_err-load_system-clause-moments
returns-in_err-load_system-clause-moments g c =
    let calls = calls_in c.args.calls in let system = c.args.system.now in
    passes_as c.load_system.ensures.moments (IsBringMoment system calls) (λ w m is moment. loading_brings system calls w m moment)

pub returns-in_err-give_all-clause-moments : goal.returns-in_err-give_all-clause-moments
returns-in_err-give_all-clause-moments g c =
    let calls = calls_in c.args.calls in let system = c.args.system.now in
    goes_on c.load_system.ensures.moments c.in_ok-load_system.ensures.ok c.give_all.ensures.moments (IsBringMoment system calls)
    (λ w m is moment. loading_brings system calls w m moment) (λ w v m is is_v came moment. giving_brings system calls w v m came moment)

pub returns-clause-moments : goal.returns-clause-moments
returns-clause-moments g c =
    let calls = calls_in c.args.calls in let system = c.args.system.now in
    goes_on c.load_system.ensures.moments c.in_ok-load_system.ensures.ok c.give_all.ensures.moments (IsBringMoment system calls)
    (λ w m is moment. loading_brings system calls w m moment) (λ w v m is is_v came moment. giving_brings system calls w v m came moment)

pub returns-clause-ok : goal.returns-clause-ok
returns-clause-ok g c =
    let calls = calls_in c.args.calls in let system = c.args.system.now in
    leads_then c.in_ok-load_system.ensures.ok c.in_ok-give_all.ensures.ok (λ w v. seen v ≡ seen (with_brought system calls w)) (λ w v u is is_v came made. brought_world system calls w v u came made)

pub returns-in_err-give_all-clause-cause : goal.returns-in_err-give_all-clause-cause
returns-in_err-give_all-clause-cause g c =
    let p = err_from_is_err_and c.from_residual-in_err-give_all.result c.from_residual-in_err-give_all.ensures.1 in
    cause_on c.load_system.ensures.cause c.in_err-give_all.ensures.cause (λ e. handed _ p.0 _ _ p.1 p.2 e)

pub returns-clause-cause : goal.returns-clause-cause
returns-clause-cause g c = cause_end c.load_system.ensures.cause c.give_all.ensures.cause

pub returns-clause-written : goal.returns-clause-written
returns-clause-written g c =
    leads_then c.in_ok-load_system.ensures.written c.in_ok-give_all.ensures.ok (WritesOnly owns_units)
    (λ w v u is is_v writes made. then_given (calls_in c.args.calls) give_order w v u writes made)
