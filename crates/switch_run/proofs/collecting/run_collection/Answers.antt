use Rattle.std.proofs.Common.{subst, sym}
use Rattle.std.proofs.lemmas.Result.{err_from_is_err_and}
use Rattle.boot_entries.specs.Steps.{CanApplyBoot}
use Rattle.host_trait.specs.World.{WorldState}
use Rattle.host_trait.proofs.Moments.{told_after}
use Rattle.store_collect.specs.Again.{IsAllowed}
use Rattle.store_collect.specs.Collection.{IsCollectionOf}
use Rattle.switch_run.proofs.CollectingLemmas.{handed, run_after, unplanned}
use Rattle.switch_run.proofs.collecting.run_collection.Goals as goal

pub returns-in_err-collection : goal.returns-in_err-collection
returns-in_err-collection g c =
    let p = err_from_is_err_and c.from_residual.result c.from_residual.ensures.1 in
    handed p.0 _ p.1 p.2
    (unplanned c.args.keep c.in_err-collection.field-0.0 c.in_err-collection.ensures.unfinished c.in_err-collection.ensures.too_long c.in_err-collection.ensures.in_order c.in_err-collection.ensures.in_the_way c.in_err-collection.ensures.reads)

pub run_planned_collection-requires-clause-can : goal.run_planned_collection-requires-clause-can
run_planned_collection-requires-clause-can g c =
    let same = c.plan.ensures.reads.moments in
    told_after same same.tells (CanApplyBoot c.in_ok-collection.collection.texts)
    (λ w v is still. subst (λ (x : WorldState). CanApplyBoot c.in_ok-collection.collection.texts x) (sym still) (c.in_ok-collection.ensures.can.has w is))

pub returns : goal.returns
returns g c =
    let same = c.plan.ensures.reads.moments in
    run_after c.args.keep c.plan.ensures.reads c.run_planned_collection.result
    (c.run_planned_collection.ensures c.args.keep
    (told_after same same.tells (λ w. IsCollectionOf c.args.keep w c.in_ok-collection.collection)
    (λ w v is still. subst (λ (x : WorldState). IsCollectionOf c.args.keep x c.in_ok-collection.collection) (sym still) (c.in_ok-collection.ensures.collection.has w is)))
    (told_after same same.tells (λ w. IsAllowed c.args.keep w.leaves)
    (λ w v is still. subst (λ (x : WorldState). IsAllowed c.args.keep x.leaves) (sym still) (c.in_ok-collection.ensures.allowed.has w is))))
