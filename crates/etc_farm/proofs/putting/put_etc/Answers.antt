use Rattle.std.proofs.lemmas.Result.{on_ok_weaker}
use Rattle.host_trait.proofs.Moments.{leads_as, passes_as, told_as}
use Rattle.switch_parts.specs.Part.{IsAtEnd, IsPartMoment, final_leaf}
use Rattle.switch_parts.specs.Quiet.{IsQuiet}
use Rattle.std.proofs.Common.{sym, ap, subst, List}
use Rattle.etc_manifest.specs.declared.item.Item.{Item}
use Rattle.etc_farm.specs.Making.{IsMaking, IsMakingEtc}
use Rattle.etc_farm.specs.EtcPart.{etc_part, items_in}
use Rattle.etc_farm.specs.FarmPart.{CanApply, farm_of}
use Rattle.etc_farm.proofs.EtcLemmas.{can_apply, end_as, making_as}
use Rattle.etc_farm.specs.Written.{clean_first}
use Rattle.etc_farm.proofs.QuietStageLemmas.{quiet_etc}
use Rattle.etc_farm.proofs.putting.put_etc.Goals as goal

pub apply_prepared-requires-clause-prepared : goal.apply_prepared-requires-clause-prepared
apply_prepared-requires-clause-prepared g c = record { has = λ w is. (c.requires.has w is).planned.prepared }

pub apply_prepared-requires-clause-can : goal.apply_prepared-requires-clause-can
apply_prepared-requires-clause-can g c = told_as c.requires (CanApply (farm_of c.args.system.now c.args.plan.now.manifest) c.args.plan.now.sorted) (λ w is can. can_apply c.args.system.now c.args.plan.now w can)

pub returns-clause-ok : goal.returns-clause-ok
returns-clause-ok g c =
    on_ok_weaker c.apply_prepared.result
    (λ led. leads_as led (IsAtEnd (etc_part c.args.system.now c.args.plan.now.owners)) (λ w v is end. end_as c.args.system.now c.args.plan.now w (c.requires.has w is) v end))
    c.apply_prepared.ensures.ok

pub returns-clause-moments : goal.returns-clause-moments
returns-clause-moments g c =
    passes_as c.apply_prepared.ensures.steps (IsPartMoment (etc_part c.args.system.now c.args.plan.now.owners))
    (λ w m is step. making_as c.args.system.now c.args.plan.now w (c.requires.has w is) c.path-path.ensures.names m step)

pub returns-clause-cause : goal.returns-clause-cause
returns-clause-cause g c = c.apply_prepared.ensures.cause

pub returns-clause-steps : goal.returns-clause-steps
returns-clause-steps g c =
    passes_as c.apply_prepared.ensures.steps (IsMakingEtc c.args.system.now c.args.plan.now.owners)
    (λ w m is step. subst (λ (items : List Item). IsMaking (farm_of c.args.system.now items) w m) (sym (ap items_in (c.requires.has w is).planned.wanted)) step)

pub returns-clause-quiet : goal.returns-clause-quiet
returns-clause-quiet g c =
    on_ok_weaker c.apply_prepared.result
    (λ led. leads_as led (IsQuiet (clean_first c.args.system.now c.args.plan.now.owners) (final_leaf (etc_part c.args.system.now c.args.plan.now.owners)))
    (λ w v is quiet. quiet_etc c.args.system.now c.args.plan.now w (c.requires.has w is) v quiet))
    c.apply_prepared.ensures.quiet
