use Rattle.std.proofs.Common.{Option, sym, subst}
use Rattle.switch_engine.specs.declared.plan.SwitchPlan.{SwitchPlan}
use Rattle.switch_engine.specs.Owing.{IsLongBy}
use Rattle.switch_engine.specs.Plan.{IsSwitchPlanned}
use Rattle.switch_engine.proofs.LongLemmas.{long_none, long_some}
use Rattle.switch_names.proofs.Outcomes.{none_left}
use Rattle.switch_engine.proofs.planning.long_of.Goals as goal

pub returns-in_default : goal.returns-in_default
returns-in_default c its w planned =
    long_none its w (subst (λ (plan : Option SwitchPlan). IsSwitchPlanned its.start_up its.switches its.system w plan) (sym (none_left c.args.plan.now.switch c.in_default.not-Some)) planned.switch)

pub returns : goal.returns
returns c its w planned =
    subst (IsLongBy its w) (sym c.first_long.ensures)
    (long_some its w c.in-Some.switch c.in_ok-log.log c.in_ok-long.long (subst (λ (plan : Option SwitchPlan). IsSwitchPlanned its.start_up its.switches its.system w plan) c.in-Some.is planned.switch)
    c.in_ok-log.ensures c.in_ok-long.ensures)
