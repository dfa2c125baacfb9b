use Rattle.host_trait.proofs.Moments.{goes_on, passes_as, told_after, told_as}
use Rattle.etc_farm.specs.EtcPart.{CanPutEtc}
use Rattle.accounts_stage.specs.Plan.{CanSetAccounts}
use Rattle.activation_stage.specs.ActivationPart.{IsActivated, IsActivating}
use Rattle.activation_stage.specs.ActivationPart.IsActivating.{Setting}
use Rattle.activation_stage.proofs.ActivationLemmas.{activated, can_put, can_set, leads_so, making, passes_both}
use Rattle.activation_stage.proofs.QuietLemmas.{activated_quietly}
use Rattle.activation_stage.proofs.activating.activate.Goals as goal

pub set_accounts-requires : goal.set_accounts-requires
set_accounts-requires g c =
    told_as c.requires (CanSetAccounts c.args.system.now c.args.plan.now.accounts) (λ w is can. can_set c.args.system.now c.path-path.ensures.names c.args.plan.now w can)

pub returns-in_err-set_accounts-clause-moments : goal.returns-in_err-set_accounts-clause-moments
returns-in_err-set_accounts-clause-moments g c = passes_as c.set_accounts.ensures.moments (IsActivating c.args.system.now) (λ w m is setting. Setting setting)

pub put_etc-requires : goal.put_etc-requires
put_etc-requires g c =
    told_after c.set_accounts.ensures.moments c.in_ok-set_accounts.ensures.ok (CanPutEtc c.args.system.now c.args.plan.now.etc)
    (λ w u is set. can_put c.args.system.now c.path-path.ensures.names c.args.plan.now w (c.requires.has w is) u set)

pub returns-in_err-put_etc-clause-moments : goal.returns-in_err-put_etc-clause-moments
returns-in_err-put_etc-clause-moments g c =
    goes_on c.set_accounts.ensures.moments c.in_ok-set_accounts.ensures.ok (passes_both c.put_etc.ensures.moments c.put_etc.ensures.steps) (IsActivating c.args.system.now) (λ w m is setting. Setting setting)
    (λ w u m is at set moment. making c.args.system.now c.path-path.ensures.names c.args.plan.now w (c.requires.has w is) u set m moment.0 moment.1)

pub returns-clause-ok : goal.returns-clause-ok
returns-clause-ok g c =
    leads_so c.in_ok-set_accounts.ensures.ok c.in_ok-put_etc.ensures.ok c.put_etc.ensures.moments.tells (IsActivated c.args.system.now)
    (λ w u v is set end moment. activated c.args.system.now c.path-path.ensures.names c.args.plan.now w (c.requires.has w is) u set v end moment)

pub returns-clause-moments : goal.returns-clause-moments
returns-clause-moments g c =
    goes_on c.set_accounts.ensures.moments c.in_ok-set_accounts.ensures.ok (passes_both c.put_etc.ensures.moments c.put_etc.ensures.steps) (IsActivating c.args.system.now) (λ w m is setting. Setting setting)
    (λ w u m is at set moment. making c.args.system.now c.path-path.ensures.names c.args.plan.now w (c.requires.has w is) u set m moment.0 moment.1)

pub returns-clause-quiet : goal.returns-clause-quiet
returns-clause-quiet g c =
    activated_quietly c.args.system.now c.path-path.ensures.names c.args.plan.now c.requires c.in_ok-set_accounts.ensures.ok c.in_ok-set_accounts.ensures.quiet c.in_ok-put_etc.ensures.quiet
