use Rattle.std.proofs.Common.{None, subst}
use Rattle.host_trait.proofs.Moments.{told_as}
use Rattle.switch_engine.specs.declared.command.Command.{Command}
use Rattle.switch_engine.specs.Owing.{Refuses}
use Rattle.rehearse.proofs.rehearsing.may_be_cut.Goals as goal

pub returns-in-Ok-clause-none : goal.returns-in-Ok-clause-none
returns-in-Ok-clause-none g c may =
    told_as c.in-Ok.ensures.plan (λ w. Refuses c.args.command.now w None)
    (λ w is planned. subst (λ (command : Command). Refuses command w None) c.in-Ok.ensures.command planned.not_refused)
