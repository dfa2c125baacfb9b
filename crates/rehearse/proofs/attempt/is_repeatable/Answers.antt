use Rattle.std.proofs.Common.{refl, subst}
use Rattle.rehearse.specs.Ends.{IsRepeatable}
use Rattle.rehearse.proofs.RepeatableLemmas.{repeatable, rollback_unrepeatable}
use Rattle.rehearse.proofs.attempt.is_repeatable.Goals as goal

-- src/attempt.rt:13:1
pub returns-in-Rollback : goal.returns-in-Rollback
returns-in-Rollback c = (λ never. cc, λ is. absurd (rollback_unrepeatable (subst IsRepeatable c.in-Rollback.is is)))

-- src/attempt.rt:13:1
pub returns-in-Switch : goal.returns-in-Switch
returns-in-Switch c = (λ so. repeatable c.args.command.now c.in-Switch.is, λ is. refl)

-- src/attempt.rt:13:1
pub returns-in-Switch-2 : goal.returns-in-Switch-2
returns-in-Switch-2 c = (λ so. repeatable c.args.command.now c.in-Switch.is, λ is. refl)

-- src/attempt.rt:13:1
pub returns-in-Switch-3 : goal.returns-in-Switch-3
returns-in-Switch-3 c = (λ so. repeatable c.args.command.now c.in-Switch.is, λ is. refl)

-- src/attempt.rt:13:1
pub returns-in-Switch-4 : goal.returns-in-Switch-4
returns-in-Switch-4 c = (λ so. repeatable c.args.command.now c.in-Switch.is, λ is. refl)
