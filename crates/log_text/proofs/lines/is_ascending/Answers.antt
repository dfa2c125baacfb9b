use Rattle.std.proofs.Common.{◌≡◌, false, true, refl, arith}
use Rattle.std.proofs.lemmas.Grind.{common_steps}
use Rattle.log_text.proofs.LineLemmas.{ascends, not_ascending}
use Rattle.log_text.proofs.lines.is_ascending.Goals as goal

pub returns-then-not-is_less : goal.returns-then-not-is_less
returns-then-not-is_less c = (
  λ no. absurd (let both : false ≡ true = no in cc),
  λ sorted. absurd (not_ascending c.args.names.now c.loop-at.at c.loop-at.invariant.0 (grind (arith, common_steps)) (λ less. grind (arith, common_steps)) sorted),
)

pub returns : goal.returns
returns c = (λ yes. ascends c.args.names.now c.loop-at.at c.loop-at.invariant.1 (grind (arith, common_steps)), λ sorted. refl)
