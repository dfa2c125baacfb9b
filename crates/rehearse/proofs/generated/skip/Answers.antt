use Rattle.std.proofs.Common.{◌≡◌, ◌+◌, suc, ap, ◌∙◌, arith}
use Rattle.made_world.specs.Draws.{next_state, state_at}
use Rattle.rehearse.proofs.GeneratedLemmas.{at_end}
use Rattle.rehearse.proofs.generated.skip.Goals as goal

pub loop-number-preserved : goal.loop-number-preserved
loop-number-preserved c =
    let seed = c.args.draws.now.state in let so_far = c.loop-number.invariant.draws in
    let next : suc c.loop-number._number ≡ c.loop-number._number + 1 = omega arith in
    record {
      draws = ap (λ draws. draws.state) c.draw-draw.ensures.state ∙ ap next_state so_far ∙ ap (state_at seed) next;
      within = let here = c.loop-number-test.true in omega (arith, here);
    }

pub returns : goal.returns
returns c = c.loop-number.invariant.draws ∙ ap (state_at c.args.draws.now.state) (at_end c.loop-number.invariant.within c.loop-number-test.false)
