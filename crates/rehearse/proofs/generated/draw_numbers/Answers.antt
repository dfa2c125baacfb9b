use Rattle.std.proofs.Common.{◌≡◌, ◌+◌, ◌++◌, ◌∷◌, [], suc, refl, sym, ap, ◌∙◌, arith}
use Rattle.made_world.specs.Draws.{draw_of, next_state, state_at}
use Rattle.rehearse.specs.Generated.{drawn_numbers}
use Rattle.rehearse.proofs.GeneratedLemmas.{at_end, drawn_first, drawn_next}
use Rattle.rehearse.proofs.generated.draw_numbers.Goals as goal

pub loop-number-init : goal.loop-number-init
loop-number-init c = record { draws = refl; numbers = c.new-numbers.ensures ∙ sym (drawn_first c.args.draws.now.state); within = omega arith }

pub loop-number-preserved : goal.loop-number-preserved
loop-number-preserved c =
    let seed = c.args.draws.now.state in let count = c.loop-number._number in let so_far = c.loop-number.invariant in
    let next : suc count ≡ count + 1 = omega arith in
    record {
      draws = ap (λ draws. draws.state) c.draw.ensures.state ∙ ap next_state so_far.draws ∙ ap (state_at seed) next;
      numbers =
          c.in_ok-push.ensures.ok
          ∙ ap (λ numbers. numbers ++ c.draw.result ∷ []) so_far.numbers
          ∙ drawn_next seed count c.draw.result (c.draw.ensures.draw ∙ ap (λ state. draw_of (next_state state)) so_far.draws ∙ ap (λ n. draw_of (state_at seed n)) next);
      within = let here = c.loop-number-test.true in omega (arith, here);
    }

pub returns : goal.returns
returns c = c.loop-number.invariant.numbers ∙ ap (drawn_numbers c.args.draws.now.state) (at_end c.loop-number.invariant.within c.loop-number-test.false)
