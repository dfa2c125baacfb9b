use Rattle.std.proofs.Common.{◌≡◌, ◌++◌, ◌+◌, suc, ap, ◌∙◌, arith}
use Rattle.made_world.specs.Draws.{draw_at, draw_of, next_state, state_at}
use Rattle.made_world.specs.Putting.{with_bad}
use Rattle.made_world.specs.Units.{unit_bad, unit_leaves, units_bad, units_leaves, units_states, with_unit}
use Rattle.made_world.proofs.PuttingLemmas.{both_then, with_both}
use Rattle.made_world.proofs.units.make_units.Goals as goal

pub loop-number-preserved : goal.loop-number-preserved
loop-number-preserved c =
    let seed = c.args.draws.now.state in let w = c.args.world.now in let number = c.loop-number.number in let draw = c.draw-draw.result in
    let leaves = units_leaves seed number in let bad = units_bad seed number in let so_far = c.loop-number.invariant in
    let next : suc number ≡ number + 1 = omega arith in
    let drawn : draw ≡ draw_at seed (suc number) = c.draw-draw.ensures.draw ∙ ap (λ state. draw_of (next_state state)) so_far.draws in
    record {
      draws = ap (λ draws. draws.state) c.draw-draw.ensures.state ∙ ap next_state so_far.draws ∙ ap (state_at seed) next;
      world =
          c.in_ok-add_bad.ensures
          ∙ ap (with_bad (unit_bad number draw)) c.in_ok-put_unit.ensures
          ∙ ap (with_both (unit_leaves number draw) (unit_bad number draw)) so_far.world
          ∙ both_then w leaves (unit_leaves number draw) bad (unit_bad number draw)
          ∙ ap (λ draw. with_both (leaves ++ unit_leaves number draw) (bad ++ unit_bad number draw) w) drawn
          ∙ ap (λ count. with_both (units_leaves seed count) (units_bad seed count) w) next;
      states =
          c.in_ok-set_unit.ensures
          ∙ ap (with_unit number draw) so_far.states
          ∙ ap (λ draw. with_unit number draw (units_states seed number)) drawn
          ∙ ap (units_states seed) next;
      within = let here = c.loop-number-test.true in omega (arith, here);
    }
