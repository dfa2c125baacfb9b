use Rattle.std.proofs.Common.{◌≡◌, ◌++◌, ◌+◌, suc, ap, ◌∙◌, arith}
use Rattle.made_world.specs.Draws.{draw_at, draw_of, next_state, state_at}
use Rattle.made_world.specs.Entries.{entries_leaves, entry_leaves}
use Rattle.made_world.specs.Putting.{with_leaves}
use Rattle.made_world.proofs.PuttingLemmas.{put_then}
use Rattle.made_world.proofs.entries.make_entries.Goals as goal

pub loop-number-preserved : goal.loop-number-preserved
loop-number-preserved c =
    let seed = c.args.draws.now.state in let w = c.args.world.now in let number = c.loop-number.number in let draw = c.draw-draw.result in
    let leaves = entries_leaves seed number in let so_far = c.loop-number.invariant in
    let next : suc number ≡ number + 1 = omega arith in
    let drawn : draw ≡ draw_at seed (suc number) = c.draw-draw.ensures.draw ∙ ap (λ state. draw_of (next_state state)) so_far.draws in
    record {
      draws = ap (λ draws. draws.state) c.draw-draw.ensures.state ∙ ap next_state so_far.draws ∙ ap (state_at seed) next;
      world =
          c.in_ok-put_entry.ensures
          ∙ ap (with_leaves (entry_leaves number draw)) so_far.world
          ∙ ap (λ put. record w { leaves = put }) (put_then w.leaves leaves (entry_leaves number draw))
          ∙ ap (λ draw. with_leaves (leaves ++ entry_leaves number draw) w) drawn
          ∙ ap (λ count. with_leaves (entries_leaves seed count) w) next;
      within = let here = c.loop-number-test.true in omega (arith, here);
    }
