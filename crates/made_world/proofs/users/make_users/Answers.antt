use Rattle.std.proofs.Common.{◌≡◌, ◌+◌, ◌/◌, ◌%◌, suc, ap, ◌∙◌, arith}
use Rattle.made_world.specs.Draws.{draw_at, draw_of, next_state, state_at}
use Rattle.made_world.specs.Users.{new_users, old_users, with_user}
use Rattle.made_world.proofs.users.make_users.Goals as goal

pub loop-number-preserved : goal.loop-number-preserved
loop-number-preserved c =
    let seed = c.args.draws.now.state in let number = c.loop-number.number in let draw = c.draw-draw.result in let so_far = c.loop-number.invariant in
    let next : suc number ≡ number + 1 = omega arith in
    let drawn : draw ≡ draw_at seed (suc number) = c.draw-draw.ensures.draw ∙ ap (λ state. draw_of (next_state state)) so_far.draws in
    record {
      draws = ap (λ draws. draws.state) c.draw-draw.ensures.state ∙ ap next_state so_far.draws ∙ ap (state_at seed) next;
      old =
          c.in_ok-add_user.ensures
          ∙ ap (with_user (draw % 4) number draw) so_far.old
          ∙ ap (λ draw. with_user (draw % 4) number draw (old_users seed number)) drawn
          ∙ ap (old_users seed) next;
      new =
          c.in_ok-add_user-2.ensures
          ∙ ap (with_user (draw / 4 % 4) number draw) so_far.new
          ∙ ap (λ draw. with_user (draw / 4 % 4) number draw (new_users seed number)) drawn
          ∙ ap (new_users seed) next;
      within = let here = c.loop-number-test.true in omega (arith, here);
    }
