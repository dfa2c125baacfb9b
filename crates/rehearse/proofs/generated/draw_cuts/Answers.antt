use Rattle.std.proofs.Common.{◌≡◌, ◌≤◌, ◌++◌, ◌∷◌, ◌+◌, ◌*◌, ◌%◌, ℕ, suc, [], ap, ◌∙◌, arith}
use Rattle.made_world.specs.Draws.{draw_at, draw_of, next_state, state_at}
use Rattle.rehearse.specs.Generated.{drawn_cuts}
use Rattle.rehearse.proofs.generated.draw_cuts.Goals as goal

drawn_more : (seed count after pick : ℕ) → after ≡ draw_at seed (2 * count + 1) → pick ≡ draw_at seed (2 * count + 2) →
    drawn_cuts seed count ++ record { after = after % 4096; pick = pick } ∷ [] ≡ drawn_cuts seed (count + 1)
drawn_more seed count after pick is_after is_pick =
    let next : suc count ≡ count + 1 = omega arith in
    ap (λ after. drawn_cuts seed count ++ record { after = after % 4096; pick = pick } ∷ []) is_after
    ∙ ap (λ pick. drawn_cuts seed count ++ record { after = draw_at seed (2 * count + 1) % 4096; pick = pick } ∷ []) is_pick
    ∙ ap (drawn_cuts seed) next

pub loop-number-preserved : goal.loop-number-preserved
loop-number-preserved c =
    let seed = c.args.draws.now.state in let count = c.loop-number._number in let so_far = c.loop-number.invariant in
    let once : suc (2 * count) ≡ 2 * count + 1 = omega arith in let twice : suc (2 * count + 1) ≡ 2 * count + 2 = omega arith in let next : 2 * count + 2 ≡ 2 * (count + 1) = omega arith in
    let first : c.draw-after.new.self.state ≡ state_at seed (2 * count + 1) = ap (λ draws. draws.state) c.draw-after.ensures.state ∙ ap next_state so_far.draws ∙ ap (state_at seed) once in
    let after : c.draw-after.result ≡ draw_at seed (2 * count + 1) = c.draw-after.ensures.draw ∙ ap (λ state. draw_of (next_state state)) so_far.draws ∙ ap (draw_at seed) once in
    let pick : c.draw-pick.result ≡ draw_at seed (2 * count + 2) = c.draw-pick.ensures.draw ∙ ap (λ state. draw_of (next_state state)) first ∙ ap (draw_at seed) twice in
    record {
      draws = ap (λ draws. draws.state) c.draw-pick.ensures.state ∙ ap next_state first ∙ ap (state_at seed) twice ∙ ap (state_at seed) next;
      cuts =
          c.in_ok-push.ensures.ok
          ∙ ap (λ cuts. cuts ++ record { after = c.draw-after.result % 4096; pick = c.draw-pick.result } ∷ []) so_far.cuts
          ∙ drawn_more seed count c.draw-after.result c.draw-pick.result after pick;
      within = let here = c.loop-number-test.true in omega (arith, here);
    }

pub returns : goal.returns
returns c =
    let count = c.loop-number._number in let within = c.loop-number.invariant.within in let all = c.loop-number-test.false in
    c.loop-number.invariant.cuts ∙ ap (drawn_cuts c.args.draws.now.state) (at_end within all)
  where
    at_end : {count all : ℕ} → count ≤ all → all ≤ count → count ≡ all
    at_end {count} {all} within end = omega (arith, within, end)
