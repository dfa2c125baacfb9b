use Rattle.std.proofs.Common.{◌≡◌, ◌+◌, ◌<◌, length, List, MatchOption, Option, ℕ, None, sym, subst, arith}
use Rattle.log_text.specs.Log.{list_text}
use Rattle.unit_stage.proofs.RoomLemmas.{past_room}
use Rattle.unit_stage.proofs.room.room_after.Goals as goal

none_fits : (result : Option ℕ) (room : ℕ) (names : List (List ℕ)) → result ≡ None → room < length (list_text names) → MatchOption result (room < length (list_text names)) (λ left. left + length (list_text names) ≡ room)
none_fits result room names none past = subst (λ (o : Option ℕ). MatchOption o (room < length (list_text names)) (λ left. left + length (list_text names) ≡ room)) (sym none) past

pub returns-in_err-checked_sub : goal.returns-in_err-checked_sub
returns-in_err-checked_sub c =
    none_fits c.from_residual.result c.args.room c.args.names.now c.from_residual.ensures
    (past_room c.args.names.now c.loop-name.name-index c.loop-name.left c.args.room c.as_str.result.now c.name-item.result c.loop-name-test.true c.name-item.is c.as_str.ensures.text c.loop-name.invariant
    (omega (arith, c.in_err-checked_sub.ensures)))

pub returns-in_err-left : goal.returns-in_err-left
returns-in_err-left c =
    none_fits c.from_residual-in_err-left.result c.args.room c.args.names.now c.from_residual-in_err-left.ensures
    (past_room c.args.names.now c.loop-name.name-index c.loop-name.left c.args.room c.as_str.result.now c.name-item.result c.loop-name-test.true c.name-item.is c.as_str.ensures.text c.loop-name.invariant
    (omega (arith, c.in_ok-checked_sub.ensures, c.in_err-left.ensures)))
