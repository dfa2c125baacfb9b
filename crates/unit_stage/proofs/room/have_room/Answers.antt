use Rattle.std.proofs.Common.{◌<◌, ◌+◌, ◌≡◌, List, MatchOption, ℕ, length, subst}
use Rattle.log_text.specs.Log.{list_text}
use Rattle.unit_stage.proofs.RoomLemmas.{names_max, union_told}
use Rattle.unit_stage.proofs.room.have_room.Goals as goal

pub returns : goal.returns
returns c =
    union_told c.args.owed.now c.in_ok-units.units c.room_after.result c.is_some-2.result c.in_ok-units.ensures c.is_some-2.ensures
    (subst (λ (units : List (List ℕ)). MatchOption c.room_after.result (names_max < length (list_text units)) (λ left. left + length (list_text units) ≡ names_max)) c.as_slice.ensures c.room_after.ensures)
