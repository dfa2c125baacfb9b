use Rattle.std.proofs.Common.{◌≡◌, ◌+◌, length, take}
use Rattle.log_text.specs.Log.{list_text}
use Rattle.unit_stage.proofs.room.room_after.Given as goal

abbrev pub invariant-loop-name : goal.invariant-loop-name
invariant-loop-name l = l.left + length (list_text (take l.name-index l.names)) ≡ l.fn.room
