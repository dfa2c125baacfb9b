use Rattle.std.proofs.Common.{◌≡◌, ◌+◌, ◌++◌, length, take}
use Rattle.log_text.specs.Lists.{record_order}
use Rattle.log_text.specs.Log.{list_text}
use Rattle.unit_stage.proofs.RoomLemmas.{names_max, names_on}
use Rattle.unit_stage.proofs.room.room_after_all.Given as goal

-- what the names of the stops and of the lists so far leave
abbrev pub invariant-loop-which : goal.invariant-loop-which
invariant-loop-which l = l.left + length (list_text (l.owed.stops ++ names_on l.owed (take l.which-index record_order))) ≡ names_max
