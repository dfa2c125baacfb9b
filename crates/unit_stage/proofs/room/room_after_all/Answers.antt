use Rattle.std.proofs.Common.{arith}
use Rattle.unit_stage.proofs.RoomLemmas.{left_fits}
use Rattle.unit_stage.proofs.room.room_after_all.Goals as goal

pub returns : goal.returns
returns c some = left_fits c.args.owed.now c.loop-which.which-index c.loop-which.left (omega arith) c.loop-which.invariant
