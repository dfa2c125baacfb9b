-- How long the log is: the greatest length of a file that is read is this project's own.
use Rattle.std.specs.Prelude.{◌≡◌, ◌∷◌, ◌+◌, ◌≤◌, ℕ, length, Option, option_map}
use Rattle.host_trait.specs.Change.{IsMoment}
use Rattle.host_trait.specs.World.{Leaves, WorldState, seen}
use Rattle.leaf_limits.specs.Counts.{past}
use Rattle.leaf_limits.specs.declared.too_long.TooLong.{TooLong}
use Rattle.leaf_limits.specs.Limits.{AreWithin, leaf_max, length_at}
use Rattle.log_text.specs.declared.lists.Lists.{Lists}
use Rattle.log_text.specs.declared.lists.Which.{Which}
use Rattle.owed_log.specs.declared.log_write.LogWrite.{LogWrite}
use Rattle.owed_log.specs.Places.{log_place, old_places}
use Rattle.owed_log.specs.Writing.{IsPrepared, IsRecordMoment, clearing, recorded, text_of}

-- how many bytes are counted for a log that records lists: their text, and 64 for the blocks that clear two of them
abbrev pub log_length : Lists → ℕ
log_length lists = length (text_of lists) + 64

-- the log that records lists, where it would be longer than can be read again
abbrev pub long_log : Lists → Option TooLong
long_log lists = option_map (λ count. record { at = log_place; count = count }) (past leaf_max (log_length lists))

-- neither the log nor a list of an older program is too long
abbrev pub AreOwedShort : Leaves → Type 0
AreOwedShort leaves = AreWithin (log_place ∷ old_places) leaves

-- the log leaves room for so many bytes more, and no list of an older program is too long
pub record HaveRoom (more : ℕ) (leaves : Leaves) : Type 0 where
  pub log : length_at leaves log_place + more ≤ leaf_max
  pub old : AreWithin old_places leaves

-- at whatever moment a record is cut whose text is short enough, nothing is too long that wasn't
abbrev pub ShortRecordLaw : Type 0
ShortRecordLaw =
    (lists : Lists) (write : LogWrite) (w m : WorldState) → IsPrepared w.leaves lists write → log_length lists ≤ leaf_max → AreOwedShort w.leaves → IsRecordMoment write w m → AreOwedShort m.leaves

-- once it is made, the log leaves room for the blocks that clear two of its lists
abbrev pub RoomyRecordLaw : Type 0
RoomyRecordLaw =
    (lists : Lists) (write : LogWrite) (w v : WorldState) → IsPrepared w.leaves lists write → log_length lists ≤ leaf_max → AreOwedShort w.leaves → seen v ≡ seen (recorded write w) → HaveRoom 64 v.leaves

-- at whatever moment a list is cleared, the log takes no more than 16 bytes of its room
abbrev pub RoomyClearLaw : Type 0
RoomyClearLaw = (which : Which) (more : ℕ) (w m : WorldState) → HaveRoom (more + 16) w.leaves → IsMoment (clearing which) w m → HaveRoom more m.leaves
