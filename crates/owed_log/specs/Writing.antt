-- How the log is written, and what a cut leaves: write(2), rename(2), unlink(2).
use Rattle.std.specs.Prelude.{◌≡◌, ◌≤◌, ◌<◌, ◌+◌, ◌^◌, ℕ, List, [], length, None}
use Rattle.std.specs.FinMap.{get}
use Rattle.host_trait.specs.Leaf.{open_file}
use Rattle.host_trait.specs.Change.{Change, IsMoment, finished}
use Rattle.host_trait.specs.World.{Leaves, WorldState, IsFileAt, seen, with_leaf}
use Rattle.log_text.specs.declared.lists.Lists.{Lists}
use Rattle.log_text.specs.declared.lists.Which.{Which}
use Rattle.log_text.specs.declared.lists.Which.TheVariants.{Starts}
use Rattle.log_text.specs.Lists.{AreCounted, block_of, blocks_of, no_lists}
use Rattle.log_text.specs.Log.{block_text, log_text}
use Rattle.tree_put.specs.Put.{CanPut, IsOldOrNew}
use Rattle.tree_put.specs.Sequence.{IsRemoving, without_places}
use Rattle.owed_log.specs.declared.log_write.LogWrite.{LogWrite}
use Rattle.owed_log.specs.declared.log_write.LogWrite.TheVariants.{Nothing, Append, Put}
use Rattle.owed_log.specs.Places.{log_place, old_places}
use Rattle.owed_log.specs.Standing.{IsWholeLog}

-- a log of more bytes isn't appended to, but written anew: 64 KiB
abbrev pub log_max : ℕ
log_max = 2 ^ 16

-- the text that records lists
abbrev pub text_of : Lists → List ℕ
text_of lists = log_text (blocks_of lists)

-- nothing has to be written where nothing is recorded and no log stands
abbrev pub NeedsNothing : Leaves → Lists → Type 0
NeedsNothing leaves lists = (lists ≡ no_lists) × (get leaves log_place ≡ None)

-- the text of lists can be appended to a whole log that doesn't become too long
pub record CanAppend (leaves : Leaves) (lists : Lists) : Type 0 where
  pub count : ℕ
  pub whole : IsWholeLog leaves count
  pub short : count + length (text_of lists) ≤ log_max

-- what has to be written to record lists: nothing where that does; else their text, which is appended where it can be and put in the
-- place of what stands where it can't
abbrev pub IsPrepared : Leaves → Lists → LogWrite → Type 0
IsPrepared leaves lists Nothing = NeedsNothing leaves lists
IsPrepared leaves lists (Append text) = (text ≡ text_of lists) × CanAppend leaves lists
IsPrepared leaves lists (Put text) = (text ≡ text_of lists) × (NeedsNothing leaves lists → ⊥) × (CanAppend leaves lists → ⊥)

-- this has to be written to record lists, whose names can be counted
pub record IsWriteFor (leaves : Leaves) (lists : Lists) (write : LogWrite) : Type 0 where
  pub prepared : IsPrepared leaves lists write
  pub counted : AreCounted lists

-- what a write needs: a file to append to, or nothing in the way of what is put
abbrev pub CanWrite : LogWrite → WorldState → Type 0
CanWrite Nothing w = Unit {0}
CanWrite (Append text) w = IsFileAt w.leaves log_place
CanWrite (Put text) w = CanPut log_place w

-- what is appended has bytes
abbrev pub IsFilled : LogWrite → Type 0
IsFilled (Append text) = 0 < length text
IsFilled write = Unit {0}

-- the world with the log written
abbrev pub with_write : LogWrite → WorldState → WorldState
with_write Nothing w = w
with_write (Append text) w = finished (Change.Append log_place text) w
with_write (Put text) w = with_leaf log_place (open_file text) w

-- what a cut leaves of the log's write: what stood, with any part of what is appended, or what is put
abbrev pub IsWriting : LogWrite → WorldState → WorldState → Type 0
IsWriting Nothing w m = m ≡ w
IsWriting (Append text) w m = IsMoment (Change.Append log_place text) w m
IsWriting (Put text) w m = IsOldOrNew log_place (open_file text) w m

-- the world in which lists are recorded: the log is written, and no leaf of an older program's lists stands
abbrev pub recorded : LogWrite → WorldState → WorldState
recorded write w = without_places old_places (with_write write w)

-- a moment of a record: the log is being written, or it is written, and the leaves of an older program are being removed
pub data IsRecordMoment (write : LogWrite) (w m : WorldState) : Type 0 where
  Writing : IsWriting write w m → IsRecordMoment write w m
  Removing : (u : WorldState) → seen u ≡ seen (with_write write w) → IsRemoving old_places u m → IsRecordMoment write w m

-- the call that clears a list: that of the units to start is the last, and goes with the log; another gets a block without names
abbrev pub clearing : Which → Change
clearing Starts = Change.Remove log_place
clearing which = Change.Append log_place (block_text (block_of which []))
