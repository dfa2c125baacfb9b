-- What holds of the lists at each moment: NixOS manual, "Unit handling".
use Rattle.std.specs.Prelude.{◌≡◌, ◌⊎◌, ◌<◌, ℕ, List, [], length, None}
use Rattle.std.specs.FinMap.{get}
use Rattle.host_trait.specs.Change.{IsMoment, finished}
use Rattle.host_trait.specs.World.{Leaves, WorldState, IsFileAt, seen}
use Rattle.log_text.specs.declared.lists.Lists.{Lists}
use Rattle.log_text.specs.declared.lists.Which.{Which}
use Rattle.log_text.specs.declared.lists.Which.TheVariants.{Starts}
use Rattle.log_text.specs.Lists.{AreInOrder, AreLists, no_lists, with_list}
use Rattle.owed_lists.specs.Lists.{place_of}
use Rattle.owed_log.specs.declared.log_write.LogWrite.{LogWrite}
use Rattle.owed_log.specs.declared.log_write.LogWrite.TheVariants.{Append}
use Rattle.owed_log.specs.declared.standing.LogState.TheVariants.{Absent, Whole}
use Rattle.owed_log.specs.Places.{log_place}
use Rattle.owed_log.specs.Standing.{AreListsAt, IsLogState}
use Rattle.owed_log.specs.Writing.{IsPrepared, IsRecordMoment, clearing, recorded}

-- each world has one set of lists
abbrev pub SomeListsLaw : Type 0
SomeListsLaw = (leaves : Leaves) → (lists : Lists) × AreListsAt leaves lists

abbrev pub OneListsLaw : Type 0
OneListsLaw = (leaves : Leaves) (one other : Lists) → AreListsAt leaves one → AreListsAt leaves other → one ≡ other

-- what is prepared to be appended has bytes, and there is a file to append it to
abbrev pub PreparedLaw : Type 0
PreparedLaw = (leaves : Leaves) (lists : Lists) (text : List ℕ) → IsPrepared leaves lists (Append text) → IsFileAt leaves log_place × (0 < length text)

-- at whatever moment a record is cut, each list is its old or its recorded one, in order
abbrev pub RecordLaw : Type 0
RecordLaw =
    (lists : Lists) (write : LogWrite) (w m : WorldState) (old now : Lists) → AreLists lists → IsPrepared w.leaves lists write → IsRecordMoment write w m →
    AreListsAt w.leaves old → AreListsAt m.leaves now → AreInOrder old lists now

-- a log is absent, or whole
abbrev pub IsTidy : Leaves → Type 0
IsTidy leaves = IsLogState leaves Absent ⊎ ((count : ℕ) × IsLogState leaves (Whole count))

-- no leaf of an older program's lists stands
abbrev pub NoneOld : Leaves → Type 0
NoneOld leaves = (which : Which) → get leaves (place_of which) ≡ None

-- the lists stand in a log that is absent or whole, and nowhere else
pub record AreAlone (leaves : Leaves) (lists : Lists) : Type 0 where
  pub are : AreListsAt leaves lists
  pub tidy : IsTidy leaves
  pub none_old : NoneOld leaves

-- what is recorded stands, in a log that is absent or whole, and nowhere else
abbrev pub RecordedLaw : Type 0
RecordedLaw = (lists : Lists) (write : LogWrite) (w v : WorldState) → AreLists lists → IsPrepared w.leaves lists write → seen v ≡ seen (recorded write w) → AreAlone v.leaves lists

-- where lists stand alone and one of them has names, the log is a file
abbrev pub FileLaw : Type 0
FileLaw = (leaves : Leaves) (lists : Lists) → AreAlone leaves lists → (lists ≡ no_lists → ⊥) → IsFileAt leaves log_place

-- a list can be cleared: that of the units to start where it is the last, and another where the log is a file
abbrev pub CanClear : Which → Leaves → Lists → Type 0
CanClear Starts leaves lists = with_list lists Starts [] ≡ no_lists
CanClear which leaves lists = IsFileAt leaves log_place

-- at whatever moment a list is cleared, the lists are as they were, or that one is empty
abbrev pub ClearLaw : Type 0
ClearLaw =
    (which : Which) (w m : WorldState) (old now : Lists) → AreAlone w.leaves old → CanClear which w.leaves old → IsMoment (clearing which) w m → AreListsAt m.leaves now →
    (now ≡ old) ⊎ (now ≡ with_list old which [])

-- once it is cleared it is empty, and the others stand as they did
abbrev pub ClearedLaw : Type 0
ClearedLaw = (which : Which) (w : WorldState) (old : Lists) → AreAlone w.leaves old → CanClear which w.leaves old → AreAlone (finished (clearing which) w).leaves (with_list old which [])
