-- What is to go wrong on a host: a cut that is armed, and the calls that are listed. And how many calls it has had.
use Rattle.std.specs.Prelude.{◌≡◌, ◌≤◌, ℕ, ◌+◌, ◌==◌, ◌&&◌, ◌||◌, Bool, true, false, List, [], Option, None, Some, is_none, if◌then◌else◌}
use Rattle.host_memory.specs.declared.cuts.ArmedCut.{ArmedCut}
use Rattle.host_memory.specs.Failures.{counted, is_listed}

pub record TroublesState : Type 0 where
  -- the cut that is armed, or that has fallen
  pub cut : Option ArmedCut
  -- the numbers of the calls that are to fail
  pub failing : List ℕ
  -- the number of the next call
  pub next : ℕ
  -- how many calls have failed
  pub faults : ℕ
  -- how many calls there have been
  pub calls : ℕ
  -- how many changing calls have finished
  pub changes : ℕ

-- a cut once it has fallen
abbrev pub fallen : ArmedCut → ArmedCut
fallen cut = record cut { has_fallen = true }

-- whether a list has no number
abbrev pub is_empty : List ℕ → Bool
is_empty [] = true
is_empty numbers = false

-- nothing goes wrong where nothing is armed and no failure is listed
abbrev pub is_sure : TroublesState → Bool
is_sure troubles = is_none troubles.cut && is_empty troubles.failing

-- the time that the clock never passes
abbrev pub last_moment : Option ArmedCut → Option ℕ
last_moment None = None
last_moment (Some cut) = Some (cut.from + cut.after + 1)

-- whether the cut has fallen
abbrev pub has_fallen : Option ArmedCut → Bool
has_fallen None = false
has_fallen (Some cut) = cut.has_fallen

-- a cut armed at a time, to fall on the next changing call after so many more; one that has fallen stays so
abbrev pub armed : Option ArmedCut → ℕ → ℕ → ℕ → ArmedCut
armed cut clock after pick = record { from = clock; after = after; pick = pick; has_fallen = has_fallen cut }

-- a call is refused where it is listed, and once the cut has fallen
abbrev pub is_refused : TroublesState → Bool
is_refused troubles = is_listed troubles.failing troubles.next || has_fallen troubles.cut

-- the cut that falls on the next changing call
abbrev pub due : Option ArmedCut → ℕ → Option ArmedCut
due None clock = None
due (Some cut) clock = if cut.from + cut.after == clock then Some cut else None

-- after a call that wasn't refused
abbrev pub admitted : TroublesState → TroublesState
admitted troubles = record troubles { next = counted troubles.next; calls = counted troubles.calls }

-- after a call that was refused
abbrev pub refused : TroublesState → TroublesState
refused troubles = record troubles { next = counted troubles.next; faults = counted troubles.faults; calls = counted troubles.calls }

-- after a changing call that finished
abbrev pub changed : TroublesState → TroublesState
changed troubles = record troubles { changes = counted troubles.changes }

-- the clock is where this cut lets it be: past the last call before it only once it has fallen
pub record IsWithin (cut : ArmedCut) (clock : ℕ) : Type 0 where
  pub begun : cut.from ≤ clock
  pub ends : clock ≤ cut.from + cut.after + 1
  pub before : cut.has_fallen ≡ false → clock ≤ cut.from + cut.after
