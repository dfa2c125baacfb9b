-- Units that wait for the end of a job: systemctl(1), "list-jobs".
use Rattle.std.specs.Prelude.{IsTrue, List}
use Rattle.switch_names.specs.Names.{Name, has}

-- no unit waits that didn't before
abbrev pub StaysWithin : List Name → List Name → Type 0
StaysWithin before now = (unit : Name) → IsTrue (has now unit) → IsTrue (has before unit)
