-- What was written on the way from one world to another: rename(2), unlink(2), write(2).
use Rattle.std.specs.Prelude.{◌≡◌, ◌++◌, Bool, true, List}
use Rattle.host_trait.specs.World.{WorldState}
use Rattle.switch_names.specs.Names.{Name, has}

-- only such places were written
pub record WritesOnly (is_place : Name → Bool) (w v : WorldState) : Type 0 where
  pub places : List Name
  pub written : v.written ≡ w.written ++ places
  pub only : (q : Name) → has places q ≡ true → is_place q ≡ true
