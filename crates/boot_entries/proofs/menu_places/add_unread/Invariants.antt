use Rattle.std.proofs.Common.{◌≡◌, ◌++◌, false, map}
use Rattle.tree_put.specs.WrittenPlace.{written}
use Rattle.boot_entries.proofs.menu_places.add_unread.Given as goal

-- the places so far and those that are left are all
abbrev pub invariant-loop-at : goal.invariant-loop-at
invariant-loop-at l = l.places ++ map (written false) l.at-iterator ≡ l.fn.places ++ map (written false) l.fn.entries.keys
