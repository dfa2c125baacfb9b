use Rattle.std.proofs.Common.{◌≡◌, ◌∷◌, ◌++◌, true, map, take}
use Rattle.log_text.specs.Lists.{record_order}
use Rattle.owed_lists.specs.Lists.{place_of}
use Rattle.owed_log.specs.Places.{log_place}
use Rattle.tree_put.specs.WrittenPlace.{written}
use Rattle.unit_stage.proofs.places.add_lists.Given as goal

-- the log, and the lists so far
abbrev pub invariant-loop-which : goal.invariant-loop-which
invariant-loop-which l = l.places ≡ l.fn.places ++ map (written true) (log_place ∷ map place_of (take l.which-index record_order))
