use Rattle.std.proofs.Common.{◌≡◌, map, take}
use Rattle.log_text.specs.Lists.{record_order}
use Rattle.owed_lists.specs.Lists.{place_of}
use Rattle.owed_log.proofs.places.old_paths.Given as goal

-- the places so far
abbrev pub invariant-loop-which : goal.invariant-loop-which
invariant-loop-which l = l.paths ≡ map place_of (take l.which-index record_order)
