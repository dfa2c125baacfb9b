use Rattle.std.proofs.Common.{◌&&◌, Ok, take}
use Rattle.host_trait.specs.Host.{Told}
use Rattle.host_trait.specs.Reading.{IsReading}
use Rattle.switch_names.specs.Names.{has}
use Rattle.unit_defs.specs.Found.{AreFilesAt}
use Rattle.unit_defs.specs.Place.{place_after}
use Rattle.unit_defs.specs.Taken.{NotesLong, is_read}
use Rattle.unit_defs.proofs.reading.read_paths.Given as goal

-- the paths so far are read, what is too long of them is noted, and nothing has changed
abbrev pub invariant-loop-path : goal.invariant-loop-path
invariant-loop-path g l =
    let start = g.T.Tree.host l.fn.host in
    let now = g.T.Tree.host l.host in
    record {
      reads : IsReading {T = Unit {0}} start now (Ok tt);
      read : Told start (λ w. AreFilesAt w.leaves l.front (take l.path-index l.paths) l.found);
      noted : Told start (λ w. NotesLong l.fn.long l.long (λ q. has (take l.path-index l.paths) q && is_read (place_after l.front q)) w.leaves);
    }
