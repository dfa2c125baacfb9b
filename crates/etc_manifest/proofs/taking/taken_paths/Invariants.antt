use Rattle.std.proofs.Common.{◌≡◌, filter, map, take}
use Rattle.switch_names.specs.Names.{has}
use Rattle.etc_manifest.specs.Place.{path_in}
use Rattle.etc_manifest.specs.Taken.{is_taken}
use Rattle.etc_manifest.proofs.taking.taken_paths.Given as goal

-- the places are those of the names so far
abbrev pub invariant-loop-name : goal.invariant-loop-name
invariant-loop-name l = l.places ≡ map (path_in l.folder) (filter (is_taken (has l.names)) (take l.name-index l.names))
