use Rattle.std.proofs.Common.{◌≡◌, ◌++◌, Some, map}
use Rattle.std.specs.BTreeMap.{keys}
use Rattle.std.specs.List.{All}
use Rattle.std.specs.Map.{keys_of}
use Rattle.unit_defs.specs.Found.{files_in, unit_of}
use Rattle.unit_defs.proofs.reading.units.units_of.Given as goal

-- the units so far and those that are left are all, and what is left was found
abbrev pub invariant-loop-name : goal.invariant-loop-name
invariant-loop-name l =
    record {
      all : l.units ++ map (unit_of l.found) (keys_of l.name-iterator) ≡ map (unit_of l.found) (keys l.found.units);
      left : All (λ entry. files_in l.found entry.0 ≡ Some entry.1) l.name-iterator;
    }
