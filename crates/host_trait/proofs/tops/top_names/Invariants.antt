use Rattle.std.specs.List.{list_any}
use Rattle.std.specs.Map.{keys_of}
use Rattle.switch_names.specs.Names.{Name}
use Rattle.host_trait.proofs.FirstNames.{AreAll, is_top}
use Rattle.host_trait.proofs.tops.top_names.Given as goal

-- the names so far and those of the paths that are left are all
abbrev pub invariant-loop-path : goal.invariant-loop-path
invariant-loop-path l = (name : Name) → AreAll name (list_any (is_top name) (keys_of l.leaves.entries)) l.tops.keys l.path-iterator
