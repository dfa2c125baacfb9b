use Rattle.std.proofs.Common.{◌≡◌, ◌++◌}
use Rattle.std.specs.List.{filter}
use Rattle.std.specs.Map.{keys_of}
use Rattle.host_trait.specs.World.{is_listed}
use Rattle.host_trait.proofs.leaf_map.list_leaves.Given as goal

-- the paths so far and those that are left are all
abbrev pub invariant-loop-path : goal.invariant-loop-path
invariant-loop-path l =
    l.paths ++ filter (is_listed l.under) l.path-iterator ≡ filter (is_listed l.under) (keys_of l.leaves.entries)
