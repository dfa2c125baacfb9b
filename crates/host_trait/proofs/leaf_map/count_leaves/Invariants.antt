use Rattle.std.proofs.Common.{◌≡◌, ◌+◌, count_by}
use Rattle.std.specs.Map.{keys_of}
use Rattle.host_trait.proofs.leaf_map.count_leaves.Given as goal
use Rattle.host_trait.specs.World.{is_elsewhere}

-- the leaves so far and those that are left are all
abbrev pub invariant-loop-path : goal.invariant-loop-path
invariant-loop-path l = l.count + count_by is_elsewhere l.path-iterator ≡ count_by is_elsewhere (keys_of l.leaves.entries)
