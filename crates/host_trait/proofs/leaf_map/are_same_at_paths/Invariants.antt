use Rattle.std.proofs.Common.{◌↔◌}
use Rattle.std.specs.List.{AllByRecursion}
use Rattle.std.specs.Map.{keys_of}
use Rattle.host_trait.specs.LeafMap.{leaves_of}
use Rattle.host_trait.specs.World.{IsSameAt}
use Rattle.host_trait.proofs.leaf_map.are_same_at_paths.Given as goal

-- all are the same where those that are left are
abbrev pub invariant-loop-path : goal.invariant-loop-path
invariant-loop-path l =
    let IsSame = IsSameAt (leaves_of l.leaves) (leaves_of l.other) in
    AllByRecursion IsSame (keys_of l.other.entries) ↔ AllByRecursion IsSame l.path-iterator
