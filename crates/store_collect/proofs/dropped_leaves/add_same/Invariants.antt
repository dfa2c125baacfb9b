use Rattle.std.proofs.Common.{◌≡◌, ◌++◌, filter, take}
use Rattle.host_trait.specs.World.{is_path}
use Rattle.store_collect.proofs.dropped_leaves.add_same.Given as goal

-- those so far are added
abbrev pub invariant-loop-path : goal.invariant-loop-path
invariant-loop-path l = l.leaves ≡ l.fn.leaves ++ filter (λ q. is_path q l.at) (take l.path-index l.paths)
