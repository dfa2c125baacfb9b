use Rattle.std.proofs.Common.{◌≡◌, ◌++◌, take}
use Rattle.store_collect.proofs.planning.add_paths.Given as goal

-- those so far are added
abbrev pub invariant-loop-path : goal.invariant-loop-path
invariant-loop-path l = l.list ≡ l.fn.list ++ take l.path-index l.paths
