use Rattle.std.proofs.Common.{◌≡◌, take}
use Rattle.host_trait.proofs.copying.copy_paths.Given as goal

-- the paths so far are copied
abbrev pub invariant-loop-path : goal.invariant-loop-path
invariant-loop-path l = l.copied ≡ take l.path-index l.paths
