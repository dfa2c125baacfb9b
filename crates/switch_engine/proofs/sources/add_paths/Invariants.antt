use Rattle.std.proofs.Common.{◌≡◌, ◌++◌, take}
use Rattle.switch_engine.proofs.sources.add_paths.Given as goal

-- what was there, and the paths so far
abbrev pub invariant-loop-path : goal.invariant-loop-path
invariant-loop-path l = l.places ≡ l.initial.places ++ take l.path-index l.more
