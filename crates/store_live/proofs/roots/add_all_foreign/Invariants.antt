use Rattle.std.proofs.Common.{take}
use Rattle.store_live.specs.Grown.{AtSome, IsForeign, IsGrown}
use Rattle.store_live.proofs.roots.add_all_foreign.Given as goal

-- those so far are added
abbrev pub invariant-loop-path : goal.invariant-loop-path
invariant-loop-path l = IsGrown l.fn.roots.keys l.roots.keys (AtSome (take l.path-index l.stored) IsForeign)
