use Rattle.std.proofs.Common.{[], take}
use Rattle.store_live.specs.Grown.{AtSome, IsGrown, IsPathOf}
use Rattle.store_live.proofs.places.store_paths.Given as goal

-- those of the places so far are added
abbrev pub invariant-loop-place : goal.invariant-loop-place
invariant-loop-place l = IsGrown [] l.stored.keys (AtSome (take l.place-index l.places) IsPathOf)
