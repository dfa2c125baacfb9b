use Rattle.std.proofs.Common.{◌≡◌, filter, take}
use Rattle.store_live.specs.Grown.{is_dead_by}
use Rattle.store_live.proofs.reaching.dead_among.Given as goal

-- those so far are added
abbrev pub invariant-loop-path : goal.invariant-loop-path
invariant-loop-path l = l.dead ≡ filter (is_dead_by l.live.keys) (take l.path-index l.stored)
