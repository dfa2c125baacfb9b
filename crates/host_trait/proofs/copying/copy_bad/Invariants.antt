use Rattle.std.proofs.Common.{◌≡◌, take}
use Rattle.host_trait.proofs.copying.copy_bad.Given as goal

-- the units so far are copied
abbrev pub invariant-loop-bad : goal.invariant-loop-bad
invariant-loop-bad l = l.copied ≡ take l.bad-index l.list
