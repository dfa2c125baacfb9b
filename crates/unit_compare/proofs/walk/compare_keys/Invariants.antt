use Rattle.std.proofs.Common.{◌≡◌, take}
use Rattle.unit_compare.proofs.Differing.{made_of}
use Rattle.unit_compare.proofs.walk.compare_keys.Given as goal

-- the outcome so far is that of the keys so far
abbrev pub invariant-loop-key : goal.invariant-loop-key
invariant-loop-key l = l.outcome ≡ made_of l.kind l.old l.new (take l.key-index l.keys)
