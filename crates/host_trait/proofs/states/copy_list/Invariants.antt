use Rattle.std.proofs.Common.{◌≡◌, take}
use Rattle.host_trait.proofs.states.copy_list.Given as goal

-- the units so far are copied
abbrev pub invariant-loop-one : goal.invariant-loop-one
invariant-loop-one l = l.copied.items ≡ take l.one-index l.list
