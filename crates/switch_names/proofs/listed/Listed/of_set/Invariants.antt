use Rattle.std.proofs.Common.{◌≡◌, ◌++◌}
use Rattle.switch_names.proofs.listed.Listed.of_set.Given as goal

-- the items so far and those that are left are all
abbrev pub invariant-loop-item : goal.invariant-loop-item
invariant-loop-item g l = l.list ++ l.item-iterator ≡ l.fn.set.keys
