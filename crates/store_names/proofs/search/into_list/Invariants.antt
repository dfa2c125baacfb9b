use Rattle.std.proofs.Common.{◌≡◌, ◌++◌}
use Rattle.store_names.proofs.search.into_list.Given as goal

-- the names so far and those that are left are all
abbrev pub invariant-loop-name : goal.invariant-loop-name
invariant-loop-name l = l.names ++ l.name-iterator ≡ l.fn.set.keys
