use Rattle.std.proofs.Common.{◌≡◌, ◌++◌, take}
use Rattle.store_live.proofs.names.push_all.Given as goal

-- the names so far are added
abbrev pub invariant-loop-name : goal.invariant-loop-name
invariant-loop-name l = l.list ≡ l.fn.list ++ take l.name-index l.names
