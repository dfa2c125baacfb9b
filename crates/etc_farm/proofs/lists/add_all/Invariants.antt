use Rattle.std.proofs.Common.{◌≡◌, ◌++◌, take}
use Rattle.etc_farm.proofs.lists.add_all.Given as goal

-- the names so far are added
abbrev pub invariant-loop-name : goal.invariant-loop-name
invariant-loop-name l = l.names ≡ l.fn.names ++ take l.name-index l.more
