use Rattle.std.proofs.Common.{◌≡◌, ◌||◌, take}
use Rattle.switch_names.specs.Names.{Name, has}
use Rattle.store_live.proofs.names.add_all.Given as goal

-- the names so far are added
abbrev pub invariant-loop-name : goal.invariant-loop-name
invariant-loop-name l = (x : Name) → has l.set.keys x ≡ (has l.fn.set.keys x || has (take l.name-index l.names) x)
