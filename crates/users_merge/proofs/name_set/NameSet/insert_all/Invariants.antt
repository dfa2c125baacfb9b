use Rattle.std.proofs.Common.{◌≡◌, ◌||◌, map, take}
use Rattle.switch_names.specs.Names.{Name, has}
use Rattle.users_merge.proofs.name_set.NameSet.insert_all.Given as goal

-- the set has what it had, and the names of the items so far
abbrev pub invariant-loop-item : goal.invariant-loop-item
invariant-loop-item g l = (name : Name) → has l.self name ≡ (has l.fn.self name || has (map g.N.Named.name_of (take l.item-index l.items)) name)
