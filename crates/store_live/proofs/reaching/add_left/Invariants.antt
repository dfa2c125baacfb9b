use Rattle.std.proofs.Common.{◌≡◌, ◌||◌, ◌&&◌, not, take}
use Rattle.switch_names.specs.Names.{Name, has}
use Rattle.store_live.proofs.reaching.add_left.Given as goal

-- the names so far are added
abbrev pub invariant-loop-name : goal.invariant-loop-name
invariant-loop-name l = (x : Name) → has l.left.keys x ≡ (has l.fn.left.keys x || (has (take l.name-index l.names) x && not (has l.walked.keys x)))
