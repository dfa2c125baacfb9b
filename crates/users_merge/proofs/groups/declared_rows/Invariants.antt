use Rattle.std.proofs.Common.{◌≡◌, map, take}
use Rattle.users_merge.specs.ByName.{found_in}
use Rattle.users_merge.specs.GroupRows.{given_group}
use Rattle.users_merge.specs.Staying.{stays_by}
use Rattle.users_merge.proofs.groups.declared_rows.Given as goal

-- the groups so far have their rows
abbrev pub invariant-loop-one : goal.invariant-loop-one
invariant-loop-one l = l.rows.items ≡ map (given_group (stays_by l.users) (found_in l.old.rows)) (take l.one-index l.given)
