use Rattle.std.proofs.Common.{◌≡◌, ◌||◌, filter, take}
use Rattle.switch_names.specs.Names.{Name, has}
use Rattle.users_merge.specs.Staying.{stays_by}
use Rattle.users_merge.proofs.staying.add_staying_members.Given as goal

-- the members so far that stay are added
abbrev pub invariant-loop-member : goal.invariant-loop-member
invariant-loop-member l = (name : Name) → has l.names name ≡ (has l.fn.names name || has (filter (stays_by l.staying) (take l.member-index l.members)) name)
