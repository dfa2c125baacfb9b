use Rattle.std.proofs.Common.{◌≡◌, not, map, filter}
use Rattle.switch_names.specs.Texts.{is_empty}
use Rattle.account_text.proofs.field.read_members.Given as goal

-- the names so far have been looked at
abbrev pub invariant-loop-member : goal.invariant-loop-member
invariant-loop-member l = l.members.items ≡ filter (λ name. not (is_empty name)) (map (λ member. member.now) l.yielded)
