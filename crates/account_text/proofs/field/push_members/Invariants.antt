use Rattle.std.proofs.Common.{◌≡◌, ◌++◌, ◌∷◌, take, string_bytes}
use Rattle.std.specs.List.{flat_map}
use Rattle.account_text.proofs.field.push_members.Given as goal

-- the members so far are added
abbrev pub invariant-loop-member : goal.invariant-loop-member
invariant-loop-member l = string_bytes l.field ≡ string_bytes l.fn.field ++ flat_map (λ member. 44 ∷ member) (take l.member-index l.members)
