use Rattle.std.proofs.Common.{ℕ, List, ◌++◌, map, take}
use Rattle.users_merge.specs.Taken.{AreTaken, wanted_ids}
use Rattle.users_merge.proofs.taken.Taken.take_all_wanted.Given as goal

-- the ids that the accounts so far ask for are used
abbrev pub invariant-loop-account : goal.invariant-loop-account
invariant-loop-account g l =
    (used known : List ℕ) → AreTaken used known l.fn.self → AreTaken (used ++ wanted_ids (map g.D.Declaration.asked (take l.account-index l.accounts))) known l.self
