use Rattle.std.proofs.Common.{◌≡◌, ◌++◌, map, take}
use Rattle.users_merge.specs.Given.{given_accounts, given_ids}
use Rattle.users_merge.specs.Merge.{kept_of}
use Rattle.users_merge.proofs.keeping.add_kept.Given as goal

-- those of the accounts so far are added
abbrev pub invariant-loop-one : goal.invariant-loop-one
invariant-loop-one g l =
    l.kept ≡ l.fn.kept ++ kept_of l.user (map g.D.Declaration.asked (given_accounts (take l.one-index l.given))) (given_ids (take l.one-index l.given))
