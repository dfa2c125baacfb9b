use Rattle.std.proofs.Common.{◌≡◌, None, take}
use Rattle.std.specs.List.{filter_map}
use Rattle.users_merge.specs.Given.{given_accounts, given_ids}
use Rattle.users_merge.specs.Merge.{user_fault}
use Rattle.users_merge.specs.UserRows.{gid_in, given_row}
use Rattle.users_merge.proofs.users.declared_rows.Given as goal

-- the users so far have their rows, and nothing is the matter with them
abbrev pub invariant-loop-one : goal.invariant-loop-one
invariant-loop-one l = record {
  rows : l.rows.items ≡ filter_map (given_row (gid_in l.groups.rows)) (take l.one-index l.given);
  fine : user_fault (gid_in l.groups.rows) (given_accounts (take l.one-index l.given)) (given_ids (take l.one-index l.given)) ≡ None;
}
