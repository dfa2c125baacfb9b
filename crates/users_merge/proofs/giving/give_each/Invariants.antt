use Rattle.std.proofs.Common.{◌≡◌, ◌++◌, List, ℕ, drop, length, map, option_map, take}
use Rattle.id_memory.specs.Ids.{rows_of}
use Rattle.id_memory.specs.declared.id_row.IdRow.{IdRow}
use Rattle.switch_names.specs.Names.{Name}
use Rattle.users_merge.specs.Account.{give}
use Rattle.users_merge.specs.ByName.{found_in}
use Rattle.users_merge.specs.Given.{given_accounts, given_ids}
use Rattle.users_merge.specs.Taken.{AreTaken}
use Rattle.users_merge.proofs.giving.give_each.Given as goal

-- the ids so far are used, and with those that follow they are all
abbrev pub invariant-loop-account : goal.invariant-loop-account
invariant-loop-account g l =
    let asked = g.D.Declaration.asked in
    let rows = λ (name : Name). option_map g.R.Numbered.id_of (found_in l.rows.rows name) in
    let known = map (λ (row : IdRow). row.id) (rows_of l.known) in
    let ids = given_ids l.given.items in
    record {
      size : length l.given.items ≡ l.account-index;
      accounts : given_accounts l.given.items ≡ take l.account-index l.accounts;
      taken : (used : List ℕ) → AreTaken used known l.fn.taken → AreTaken (used ++ ids) known l.taken;
      ids : (used : List ℕ) → AreTaken used known l.fn.taken → ids ++ give rows l.known (used ++ ids) (map asked (drop l.account-index l.accounts)) ≡ give rows l.known used (map asked l.accounts);
    }
