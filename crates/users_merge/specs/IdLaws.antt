-- What is promised of the ids of merged accounts: NixOS manual, options `users.users.<name>.uid` and `users.groups.<name>.gid`.
use Rattle.std.specs.Prelude.{◌≡◌, ◌≢◌, ℕ, List, find, Option, None, Some, option_map}
use Rattle.std.specs.FinMap.{get}
use Rattle.account_text.specs.declared.group.GroupRow.{GroupRow}
use Rattle.account_text.specs.declared.passwd.PasswdRow.{PasswdRow}
use Rattle.host_trait.specs.Ids.{Ids}
use Rattle.switch_names.specs.Names.{Name, is_name}
use Rattle.users_spec.specs.Spec.{Accounts}
use Rattle.users_merge.specs.Stored.{Merged, Stored, Table}
use Rattle.users_merge.specs.Account.{Account, group_accounts, user_accounts}
use Rattle.users_merge.specs.Merge.{IsMerge}

-- the id that a table of groups has for a name
abbrev pub table_gid : Table GroupRow → Name → Option ℕ
table_gid table name = option_map (λ row. row.gid) (get table name)

-- the id that a table of users has for a name
abbrev pub table_uid : Table PasswdRow → Name → Option ℕ
table_uid table name = option_map (λ row. row.uid) (get table name)

-- the account that is declared under a name
abbrev pub account_of : List Account → Name → Option Account
account_of accounts name = find (λ account. is_name name account.name) accounts

-- a declared account that had no row, and for which no id is asked
pub record IsNew (accounts : List Account) (before : Name → Option ℕ) (name : Name) : Type 0 where
  pub account : Account
  pub declared : account_of accounts name ≡ Some account
  pub unasked : account.wanted ≡ None
  pub no_row : before name ≡ None

-- no account changes its id, a new one shares its id with no other, and one that never had any has none that is remembered for another
pub record AreSafe (accounts : List Account) (known : Ids) (before after : Name → Option ℕ) : Type 0 where
  pub stay : (name : Name) (was id : ℕ) → before name ≡ Some was → after name ≡ Some id → id ≡ was
  pub own : (name other : Name) (id : ℕ) → IsNew accounts before name → after name ≡ Some id → after other ≡ Some id → name ≡ other
  pub free : (name other : Name) (id : ℕ) → IsNew accounts before name → get known name ≡ None → after name ≡ Some id → get known other ≢ Some id

-- the ids of a merge are safe
abbrev pub IdsLaw : Type 0
IdsLaw =
    (spec : Accounts) (s : Stored) (m : Merged) → IsMerge spec s m →
    AreSafe (group_accounts spec) s.gids (table_gid s.group) (table_gid m.group) × AreSafe (user_accounts spec) s.uids (table_uid s.passwd) (table_uid m.passwd)
