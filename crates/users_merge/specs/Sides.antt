-- Groups and users, as a merge leaves them one after the other.
use Rattle.std.specs.Prelude.{◌≡◌, List, None}
use Rattle.std.specs.List.{AllByRecursion}
use Rattle.switch_names.specs.Names.{Name}
use Rattle.account_text.specs.declared.group.GroupRow.{GroupRow}
use Rattle.account_text.specs.declared.passwd.PasswdRow.{PasswdRow}
use Rattle.account_text.specs.Group.{IsSoundGroup, group_name}
use Rattle.account_text.specs.Order.{row_named}
use Rattle.account_text.specs.Passwd.{IsSoundPasswd, passwd_name}
use Rattle.users_spec.specs.Spec.{Accounts}
use Rattle.users_spec.specs.declared.group_spec.GroupSpec.{GroupSpec}
use Rattle.users_spec.specs.declared.user_spec.UserSpec.{UserSpec}
use Rattle.users_merge.specs.Account.{first_without, group_accounts}
use Rattle.users_merge.specs.Given.{IsId, given_accounts, given_ids}
use Rattle.users_merge.specs.Merge.{gid_of, group_at, group_ids, passwd_at, user_fault, user_ids}
use Rattle.users_merge.specs.Stored.{Stored}
use Rattle.users_merge.specs.declared.giving.Given.{Given}

-- each declared group has its id, and each group its row
pub record AreGroups (spec : Accounts) (s : Stored) (given : List (Given GroupSpec)) (rows : List GroupRow) : Type 0 where
  pub fine : first_without (group_accounts spec) (group_ids spec s) ≡ None
  pub accounts : given_accounts given ≡ spec.groups
  pub ids : given_ids given ≡ group_ids spec s
  pub row : (name : Name) → row_named group_name rows name ≡ group_at spec s name
  pub sound : IsSoundGroup rows
  pub bounded : AllByRecursion IsId (given_ids given)

-- each declared user has its id, and each user its row
pub record AreUsers (spec : Accounts) (s : Stored) (given : List (Given UserSpec)) (rows : List PasswdRow) : Type 0 where
  pub fine : user_fault (gid_of spec s) spec.users (user_ids spec s) ≡ None
  pub accounts : given_accounts given ≡ spec.users
  pub ids : given_ids given ≡ user_ids spec s
  pub row : (name : Name) → row_named passwd_name rows name ≡ passwd_at spec s name
  pub sound : IsSoundPasswd rows
  pub bounded : AllByRecursion IsId (given_ids given)
