-- Ids of declared accounts: NixOS manual, options `users.users.<name>.uid` and `users.groups.<name>.gid`; ranges as in login.defs(5).
use Rattle.std.specs.Prelude.{ℕ, ◌==◌, ◌&&◌, Bool, true, not, List, [], ◌∷◌, ◌++◌, map, Option, None, Some, if◌then◌else◌}
use Rattle.std.specs.FinMap.{entries, get}
use Rattle.std.specs.List.{list_any, find, filter_map}
use Rattle.std.specs.Option.{option_or}
use Rattle.switch_names.specs.Names.{Name, is_name}
use Rattle.id_memory.specs.Free.{numbers_towards}
use Rattle.host_trait.specs.Ids.{Ids}
use Rattle.users_spec.specs.declared.group_spec.GroupSpec.{GroupSpec}
use Rattle.users_spec.specs.declared.user_spec.UserSpec.{UserSpec}
use Rattle.users_spec.specs.Spec.{Accounts}

-- what is asked for an account: an id of its own, or one of the range for system accounts or for others
pub record Account : Type 0 where
  pub name : Name
  pub wanted : Option ℕ
  pub system : Bool

-- a declared group: its id is that of a system account
abbrev pub group_account : GroupSpec → Account
group_account group = record { name = group.name; wanted = group.gid; system = true }

-- a declared user
abbrev pub user_account : UserSpec → Account
user_account user = record { name = user.name; wanted = user.uid; system = user.system }

-- the declared groups, in the order of declaration
abbrev pub group_accounts : Accounts → List Account
group_accounts spec = map group_account spec.groups

-- the declared users, in the order of declaration
abbrev pub user_accounts : Accounts → List Account
user_accounts spec = map user_account spec.users

-- whether an id is one of these
abbrev pub has_id : List ℕ → ℕ → Bool
has_id used id = list_any (λ other. other == id) used

-- an id that isn't used
abbrev pub unused : List ℕ → Option ℕ → Option ℕ
unused used None = None
unused used (Some id) = if has_id used id then None else Some id

-- whether an id is remembered for another name
abbrev pub of_other : Ids → Name → ℕ → Bool
of_other known name id = list_any (λ entry. not (is_name name entry.0) && (entry.1 == id)) (entries known)

-- the ids among which a free one is sought, in that order
unfoldable pub span : Bool → List ℕ
span system = if system then numbers_towards 999 400 else numbers_towards 1000 29999

-- a free id isn't used and isn't remembered for another name
abbrev pub free_id : Ids → List ℕ → Account → Option ℕ
free_id known used account = find (λ id. not (has_id used id) && not (of_other known account.name id)) (span account.system)

-- the id of an account: that of its row, else the one that is asked for, else the remembered one if it isn't used, else a free one
abbrev pub choose : (Name → Option ℕ) → Ids → List ℕ → Account → Option ℕ
choose rows known used account =
    option_or (rows account.name) (option_or account.wanted (option_or (unused used (get known account.name)) (free_id known used account)))

-- an id, and with it those that follow
abbrev pub while_some : Option ℕ → (ℕ → List ℕ) → List ℕ
while_some None more = []
while_some (Some id) more = id ∷ more id

-- the ids of accounts in order, each used from then on, up to the first account that gets none
abbrev pub give : (Name → Option ℕ) → Ids → List ℕ → List Account → List ℕ
give rows known used [] = []
give rows known used (account ∷ rest) = while_some (choose rows known used account) (λ id. give rows known (used ++ id ∷ []) rest)

-- the ids that are used at first: those of the rows and those that are asked for
abbrev pub used_ids : List ℕ → List Account → List ℕ
used_ids rows accounts = rows ++ filter_map (λ account. account.wanted) accounts

-- the first account without an id
abbrev pub first_without : List Account → List ℕ → Option Name
first_without [] ids = None
first_without (account ∷ rest) [] = Some account.name
first_without (account ∷ rest) (id ∷ ids) = first_without rest ids

-- the id of the account that has this name
abbrev pub id_of : List Account → List ℕ → Name → Option ℕ
id_of [] ids name = None
id_of (account ∷ rest) [] name = None
id_of (account ∷ rest) (id ∷ ids) name = if is_name name account.name then Some id else id_of rest ids name
