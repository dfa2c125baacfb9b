-- The merge of declared accounts with those that stand: NixOS manual, "User Management"; nixpkgs, update-users-groups.pl.
use Rattle.std.specs.Prelude.{◌≡◌, ℕ, ◌==◌, Bool, true, false, not, List, [], ◌∷◌, ◌++◌, map, Option, None, Some, is_some, option_map, if◌then◌else◌}
use Rattle.std.specs.FinMap.{FinMap, from_entries, get, keys, values}
use Rattle.std.specs.List.{filter_map, find}
use Rattle.host_trait.specs.Bytes.{bytes_cmp}
use Rattle.std.specs.Option.{option_or, option_map_or}
use Rattle.switch_names.specs.Names.{Name, has, is_name}
use Rattle.account_text.specs.declared.group.GroupRow.{GroupRow}
use Rattle.account_text.specs.declared.passwd.PasswdRow.{PasswdRow}
use Rattle.account_text.specs.declared.shadow.ShadowRow.{ShadowRow}
use Rattle.users_spec.specs.declared.group_spec.GroupSpec.{GroupSpec}
use Rattle.users_spec.specs.declared.user_spec.UserSpec.{UserSpec}
use Rattle.users_spec.specs.Spec.{Accounts, group_names, user_names}
use Rattle.users_merge.specs.Stored.{Stored, Merged, ordered}
use Rattle.users_merge.specs.Account.{Account, group_accounts, user_accounts, give, used_ids, first_without, id_of}
use Rattle.users_merge.specs.Rows.{group_row, passwd_row, shadow_row}
use Rattle.users_merge.specs.declared.kept.Kept.{Kept}
use Rattle.users_merge.specs.declared.merge_fault.MergeFault.{MergeFault}
use Rattle.users_merge.specs.declared.merge_fault.MergeFault.TheVariants.{NoFreeId, UnknownGroup}

-- the group that is declared under a name
abbrev pub group_of : Accounts → Name → Option GroupSpec
group_of spec name = find (λ group. is_name name group.name) spec.groups

-- the user that is declared under a name
abbrev pub user_of : Accounts → Name → Option UserSpec
user_of spec name = find (λ user. is_name name user.name) spec.users

-- the ids of the declared groups, in the order of declaration
abbrev pub group_ids : Accounts → Stored → List ℕ
group_ids spec s =
    give (λ name. option_map (λ row. row.gid) (get s.group name)) s.gids
    (used_ids (map (λ row. row.gid) (values s.group)) (group_accounts spec)) (group_accounts spec)

-- the ids of the declared users, in the order of declaration
abbrev pub user_ids : Accounts → Stored → List ℕ
user_ids spec s =
    give (λ name. option_map (λ row. row.uid) (get s.passwd name)) s.uids
    (used_ids (map (λ row. row.uid) (values s.passwd)) (user_accounts spec)) (user_accounts spec)

-- the id of the declared group of a name
abbrev pub group_id : Accounts → Stored → Name → Option ℕ
group_id spec s name = id_of (group_accounts spec) (group_ids spec s) name

-- the id of the declared user of a name
abbrev pub user_id : Accounts → Stored → Name → Option ℕ
user_id spec s name = id_of (user_accounts spec) (user_ids spec s) name

-- the row of a group
abbrev pub group_at : Accounts → Stored → Name → Option GroupRow
group_at spec s name = group_row spec s.users (group_of spec name) (group_id spec s name) (has s.groups name) (get s.group name)

-- the id of a group, by its row
abbrev pub gid_of : Accounts → Stored → Name → Option ℕ
gid_of spec s name = option_map (λ row. row.gid) (group_at spec s name)

-- the passwd row of a user
abbrev pub passwd_at : Accounts → Stored → Name → Option PasswdRow
passwd_at spec s name = passwd_row spec (gid_of spec s) (user_of spec name) (user_id spec s name) (has s.users name) (get s.passwd name)

-- the shadow row of a user
abbrev pub shadow_at : Accounts → Stored → Name → Option ShadowRow
shadow_at spec s name = shadow_row spec (user_of spec name) (is_some (passwd_at spec s name)) (get s.shadow name)

-- what keeps users with these ids from being merged: the first that has no id, or whose group isn't there
abbrev pub user_fault : (Name → Option ℕ) → List UserSpec → List ℕ → Option MergeFault
user_fault gids [] ids = None
user_fault gids (user ∷ rest) [] = Some (NoFreeId user.name)
user_fault gids (user ∷ rest) (id ∷ ids) =
    if is_some (gids user.group) then user_fault gids rest ids else Some (UnknownGroup user.name user.group)

-- what keeps accounts from being merged: the first group that has no id, and then what is sought of users
abbrev pub fault : Accounts → Stored → Option MergeFault
fault spec s = option_or (option_map NoFreeId (first_without (group_accounts spec) (group_ids spec s))) (user_fault (gid_of spec s) spec.users (user_ids spec s))

-- declared accounts are merged with what stands
pub record IsMerge (spec : Accounts) (s : Stored) (m : Merged) : Type 0 where
  pub fine : fault spec s ≡ None
  pub group : (name : Name) → get m.group name ≡ group_at spec s name
  pub passwd : (name : Name) → get m.passwd name ≡ passwd_at spec s name
  pub shadow : (name : Name) → get m.shadow name ≡ shadow_at spec s name
  pub gids : (name : Name) → get m.gids name ≡ option_or (group_id spec s name) (get s.gids name)
  pub uids : (name : Name) → get m.uids name ≡ option_or (user_id spec s name) (get s.uids name)
  pub users : m.users ≡ ordered (user_names spec)
  pub groups : m.groups ≡ ordered (group_names spec)
  pub all_users : m.all_users ≡ ordered (s.users ++ m.users)
  pub all_groups : m.all_groups ≡ ordered (s.groups ++ m.groups)

-- the map with these values, of names that have one
abbrev pub map_at : {X : Type 0} → (Name → Option X) → List Name → FinMap bytes_cmp X
map_at at names = from_entries (filter_map (λ name. option_map (λ x. (name, x)) (at name)) names)

-- the merge of declared accounts with what stands, where nothing keeps them from it
unfoldable pub merge_of : Accounts → Stored → Merged
merge_of spec s = record {
  group = map_at (group_at spec s) (group_names spec ++ keys s.group);
  passwd = map_at (passwd_at spec s) (user_names spec ++ keys s.passwd);
  shadow = map_at (shadow_at spec s) (user_names spec ++ keys s.shadow);
  uids = map_at (λ name. option_or (user_id spec s name) (get s.uids name)) (user_names spec ++ keys s.uids);
  gids = map_at (λ name. option_or (group_id spec s name) (get s.gids name)) (group_names spec ++ keys s.gids);
  users = ordered (user_names spec);
  groups = ordered (group_names spec);
  all_users = ordered (s.users ++ ordered (user_names spec));
  all_groups = ordered (s.groups ++ ordered (group_names spec));
}

-- the account keeps an id that isn't the one that is asked for
abbrev pub keeps_other : Account → ℕ → Bool
keeps_other account id = option_map_or (λ wanted. not (wanted == id)) account.wanted false

-- the accounts that keep ids other than those that are asked for, with these ids
abbrev pub kept_of : Bool → List Account → List ℕ → List Kept
kept_of user [] ids = []
kept_of user (account ∷ rest) [] = []
kept_of user (account ∷ rest) (id ∷ ids) =
    if keeps_other account id then record { user = user; name = account.name; id = id } ∷ kept_of user rest ids else kept_of user rest ids

-- the groups, and then the users, that keep other ids, each in the order of declaration
abbrev pub kept : Accounts → Stored → List Kept
kept spec s = kept_of false (group_accounts spec) (group_ids spec s) ++ kept_of true (user_accounts spec) (user_ids spec s)
