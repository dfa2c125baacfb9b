-- Who owns a copied file: passwd(5), group(5), and NixOS manual, `environment.etc.<name>.user` and `.uid`.
use Rattle.std.specs.Prelude.{◌≡◌, ℕ, List, codes, Option, None, Some, option_map, if◌then◌else◌, refl}
use Rattle.std.specs.BTreeMap.{BTreeMap}
use Rattle.std.specs.Coded.{Coded, code_by, coded×}
use Rattle.std.specs.FinMap.{from_entries, get}
use Rattle.std.specs.Str.{is_utf8}
use Rattle.switch_names.specs.Names.{Name}
use Rattle.host_trait.specs.Ids.{Ids, ids_code}
use Rattle.account_text.specs.declared.tables.Tables.{Tables}
use Rattle.account_text.specs.Field.{id_of}
use Rattle.account_text.specs.Group.{group_name}
use Rattle.account_text.specs.Order.{row_named}
use Rattle.account_text.specs.Passwd.{passwd_name}
use Rattle.switch_names.specs.Texts.{after_front}

-- the users and the groups that a file can be given to
pub record OwnerIds : Type 0 where
  pub users : Ids
  pub groups : Ids

abbrev pub owners_code : Coded OwnerIds
owners_code = code_by (Ids × Ids) (coded× ids_code ids_code) (λ owners. (owners.users, owners.groups)) (λ parts. record { users = parts.0; groups = parts.1 }) (λ _. refl)

-- the ids that std's ordered map holds
abbrev pub ids_in : BTreeMap (List ℕ) ℕ → Ids
ids_in ids = from_entries ids.entries

-- each name has the id of its first row
abbrev pub AreIdsOf : {Row : Type 0} → (Row → Name) → (Row → ℕ) → List Row → Ids → Type 0
AreIdsOf name_of number_of rows ids = (name : Name) → get ids name ≡ option_map number_of (row_named name_of rows name)

-- the users and groups of the account tables
pub record AreOwnersOf (tables : Tables) (owners : OwnerIds) : Type 0 where
  pub users : AreIdsOf passwd_name (λ row. row.uid) tables.passwd owners.users
  pub groups : AreIdsOf group_name (λ row. row.gid) tables.group owners.groups

-- an owner with an id after a `+`, or the name of an account
abbrev pub owner_in : Ids → List ℕ → Option (List ℕ) → Option ℕ
owner_in ids owner (Some id) = id_of id
owner_in ids owner None = get ids owner

-- the id of an owner, which is a text: the one after a `+`, or that of the account of this name
abbrev pub owner_id : Ids → List ℕ → Option ℕ
owner_id ids owner = if is_utf8 owner then owner_in ids owner (after_front (codes "+") owner) else None
