-- Users of a specification: NixOS manual, option `users.users`; passwd(5) and shadow(5).
use Rattle.std.specs.Prelude.{◌≡◌, ◌≤◌, ℕ, Bool, true, false, List, [], map, length, codes, Option, IfSome, Ok}
use Rattle.serde_json.specs.Data.{Data}
use Rattle.serde_json.specs.Find.{as_bool}
use Rattle.switch_names.specs.Ids.{id_max}
use Rattle.users_spec.specs.AccountName.{is_account_name, is_plain}
use Rattle.users_spec.specs.Place.{place_number}
use Rattle.users_spec.specs.Fields.{Read, ◌>>=◌, field, if_any, or_default, left_out, as_id, as_plain, object_at, name_at, once}
use Rattle.users_spec.specs.declared.place.Place.{Place}
use Rattle.users_spec.specs.declared.place.Place.TheVariants.{User}
use Rattle.users_spec.specs.declared.user_spec.UserSpec.{UserSpec}

-- the home of a user who is given none
abbrev pub empty_home : List ℕ
empty_home = codes "/var/empty"

-- the shell of a user who is given none
abbrev pub nologin : List ℕ
nologin = codes "/run/current-system/sw/bin/nologin"

-- a user with these fields
abbrev pub user_with : List ℕ → Option ℕ → List ℕ → Bool → List ℕ → List ℕ → List ℕ → Option (List ℕ) → Option (List ℕ) → UserSpec
user_with name uid group system description home shell hashed initial = record {
  name = name;
  uid = uid;
  group = group;
  system = system;
  description = description;
  home = home;
  shell = shell;
  hashed = hashed;
  initial = initial;
}

-- no password in clear text, and none in a file
unfoldable pub no_clear_password : Place → Data → Read (Unit {0})
no_clear_password place d = do
  _ ← field left_out place (codes "password") d
  _ ← field left_out place (codes "initialPassword") d
  field left_out place (codes "hashedPasswordFile") d

-- the hash of the password and that of the first password
unfoldable pub hashes_at : Place → Data → Read (Option (List ℕ) × Option (List ℕ))
hashes_at place d = do
  hashed ← field (if_any as_plain) place (codes "hashedPassword") d
  initial ← field (if_any as_plain) place (codes "initialHashedPassword") d
  _ ← no_clear_password place d
  Ok (hashed, initial)

-- the description, the home and the shell
unfoldable pub texts_at : Place → Data → Read (List ℕ × List ℕ × List ℕ)
texts_at place d = do
  description ← field (or_default [] as_plain) place (codes "description") d
  home ← field (or_default empty_home as_plain) place (codes "home") d
  shell ← field (or_default nologin as_plain) place (codes "shell") d
  Ok (description, home, shell)

-- the user of this name that a value is, by the keys that follow the name
unfoldable pub user_named : List ℕ → Place → Data → Read UserSpec
user_named name place d = do
  group ← name_at place (codes "group") d
  uid ← field (if_any as_id) place (codes "uid") d
  system ← field (or_default false as_bool) place (codes "isSystemUser") d
  texts ← texts_at place d
  hashes ← hashes_at place d
  Ok (user_with name uid group system texts.0 texts.1 texts.2 hashes.0 hashes.1)

-- the user that a value is at a place, beside the names that stand before it
unfoldable pub user_at : Place → List (List ℕ) → Data → Read UserSpec
user_at place earlier d = do
  _ ← object_at place d
  name ← name_at place (codes "name") d
  _ ← once earlier name
  user_named name place d

-- a user after those that stand before
abbrev pub user_after : List UserSpec → Data → Read UserSpec
user_after before d = user_at (User (place_number (length before))) (map (λ user. user.name) before) d

-- its name and its group are names, its id is an id, and its texts can be fields of a line
pub record IsSoundUser (user : UserSpec) : Type 0 where
  pub name : is_account_name user.name ≡ true
  pub group : is_account_name user.group ≡ true
  pub uid : IfSome user.uid (λ id. id ≤ id_max)
  pub description : is_plain user.description ≡ true
  pub home : is_plain user.home ≡ true
  pub shell : is_plain user.shell ≡ true
  pub hashed : IfSome user.hashed (λ text. is_plain text ≡ true)
  pub initial : IfSome user.initial (λ text. is_plain text ≡ true)
