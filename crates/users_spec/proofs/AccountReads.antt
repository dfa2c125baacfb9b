-- What the parts of an account were read by.
use Rattle.std.proofs.Common.{◌≡◌, ℕ, List, [], false, Option, Ok, refl, subst}
use Rattle.std.specs.Prelude.{codes}
use Rattle.serde_json.specs.Data.{Data}
use Rattle.serde_json.specs.Find.{as_bool}
use Rattle.users_spec.specs.Fields.{field, needed, if_any, or_default, as_id, as_list, as_plain, name_at, names_at, once, read_each}
use Rattle.users_spec.specs.GroupSpec.{group_at, group_after}
use Rattle.users_spec.specs.UserSpec.{empty_home, nologin, user_with, hashes_at, texts_at, user_named, user_at, user_after}
use Rattle.users_spec.specs.Spec.{Accounts, accounts_in}
use Rattle.users_spec.specs.declared.place.Place.{Place}
use Rattle.users_spec.specs.declared.place.Place.TheVariants.{Top}
use Rattle.users_spec.specs.declared.group_spec.GroupSpec.{GroupSpec}
use Rattle.users_spec.specs.declared.user_spec.UserSpec.{UserSpec}
use Rattle.users_spec.proofs.SoundReads.{bound, same_read}

-- a group is what stands at its keys, and its name is new
pub record IsReadGroup (place : Place) (earlier : List (List ℕ)) (d : Data) (group : GroupSpec) : Type 0 where
  pub name : name_at place (codes "name") d ≡ Ok group.name
  pub new : once earlier group.name ≡ Ok (tt {0})
  pub gid : field (if_any as_id) place (codes "gid") d ≡ Ok group.gid
  pub members : names_at place (codes "members") d ≡ Ok group.members

pub group_is_read : (place : Place) (earlier : List (List ℕ)) (d : Data) (group : GroupSpec) → group_at place earlier d ≡ Ok group → IsReadGroup place earlier d group
unfolding group_at
group_is_read place earlier d group h =
    let object = bound _ _ _ h in
    let name = bound _ _ _ object.2 in
    let new = bound _ _ _ name.2 in
    let gid = bound _ _ _ new.2 in
    let members = bound _ _ _ gid.2 in
    subst (IsReadGroup place earlier d) (same_read _ _ members.2) (record { name = name.1; new = new.1; gid = gid.1; members = members.1 })

-- two hashes are what stands at their keys
pub record AreReadHashes (place : Place) (d : Data) (hashes : Option (List ℕ) × Option (List ℕ)) : Type 0 where
  pub hashed : field (if_any as_plain) place (codes "hashedPassword") d ≡ Ok hashes.0
  pub initial : field (if_any as_plain) place (codes "initialHashedPassword") d ≡ Ok hashes.1

pub hashes_are_read : (place : Place) (d : Data) (hashes : Option (List ℕ) × Option (List ℕ)) → hashes_at place d ≡ Ok hashes → AreReadHashes place d hashes
unfolding hashes_at
hashes_are_read place d hashes h =
    let hashed = bound _ _ _ h in
    let initial = bound _ _ _ hashed.2 in
    let no_clear = bound _ _ _ initial.2 in
    subst (AreReadHashes place d) (same_read _ _ no_clear.2) (record { hashed = hashed.1; initial = initial.1 })

-- three texts are what stands at their keys
pub record AreReadTexts (place : Place) (d : Data) (texts : List ℕ × List ℕ × List ℕ) : Type 0 where
  pub description : field (or_default [] as_plain) place (codes "description") d ≡ Ok texts.0
  pub home : field (or_default empty_home as_plain) place (codes "home") d ≡ Ok texts.1
  pub shell : field (or_default nologin as_plain) place (codes "shell") d ≡ Ok texts.2

pub texts_are_read : (place : Place) (d : Data) (texts : List ℕ × List ℕ × List ℕ) → texts_at place d ≡ Ok texts → AreReadTexts place d texts
unfolding texts_at
texts_are_read place d texts h =
    let description = bound _ _ _ h in
    let home = bound _ _ _ description.2 in
    let shell = bound _ _ _ home.2 in
    subst (AreReadTexts place d) (same_read _ _ shell.2) (record { description = description.1; home = home.1; shell = shell.1 })

-- a user of a name is what stands at the keys that follow the name
pub record IsReadUserNamed (given : List ℕ) (place : Place) (d : Data) (user : UserSpec) : Type 0 where
  pub name : given ≡ user.name
  pub group : name_at place (codes "group") d ≡ Ok user.group
  pub uid : field (if_any as_id) place (codes "uid") d ≡ Ok user.uid
  pub system : field (or_default false as_bool) place (codes "isSystemUser") d ≡ Ok user.system
  pub description : field (or_default [] as_plain) place (codes "description") d ≡ Ok user.description
  pub home : field (or_default empty_home as_plain) place (codes "home") d ≡ Ok user.home
  pub shell : field (or_default nologin as_plain) place (codes "shell") d ≡ Ok user.shell
  pub hashes : AreReadHashes place d (user.hashed, user.initial)

pub named_is_read : (given : List ℕ) (place : Place) (d : Data) (user : UserSpec) → user_named given place d ≡ Ok user → IsReadUserNamed given place d user
unfolding user_named
named_is_read given place d user h =
    let group = bound _ _ _ h in
    let uid = bound _ _ _ group.2 in
    let system = bound _ _ _ uid.2 in
    let texts = bound _ _ _ system.2 in
    let hashes = bound _ _ _ texts.2 in
    let read = texts_are_read place d texts.0 texts.1 in
    let made : UserSpec = user_with given uid.0 group.0 system.0 texts.0.0 texts.0.1 texts.0.2 hashes.0.0 hashes.0.1 in
    subst (IsReadUserNamed given place d) {x = made} (same_read made user hashes.2) (record {
      name = refl;
      group = group.1;
      uid = uid.1;
      system = system.1;
      description = read.description;
      home = read.home;
      shell = read.shell;
      hashes = hashes_are_read place d hashes.0 hashes.1;
    })

-- a user is what stands at its keys, and its name is new
pub record IsReadUser (place : Place) (earlier : List (List ℕ)) (d : Data) (user : UserSpec) : Type 0 where
  pub name : name_at place (codes "name") d ≡ Ok user.name
  pub new : once earlier user.name ≡ Ok (tt {0})
  pub named : IsReadUserNamed user.name place d user

pub user_is_read : (place : Place) (earlier : List (List ℕ)) (d : Data) (user : UserSpec) → user_at place earlier d ≡ Ok user → IsReadUser place earlier d user
unfolding user_at
user_is_read place earlier d user h =
    let object = bound _ _ _ h in
    let name = bound _ _ _ object.2 in
    let new = bound _ _ _ name.2 in
    let named = named_is_read name.0 place d user new.2 in
    let own = subst (λ given. (name_at place (codes "name") d ≡ Ok given) × (once earlier given ≡ Ok (tt {0})) × IsReadUserNamed given place d user)
    named.name (name.1, new.1, named) in
    record { name = own.0; new = own.1; named = own.2 }

-- accounts are what stands at the keys of the top, each of them read beside those before it
pub record AreReadAccounts (d : Data) (accounts : Accounts) : Type 0 where
  pub group_values : List Data
  pub user_values : List Data
  pub mutable : field (needed as_bool) Top (codes "mutableUsers") d ≡ Ok accounts.mutable
  pub group_list : field (needed as_list) Top (codes "groups") d ≡ Ok group_values
  pub user_list : field (needed as_list) Top (codes "users") d ≡ Ok user_values
  pub groups : read_each group_after [] group_values ≡ Ok accounts.groups
  pub users : read_each user_after [] user_values ≡ Ok accounts.users

pub accounts_are_read : (d : Data) (accounts : Accounts) → accounts_in d ≡ Ok accounts → AreReadAccounts d accounts
unfolding accounts_in
accounts_are_read d accounts h =
    let object = bound _ _ _ h in
    let mutable = bound _ _ _ object.2 in
    let group_values = bound _ _ _ mutable.2 in
    let user_values = bound _ _ _ group_values.2 in
    let groups = bound _ _ _ user_values.2 in
    let users = bound _ _ _ groups.2 in
    subst (AreReadAccounts d) (same_read _ _ users.2) (record {
      group_values = group_values.0;
      user_values = user_values.0;
      mutable = mutable.1;
      group_list = group_values.1;
      user_list = user_values.1;
      groups = groups.1;
      users = users.1;
    })
