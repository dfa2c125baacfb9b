-- The accounts that a specification declares are sound.
use Rattle.std.proofs.Common.{◌≡◌, ℕ, List, [], map, All, Bool, true, false, Ok, refl}
use Rattle.std.proofs.lemmas.List.Elements.{All-nil}
use Rattle.serde_json.specs.Data.{Data}
use Rattle.switch_names.specs.Names.{has}
use Rattle.users_spec.specs.AccountName.{are_distinct}
use Rattle.users_spec.specs.Fields.{read_each}
use Rattle.users_spec.specs.GroupSpec.{group_at, group_after, IsSoundGroup}
use Rattle.users_spec.specs.UserSpec.{empty_home, nologin, user_at, user_after, IsSoundUser}
use Rattle.users_spec.specs.Spec.{Accounts, accounts_in, accounts_of, IsSound}
use Rattle.users_spec.specs.declared.place.Place.{Place}
use Rattle.users_spec.specs.declared.group_spec.GroupSpec.{GroupSpec}
use Rattle.users_spec.specs.declared.user_spec.UserSpec.{UserSpec}
use Rattle.users_spec.proofs.AccountReads.{group_is_read, user_is_read, accounts_are_read}
use Rattle.users_spec.proofs.SoundReads.{bound, name_is_sound, names_are_sound, once_is_new, id_is_sound, text_is_sound, text_or_is_sound, each_is_sound}

group_is_sound : (place : Place) (earlier : List (List ℕ)) (d : Data) (group : GroupSpec) → group_at place earlier d ≡ Ok group → IsSoundGroup group × (has earlier group.name ≡ false)
group_is_sound place earlier d group h =
    let read = group_is_read place earlier d group h in
    (record { name = name_is_sound _ _ _ _ read.name; gid = id_is_sound _ _ _ _ read.gid; members = names_are_sound _ _ _ _ read.members }, once_is_new _ _ read.new)

user_is_sound : (place : Place) (earlier : List (List ℕ)) (d : Data) (user : UserSpec) → user_at place earlier d ≡ Ok user → IsSoundUser user × (has earlier user.name ≡ false)
user_is_sound place earlier d user h =
    let read = user_is_read place earlier d user h in
    let named = read.named in (
      record {
        name = name_is_sound _ _ _ _ read.name;
        group = name_is_sound _ _ _ _ named.group;
        uid = id_is_sound _ _ _ _ named.uid;
        description = text_or_is_sound [] refl _ _ _ _ named.description;
        home = text_or_is_sound empty_home refl _ _ _ _ named.home;
        shell = text_or_is_sound nologin refl _ _ _ _ named.shell;
        hashed = text_is_sound _ _ _ _ named.hashes.hashed;
        initial = text_is_sound _ _ _ _ named.hashes.initial;
      },
      once_is_new _ _ read.new,
    )

groups_are_sound : (ds : List Data) (groups : List GroupSpec) → read_each group_after [] ds ≡ Ok groups → All IsSoundGroup groups × (are_distinct (map (λ (group : GroupSpec). group.name) groups) ≡ true)
groups_are_sound ds groups h =
    each_is_sound IsSoundGroup (λ (group : GroupSpec). group.name) group_after (λ before d group reads. group_is_sound _ _ d group reads) [] ds groups (All-nil IsSoundGroup) refl h

users_are_sound : (ds : List Data) (users : List UserSpec) → read_each user_after [] ds ≡ Ok users → All IsSoundUser users × (are_distinct (map (λ (user : UserSpec). user.name) users) ≡ true)
users_are_sound ds users h =
    each_is_sound IsSoundUser (λ (user : UserSpec). user.name) user_after (λ before d user reads. user_is_sound _ _ d user reads) [] ds users (All-nil IsSoundUser) refl h

-- lists that were read one after another are sound accounts
pub sound_of_lists : (mutable : Bool) (group_values user_values : List Data) (groups : List GroupSpec) (users : List UserSpec)
    → read_each group_after [] group_values ≡ Ok groups → read_each user_after [] user_values ≡ Ok users → IsSound (record { mutable = mutable; groups = groups; users = users })
sound_of_lists mutable group_values user_values groups users read_groups read_users =
    let of_groups = groups_are_sound group_values groups read_groups in
    let of_users = users_are_sound user_values users read_users in
    record { groups = of_groups.1; users = of_users.1; each_group = of_groups.0; each_user = of_users.0 }

-- the accounts of a value are sound
accounts_are_sound : (d : Data) (accounts : Accounts) → accounts_in d ≡ Ok accounts → IsSound accounts
accounts_are_sound d accounts h =
    let read = accounts_are_read d accounts h in
    sound_of_lists accounts.mutable _ _ _ _ read.groups read.users

-- what a specification declares is sound
pub declared_are_sound : (bytes : List ℕ) (accounts : Accounts) → accounts_of bytes ≡ Ok accounts → IsSound accounts
declared_are_sound bytes accounts h =
    let value = bound _ _ _ h in
    accounts_are_sound value.0 accounts value.2
