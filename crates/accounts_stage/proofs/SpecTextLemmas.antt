-- The texts of accounts that are declared are UTF-8.
use Rattle.std.proofs.Common.{◌≡◌, ℕ, Bool, true, false, cond, List, [], ◌∷◌, ◌++◌, Option, None, Some, IfSome, Ok, refl, subst, ◌∙◌}
use Rattle.std.proofs.lemmas.Bool.{and_from, and_parts}
use Rattle.std.proofs.lemmas.List.Folds.{list_all-append}
use Rattle.std.proofs.lemmas.Str.{IsUtf8-from_is_utf8, is_utf8-from_IsUtf8}
use Rattle.std.specs.List.{list_all}
use Rattle.std.specs.Option.{ok_or}
use Rattle.std.specs.Str.{is_utf8}
use Rattle.json.proofs.Printed.Utf8.{IsUtf8-are_ascii}
use Rattle.serde_json.specs.Data.{Data}
use Rattle.serde_json.specs.Read.{read}
use Rattle.users_spec.specs.declared.group_spec.GroupSpec.{GroupSpec}
use Rattle.users_spec.specs.declared.place.Place.{Place}
use Rattle.users_spec.specs.declared.spec_fault.SpecFault.TheVariants.{Json}
use Rattle.users_spec.specs.declared.user_spec.UserSpec.{UserSpec}
use Rattle.users_spec.specs.Fields.{Read, as_list, as_plain, if_any, needed, or_default, read_each}
use Rattle.users_spec.specs.GroupSpec.{group_after, group_at}
use Rattle.users_spec.specs.Spec.{Accounts, accounts_in, accounts_of, json_of}
use Rattle.users_spec.specs.UserSpec.{empty_home, nologin, user_after, user_at}
use Rattle.users_spec.proofs.AccountReads.{accounts_are_read, group_is_read, user_is_read}
use Rattle.users_spec.proofs.SoundReads.{bound}
use Rattle.accounts_stage.proofs.JsonTextLemmas.{is_data_text, read_texts}
use Rattle.accounts_stage.proofs.MergedRowLemmas.{is_group_spec_text, is_some_text, is_user_spec_text}
use Rattle.accounts_stage.proofs.TextLemmas.{empty_text}
use Rattle.accounts_stage.proofs.FieldTextLemmas.{IsText, IsValue, any_text, default_text, field_text, name_text, names_text, needed_list}

group_text : (place : Place) (earlier : List (List ℕ)) (d : Data) (group : GroupSpec) → IsValue d → group_at place earlier d ≡ Ok group → is_group_spec_text group ≡ true
group_text place earlier d group is h =
    let read = group_is_read place earlier d group h in
    and_from _ _ (name_text _ _ d group.name is read.name) (names_text _ _ d group.members is read.members)

home_text : IsText empty_home
home_text = is_utf8-from_IsUtf8 empty_home (IsUtf8-are_ascii empty_home refl)

shell_text : IsText nologin
shell_text = is_utf8-from_IsUtf8 nologin (IsUtf8-are_ascii nologin refl)

user_text : (place : Place) (earlier : List (List ℕ)) (d : Data) (user : UserSpec) → IsValue d → user_at place earlier d ≡ Ok user → is_user_spec_text user ≡ true
user_text place earlier d user is h =
    let read = user_is_read place earlier d user h in
    let named = read.named in
    and_from _ _
    (and_from _ _ (name_text _ _ d user.name is read.name)
    (and_from _ _ (field_text IsText (or_default [] as_plain) _ _ d user.description (default_text [] empty_text) is named.description)
    (and_from _ _ (field_text IsText (or_default empty_home as_plain) _ _ d user.home (default_text empty_home home_text) is named.home)
    (and_from _ _ (field_text IsText (or_default nologin as_plain) _ _ d user.shell (default_text nologin shell_text) is named.shell) refl))))
    (and_from _ _
    (field_text (λ text. is_some_text text ≡ true) (if_any as_plain) _ _ d user.hashed any_text is named.hashes.hashed)
    (field_text (λ text. is_some_text text ≡ true) (if_any as_plain) _ _ d user.initial any_text is named.hashes.initial))

-- what is read one after another has such texts
module _ {A : Type 0} (p : A → Bool) (reading : List A → Data → Read A) (reads : (before : List A) (d : Data) (x : A) → IsValue d → reading before d ≡ Ok x → p x ≡ true) where
  each_text : (before : List A) (ds : List Data) (xs : List A) → list_all p before ≡ true → list_all is_data_text ds ≡ true → read_each reading before ds ≡ Ok xs → list_all p xs ≡ true
  each_text before [] xs all good h = subst (λ l. list_all p l ≡ true) (let same : before ≡ xs = cc in same) all
  each_text before (d ∷ ds) xs all good h =
      let parts = and_parts (is_data_text d) (list_all is_data_text ds) good in
      let one = bound _ _ _ h in
      each_text (before ++ one.0 ∷ []) ds xs (list_all-append p before (one.0 ∷ []) ∙ and_from _ _ all (and_from _ _ (reads before d one.0 parts.0 one.1) refl)) parts.1 one.2

-- the texts of declared accounts are UTF-8
pub record AreSpecTexts (spec : Accounts) : Type 0 where
  pub groups : list_all is_group_spec_text spec.groups ≡ true
  pub users : list_all is_user_spec_text spec.users ≡ true

accounts_text : (d : Data) (spec : Accounts) → IsValue d → accounts_in d ≡ Ok spec → AreSpecTexts spec
accounts_text d spec is h =
    let read = accounts_are_read d spec h in
    record {
      groups = each_text is_group_spec_text group_after (λ before v x good at. group_text _ _ v x good at) [] read.group_values spec.groups refl
          (field_text (λ ds. list_all is_data_text ds ≡ true) (needed as_list) _ _ d read.group_values needed_list is read.group_list) read.groups;
      users = each_text is_user_spec_text user_after (λ before v x good at. user_text _ _ v x good at) [] read.user_values spec.users refl
          (field_text (λ ds. list_all is_data_text ds ≡ true) (needed as_list) _ _ d read.user_values needed_list is read.user_list) read.users;
    }

json_text : (bytes : List ℕ) (d : Data) → json_of bytes ≡ Ok d → IsValue d
unfolding json_of
json_text bytes d h = by (is_utf8 bytes) refl h
  where
    of_read : (o : Option Data) → IfSome o IsValue → ok_or o Json ≡ Ok d → IsValue d
    of_read None is h = absurd (cc)
    of_read (Some v) is h = subst IsValue (let same : v ≡ d = cc in same) is

    by : (b : Bool) → is_utf8 bytes ≡ b → ok_or (cond b (read bytes) None) Json ≡ Ok d → IsValue d
    by true utf8 h = of_read (read bytes) (read_texts bytes (IsUtf8-from_is_utf8 bytes utf8)) h
    by false utf8 h = absurd (cc)

pub spec_texts : (bytes : List ℕ) (spec : Accounts) → accounts_of bytes ≡ Ok spec → AreSpecTexts spec
spec_texts bytes spec h = let value = bound _ _ _ h in accounts_text value.0 spec (json_text bytes value.0 value.1) value.2
