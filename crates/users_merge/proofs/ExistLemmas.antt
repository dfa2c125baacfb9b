-- There is one merge at most, and one where nothing keeps accounts from being merged.
use Rattle.std.proofs.Common.{◌≡◌, ℕ, ◌||◌, ◌++◌, ◌∷◌, Bool, true, false, cond, List, [], Option, None, Some, option_map, is_some, inl, inr, refl, sym, ap, ap₂, ◌∙◌}
use Rattle.std.proofs.lemmas.Bool.{both_ways, or_parts}
use Rattle.std.specs.FinMap.{FinMap, contains_key-keys, find, get, get-from_entries, keys}
use Rattle.std.specs.List.{cons_option, filter_map}
use Rattle.std.specs.Option.{option_or}
use Rattle.host_trait.specs.Bytes.{bytes_cmp}
use Rattle.host_trait.proofs.Moments.{none_or_some}
use Rattle.host_trait.proofs.Places.{alike, bytes_total}
use Rattle.host_trait.proofs.NameOrder.{name_exact}
use Rattle.account_text.specs.declared.group.GroupRow.{GroupRow}
use Rattle.account_text.specs.declared.passwd.PasswdRow.{PasswdRow}
use Rattle.account_text.specs.declared.shadow.ShadowRow.{ShadowRow}
use Rattle.switch_names.specs.Names.{Name, has, is_name}
use Rattle.users_spec.specs.declared.group_spec.GroupSpec.{GroupSpec}
use Rattle.users_spec.specs.declared.user_spec.UserSpec.{UserSpec}
use Rattle.users_spec.specs.Spec.{Accounts, group_names, user_names}
use Rattle.users_merge.specs.Stored.{Merged, Stored, ordered}
use Rattle.users_merge.specs.Account.{Account, group_accounts, id_of, user_accounts}
use Rattle.users_merge.specs.Rows.{group_row, passwd_row, shadow_row, stays}
use Rattle.users_merge.specs.Merge.{IsMerge, fault, gid_of, group_at, group_id, group_ids, group_of, map_at, merge_of, passwd_at, shadow_at, user_id, user_ids, user_of}
use Rattle.users_merge.proofs.NameLemmas.{has-append}
use Rattle.users_merge.proofs.OrderedLemmas.{not_found}
use Rattle.users_merge.proofs.GivenLemmas.{group_account_names, listed, names_of, user_account_names}

-- ---- one merge

pub one_merge : (spec : Accounts) (s : Stored) (m n : Merged) → IsMerge spec s m → IsMerge spec s n → m ≡ n
one_merge spec s m n is also = λ i. record {
  group = alike m.group n.group (λ name. is.group name ∙ sym (also.group name)) i;
  passwd = alike m.passwd n.passwd (λ name. is.passwd name ∙ sym (also.passwd name)) i;
  shadow = alike m.shadow n.shadow (λ name. is.shadow name ∙ sym (also.shadow name)) i;
  uids = alike m.uids n.uids (λ name. is.uids name ∙ sym (also.uids name)) i;
  gids = alike m.gids n.gids (λ name. is.gids name ∙ sym (also.gids name)) i;
  users = same_users i;
  groups = same_groups i;
  all_users = (is.all_users ∙ ap (λ names. ordered (s.users ++ names)) same_users ∙ sym also.all_users) i;
  all_groups = (is.all_groups ∙ ap (λ names. ordered (s.groups ++ names)) same_groups ∙ sym also.all_groups) i;
}
  where
    same_users : m.users ≡ n.users
    same_users = is.users ∙ sym also.users

    same_groups : m.groups ≡ n.groups
    same_groups = is.groups ∙ sym also.groups

-- ---- a map that has these values at these names

module _ {X : Type 0} (at : Name → Option X) where
  entry : Name → Option (Name × X)
  entry name = option_map (λ x. (name, x)) (at name)

  found_in_made : (names : List Name) (name : Name) → find bytes_cmp name (filter_map entry names) ≡ cond (has names name) (at name) None
  unfolding entry
  found_in_made [] name = refl
  found_in_made (first ∷ rest) name = elim (none_or_some (at first)) [
    | inl none ↦
        ap (λ (o : Option X). find bytes_cmp name (cons_option (option_map (λ x. (first, x)) o) (filter_map entry rest))) none
        ∙ found_in_made rest name
        ∙ nothing (is_name name first) (has rest name) (at name) (λ same. ap at (name_exact name first same) ∙ none)
    | inr some ↦
        ap (λ (o : Option X). find bytes_cmp name (cons_option (option_map (λ x. (first, x)) o) (filter_map entry rest))) some.1
        ∙ ap (cond (is_name name first) (Some some.0)) (found_in_made rest name)
        ∙ something (is_name name first) (has rest name) (at name) some.0 (λ same. ap at (name_exact name first same) ∙ some.1)
  ]
    where
      nothing : (here later : Bool) (o : Option X) → (here ≡ true → o ≡ None) → cond later o None ≡ cond (here || later) o None
      nothing true true o none = refl
      nothing true false o none = sym (none refl)
      nothing false later o none = refl

      something : (here later : Bool) (o : Option X) (x : X) → (here ≡ true → o ≡ Some x) → cond here (Some x) (cond later o None) ≡ cond (here || later) o None
      something true later o x is = sym (is refl)
      something false later o x is = refl

  all_named : (named : Bool) (o : Option X) → (named ≡ false → o ≡ None) → cond named o None ≡ o
  all_named true o none = refl
  all_named false o none = sym (none refl)

  pub get-made : (names : List Name) → ((name : Name) → has names name ≡ false → at name ≡ None) → (name : Name) → get (map_at at names) name ≡ at name
  unfolding entry
  get-made names none name =
      get-from_entries bytes_total (filter_map entry names) name ∙ found_in_made names name ∙ all_named (has names name) (at name) (none name)

-- ---- the maps of a merge

none_at : {X : Type 0} (table : FinMap bytes_cmp X) (name : Name) → has (keys table) name ≡ false → get table name ≡ None
none_at {X} table name absent = elim (none_or_some (get table name)) [
  | inl none ↦ none
  | inr some ↦ absurd (both_ways (has (keys table) name) absent (sym (contains_key-keys table name) ∙ ap is_some some.1))
]

-- a name that isn't among these and those of a map is neither here nor there
apart : {X : Type 0} (names : List Name) (table : FinMap bytes_cmp X) (name : Name) → has (names ++ keys table) name ≡ false → (has names name ≡ false) × (get table name ≡ None)
apart names table name absent =
    let parts = or_parts (has names name) (has (keys table) name) (sym (has-append names (keys table) name) ∙ absent) in
    (parts.0, none_at table name parts.1)

no_id : (accounts : List Account) (ids : List ℕ) (name : Name) → has (names_of accounts) name ≡ false → id_of accounts ids name ≡ None
no_id accounts ids name absent = elim (none_or_some (id_of accounts ids name)) [
  | inl none ↦ none
  | inr some ↦ absurd (both_ways (has (names_of accounts) name) absent (listed accounts ids name some.0 some.1))
]

stays_none : {Row : Type 0} (mutable was_declared : Bool) → stays {Row = Row} mutable was_declared None ≡ None
stays_none false was_declared = refl
stays_none true true = refl
stays_none true false = refl

no_shadow : (spec : Accounts) (merged : Bool) → shadow_row spec None merged None ≡ None
no_shadow spec true = refl
no_shadow spec false = refl

module _ (spec : Accounts) (s : Stored) where
  no_group : (name : Name) → has (group_names spec) name ≡ false → group_of spec name ≡ None
  no_group name absent = not_found (λ (group : GroupSpec). group.name) spec.groups name absent

  no_user : (name : Name) → has (user_names spec) name ≡ false → user_of spec name ≡ None
  no_user name absent = not_found (λ (user : UserSpec). user.name) spec.users name absent

  group_none : (name : Name) → has (group_names spec ++ keys s.group) name ≡ false → group_at spec s name ≡ None
  group_none name absent =
      let parts = apart (group_names spec) s.group name absent in
      ap₂ (λ (group : Option GroupSpec) (row : Option GroupRow). group_row spec s.users group (group_id spec s name) (has s.groups name) row) (no_group name parts.0) parts.1
      ∙ stays_none spec.mutable (has s.groups name)

  passwd_none : (name : Name) → has (user_names spec ++ keys s.passwd) name ≡ false → passwd_at spec s name ≡ None
  passwd_none name absent =
      let parts = apart (user_names spec) s.passwd name absent in
      ap₂ (λ (user : Option UserSpec) (row : Option PasswdRow). passwd_row spec (gid_of spec s) user (user_id spec s name) (has s.users name) row) (no_user name parts.0) parts.1
      ∙ stays_none spec.mutable (has s.users name)

  shadow_none : (name : Name) → has (user_names spec ++ keys s.shadow) name ≡ false → shadow_at spec s name ≡ None
  shadow_none name absent =
      let parts = apart (user_names spec) s.shadow name absent in
      ap₂ (λ (user : Option UserSpec) (row : Option ShadowRow). shadow_row spec user (is_some (passwd_at spec s name)) row) (no_user name parts.0) parts.1
      ∙ no_shadow spec (is_some (passwd_at spec s name))

  gid_at : Name → Option ℕ
  gid_at name = option_or (group_id spec s name) (get s.gids name)

  uid_at : Name → Option ℕ
  uid_at name = option_or (user_id spec s name) (get s.uids name)

  gid_none : (name : Name) → has (group_names spec ++ keys s.gids) name ≡ false → gid_at name ≡ None
  unfolding gid_at
  gid_none name absent =
      let parts = apart (group_names spec) s.gids name absent in
      ap₂ option_or (no_id (group_accounts spec) (group_ids spec s) name (ap (λ names. has names name) (group_account_names spec.groups) ∙ parts.0)) parts.1

  uid_none : (name : Name) → has (user_names spec ++ keys s.uids) name ≡ false → uid_at name ≡ None
  unfolding uid_at
  uid_none name absent =
      let parts = apart (user_names spec) s.uids name absent in
      ap₂ option_or (no_id (user_accounts spec) (user_ids spec s) name (ap (λ names. has names name) (user_account_names spec.users) ∙ parts.0)) parts.1

  is_merge : fault spec s ≡ None → IsMerge spec s (merge_of spec s)
  unfolding merge_of gid_at uid_at
  is_merge fine = record {
    fine = fine;
    group = get-made (group_at spec s) (group_names spec ++ keys s.group) group_none;
    passwd = get-made (passwd_at spec s) (user_names spec ++ keys s.passwd) passwd_none;
    shadow = get-made (shadow_at spec s) (user_names spec ++ keys s.shadow) shadow_none;
    gids = get-made gid_at (group_names spec ++ keys s.gids) gid_none;
    uids = get-made uid_at (user_names spec ++ keys s.uids) uid_none;
    users = refl;
    groups = refl;
    all_users = refl;
    all_groups = refl;
  }

pub some_merge : (spec : Accounts) (s : Stored) → fault spec s ≡ None → IsMerge spec s (merge_of spec s)
some_merge spec s fine = is_merge spec s fine
