-- What a merge leaves can be written, and is read back.
use Rattle.std.proofs.Common.{◌≡◌, ℕ, ◌&&◌, Bool, true, false, cond, List, [], ◌∷◌, find, Option, None, Some, IfSome, is_some, option_map, nat_le, refl, sym, ◌∙◌}
use Rattle.std.proofs.lemmas.Bool.{and_parts, leb-true}
use Rattle.std.proofs.lemmas.List.Elements.{recursion_from_All}
use Rattle.std.specs.FinMap.{empty, get, keys}
use Rattle.std.specs.List.{AllByRecursion, list_all}
use Rattle.std.specs.Option.{option_or}
use Rattle.std.specs.Str.{is_utf8}
use Rattle.switch_names.specs.Names.{Name, has, is_name}
use Rattle.switch_names.proofs.Lists.{find_passes}
use Rattle.account_text.specs.declared.group.GroupRow.{GroupRow}
use Rattle.account_text.specs.declared.passwd.PasswdRow.{PasswdRow}
use Rattle.account_text.specs.declared.shadow.ShadowRow.{ShadowRow}
use Rattle.account_text.specs.declared.tables.Tables.{Tables}
use Rattle.switch_names.specs.Ids.{id_max}
use Rattle.account_text.specs.Field.{is_member, is_plain, is_row_name}
use Rattle.account_text.specs.Group.{is_group_row}
use Rattle.account_text.specs.Passwd.{is_passwd_row}
use Rattle.id_memory.specs.Ids.{AreIds}
use Rattle.users_spec.specs.declared.group_spec.GroupSpec.{GroupSpec}
use Rattle.users_spec.specs.declared.user_spec.UserSpec.{UserSpec}
use Rattle.users_spec.specs.GroupSpec as group_spec
use Rattle.users_spec.specs.UserSpec.{IsSoundUser}
use Rattle.users_spec.specs.Spec.{Accounts, IsSound}
use Rattle.users_merge.specs.Account.{Account, group_accounts, id_of, user_accounts}
use Rattle.users_merge.specs.Given.{IsId}
use Rattle.users_merge.specs.Merge.{gid_of, group_at, group_id, group_ids, group_of, passwd_at, shadow_at, user_id, user_ids, user_of}
use Rattle.users_merge.specs.Rows.{declared_row, group_row, passwd_row, shadow_row, stays}
use Rattle.users_merge.specs.Stored.{Stored}
use Rattle.users_merge.specs.declared.declared_names.Declared.{Declared}
use Rattle.users_merge.specs.declared.remembered.Remembered.{Remembered}
use Rattle.users_merge.proofs.BoundLemmas.{give_bounded, or_bounded}
use Rattle.users_merge.proofs.SideLemmas.{groups_asked, users_asked}
use Rattle.accounts_stage.specs.Standing.{is_name_text}
use Rattle.accounts_stage.proofs.MergedRowLemmas.{IsGoodGroup, IsGoodUser, group_row_good, is_group_spec_text, is_user_spec_text, passwd_row_good, shadow_row_good}
use Rattle.accounts_stage.proofs.RowTextLemmas.{group_texts, is_group_text, is_passwd_text, is_shadow_text, passwd_texts}
use Rattle.host_trait.proofs.NameOrder.{name_exact}

-- what is declared is sound, and its texts are UTF-8
pub record IsGoodSpec (spec : Accounts) : Type 0 where
  pub sound : IsSound spec
  pub groups : list_all is_group_spec_text spec.groups ≡ true
  pub users : list_all is_user_spec_text spec.users ≡ true

-- what stands can be written, each row under its name
pub record IsGoodStored (s : Stored) : Type 0 where
  pub group : (name : Name) → IfSome (get s.group name) (λ row. is_group_text row ≡ true)
  pub passwd : (name : Name) → IfSome (get s.passwd name) (λ row. is_passwd_text row ≡ true)
  pub shadow : (name : Name) → IfSome (get s.shadow name) (λ row. is_shadow_text row ≡ true)
  pub group_named : (name : Name) (row : GroupRow) → get s.group name ≡ Some row → row.name ≡ name
  pub passwd_named : (name : Name) (row : PasswdRow) → get s.passwd name ≡ Some row → row.name ≡ name
  pub shadow_named : (name : Name) (row : ShadowRow) → get s.shadow name ≡ Some row → row.name ≡ name
  pub uids : AreIds s.uids
  pub gids : AreIds s.gids
  pub uid_names : list_all is_utf8 (keys s.uids) ≡ true
  pub gid_names : list_all is_utf8 (keys s.gids) ≡ true
  pub users : list_all is_name_text s.users ≡ true
  pub groups : list_all is_name_text s.groups ≡ true

id_of_bounded : (accounts : List Account) (ids : List ℕ) (name : Name) → AllByRecursion IsId ids → IfSome (id_of accounts ids name) IsId
id_of_bounded [] ids name all = tt
id_of_bounded (account ∷ accounts) [] name all = tt
id_of_bounded (account ∷ accounts) (id ∷ ids) name all = by (is_name name account.name) (id_of_bounded accounts ids name all.1)
  where
    by : (b : Bool) → IfSome (id_of accounts ids name) IsId → IfSome (cond b (Some id) (id_of accounts ids name)) IsId
    by true later = all.0
    by false later = later

-- what holds of each of a list holds of the one that is found
found_is : {X : Type 0} (P : X → Type 0) (p : X → Bool) (xs : List X) → AllByRecursion P xs → IfSome (find p xs) P
found_is P p [] all = tt
found_is {X} P p (x ∷ xs) all = by (p x) (found_is P p xs all.1)
  where
    by : (b : Bool) → IfSome (find p xs) P → IfSome (cond b (Some x) (find p xs)) P
    by true later = all.0
    by false later = later

good_groups : (groups : List GroupSpec) → AllByRecursion group_spec.IsSoundGroup groups → list_all is_group_spec_text groups ≡ true → AllByRecursion IsGoodGroup groups
good_groups [] sound texts = tt
good_groups (group ∷ groups) sound texts =
    let parts = and_parts (is_group_spec_text group) (list_all is_group_spec_text groups) texts in (record { sound = sound.0; texts = parts.0 }, good_groups groups sound.1 parts.1)

good_users : (users : List UserSpec) → AllByRecursion IsSoundUser users → list_all is_user_spec_text users ≡ true → AllByRecursion IsGoodUser users
good_users [] sound texts = tt
good_users (user ∷ users) sound texts =
    let parts = and_parts (is_user_spec_text user) (list_all is_user_spec_text users) texts in (record { sound = sound.0; texts = parts.0 }, good_users users sound.1 parts.1)

row_gid : (o : Option GroupRow) → IfSome o (λ row. is_group_text row ≡ true) → IfSome (option_map (λ row. row.gid) o) IsId
row_gid None is = tt
row_gid (Some row) is =
    let both = and_parts (is_group_row row) (list_all is_utf8 (group_texts row)) is in
    leb-true row.gid id_max
    (and_parts (is_row_name row.name && is_plain row.password) (nat_le row.gid id_max)
    (and_parts (is_row_name row.name && is_plain row.password && nat_le row.gid id_max) (list_all is_member row.members) both.0).0).1

row_uid : (o : Option PasswdRow) → IfSome o (λ row. is_passwd_text row ≡ true) → IfSome (option_map (λ row. row.uid) o) IsId
row_uid None is = tt
row_uid (Some row) is =
    let both = and_parts (is_passwd_row row) (list_all is_utf8 (passwd_texts row)) is in
    let p1 = and_parts (is_row_name row.name && is_plain row.password && nat_le row.uid id_max && nat_le row.gid id_max && is_plain row.gecos && is_plain row.home) (is_plain row.shell) both.0 in
    let p2 = and_parts (is_row_name row.name && is_plain row.password && nat_le row.uid id_max && nat_le row.gid id_max && is_plain row.gecos) (is_plain row.home) p1.0 in
    let p3 = and_parts (is_row_name row.name && is_plain row.password && nat_le row.uid id_max && nat_le row.gid id_max) (is_plain row.gecos) p2.0 in
    let p4 = and_parts (is_row_name row.name && is_plain row.password && nat_le row.uid id_max) (nat_le row.gid id_max) p3.0 in
    leb-true row.uid id_max (and_parts (is_row_name row.name && is_plain row.password) (nat_le row.uid id_max) p4.0).1

no_tables : Tables
no_tables = record { group = []; passwd = []; shadow = [] }

no_ids : Remembered
no_ids = record { uids = empty; gids = empty }

no_names : Declared
no_names = record { users = []; groups = [] }

stays_named : {Row : Type 0} (mutable was : Bool) (old : Option Row) (row : Row) → stays mutable was old ≡ Some row → old ≡ Some row
stays_named false was old row is = absurd (cc)
stays_named true true old row is = absurd (cc)
stays_named true false old row is = is

module _ (spec : Accounts) (s : Stored) (good : IsGoodSpec spec) (stored : IsGoodStored s) where
  -- ---- ids

  group_ids_bounded : AllByRecursion IsId (group_ids spec s)
  group_ids_bounded =
      give_bounded (λ name. option_map (λ row. row.gid) (get s.group name)) s.gids (λ name. row_gid (get s.group name) (stored.group name)) stored.gids (group_accounts spec) _
      (groups_asked spec no_tables no_ids no_names spec.groups refl good.sound)

  user_ids_bounded : AllByRecursion IsId (user_ids spec s)
  user_ids_bounded =
      give_bounded (λ name. option_map (λ row. row.uid) (get s.passwd name)) s.uids (λ name. row_uid (get s.passwd name) (stored.passwd name)) stored.uids (user_accounts spec) _
      (users_asked spec no_tables no_ids no_names spec.users refl good.sound)

  group_id_bounded : (name : Name) → IfSome (group_id spec s name) IsId
  group_id_bounded name = id_of_bounded (group_accounts spec) (group_ids spec s) name group_ids_bounded

  user_id_bounded : (name : Name) → IfSome (user_id spec s name) IsId
  user_id_bounded name = id_of_bounded (user_accounts spec) (user_ids spec s) name user_ids_bounded

  pub gids_bounded : (name : Name) → IfSome (option_or (group_id spec s name) (get s.gids name)) IsId
  gids_bounded name = or_bounded (group_id spec s name) (get s.gids name) (group_id_bounded name) (stored.gids name)

  pub uids_bounded : (name : Name) → IfSome (option_or (user_id spec s name) (get s.uids name)) IsId
  uids_bounded name = or_bounded (user_id spec s name) (get s.uids name) (user_id_bounded name) (stored.uids name)

  -- ---- rows

  group_is : (name : Name) → IfSome (group_of spec name) IsGoodGroup
  group_is name = found_is IsGoodGroup (λ group. is_name name group.name) spec.groups (good_groups spec.groups (recursion_from_All group_spec.IsSoundGroup spec.groups good.sound.each_group) good.groups)

  user_is : (name : Name) → IfSome (user_of spec name) IsGoodUser
  user_is name = found_is IsGoodUser (λ user. is_name name user.name) spec.users (good_users spec.users (recursion_from_All IsSoundUser spec.users good.sound.each_user) good.users)

  pub group_good : (name : Name) → IfSome (group_at spec s name) (λ row. is_group_text row ≡ true)
  group_good name = group_row_good spec s.users (group_of spec name) (group_is name) (group_id spec s name) (group_id_bounded name) _ (get s.group name) (stored.group name)

  gid_bounded : (name : Name) → IfSome (gid_of spec s name) IsId
  gid_bounded name = row_gid (group_at spec s name) (group_good name)

  pub passwd_good : (name : Name) → IfSome (passwd_at spec s name) (λ row. is_passwd_text row ≡ true)
  passwd_good name = passwd_row_good spec (gid_of spec s) gid_bounded (user_of spec name) (user_is name) (user_id spec s name) (user_id_bounded name) _ (get s.passwd name) (stored.passwd name)

  pub shadow_good : (name : Name) → IfSome (shadow_at spec s name) (λ row. is_shadow_text row ≡ true)
  shadow_good name = shadow_row_good spec (user_of spec name) (user_is name) (is_some (passwd_at spec s name)) (get s.shadow name) (stored.shadow name)

  -- ---- each under its name

  pub group_named : (name : Name) (row : GroupRow) → group_at spec s name ≡ Some row → row.name ≡ name
  group_named name row is = by (group_of spec name) refl (group_id spec s name) (has s.groups name) is
    where
      by : (o : Option GroupSpec) → group_of spec name ≡ o → (id : Option ℕ) (was : Bool) → group_row spec s.users o id was (get s.group name) ≡ Some row → row.name ≡ name
      by None none id was is = stored.group_named name row (stays_named spec.mutable was (get s.group name) row is)
      by (Some group) some None was is = absurd (cc)
      by (Some group) some (Some id) was is =
          let named : group.name ≡ row.name = cc in sym named ∙ sym (name_exact name group.name (find_passes (λ (g : GroupSpec). is_name name g.name) spec.groups group some))

  pub passwd_named : (name : Name) (row : PasswdRow) → passwd_at spec s name ≡ Some row → row.name ≡ name
  passwd_named name row is = by (user_of spec name) refl (user_id spec s name) (has s.users name) is
    where
      by : (o : Option UserSpec) → user_of spec name ≡ o → (id : Option ℕ) (was : Bool) → passwd_row spec (gid_of spec s) o id was (get s.passwd name) ≡ Some row → row.name ≡ name
      by None none id was is = stored.passwd_named name row (stays_named spec.mutable was (get s.passwd name) row is)
      by (Some user) some None was is = absurd (cc)
      by (Some user) some (Some id) was is = with_gid (gid_of spec s user.group) is
        where
          with_gid : (gid : Option ℕ) → option_map (λ g. declared_row user id g) gid ≡ Some row → row.name ≡ name
          with_gid None is = absurd (cc)
          with_gid (Some gid) is =
              let named : user.name ≡ row.name = cc in sym named ∙ sym (name_exact name user.name (find_passes (λ (u : UserSpec). is_name name u.name) spec.users user some))

  pub shadow_named : (name : Name) (row : ShadowRow) → shadow_at spec s name ≡ Some row → row.name ≡ name
  shadow_named name row is = by (user_of spec name) refl (is_some (passwd_at spec s name)) is
    where
      by : (o : Option UserSpec) → user_of spec name ≡ o → (merged : Bool) → shadow_row spec o merged (get s.shadow name) ≡ Some row → row.name ≡ name
      by o some false is = absurd (cc)
      by None none true is = stored.shadow_named name row is
      by (Some user) some true is =
          let named : user.name ≡ row.name = cc in sym named ∙ sym (name_exact name user.name (find_passes (λ (u : UserSpec). is_name name u.name) spec.users user some))
