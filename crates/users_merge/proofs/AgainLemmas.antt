-- A merge that is made again, where each part stands as it did or is merged.
use Rattle.std.proofs.Common.{◌≡◌, ◌⊎◌, ℕ, ◌&&◌, ◌||◌, ◌++◌, Bool, true, false, not, List, map, Option, None, Some, option_map, is_some, inl, inr, refl, sym, ap, ap₂, ◌∙◌}
use Rattle.std.proofs.Math.Path.{fun_ext}
use Rattle.std.proofs.lemmas.Option.{none-some}
use Rattle.std.specs.FinMap.{get, values}
use Rattle.std.specs.Option.{option_or}
use Rattle.account_text.specs.declared.group.GroupRow.{GroupRow}
use Rattle.account_text.specs.declared.passwd.PasswdRow.{PasswdRow}
use Rattle.account_text.specs.declared.shadow.ShadowRow.{ShadowRow}
use Rattle.host_trait.specs.Ids.{Ids}
use Rattle.switch_names.specs.Names.{Name, has}
use Rattle.switch_names.proofs.Outcomes.{option_or_parts, none_mapped}
use Rattle.users_spec.specs.AccountName.{are_distinct}
use Rattle.users_spec.specs.declared.group_spec.GroupSpec.{GroupSpec}
use Rattle.users_spec.specs.declared.user_spec.UserSpec.{UserSpec}
use Rattle.users_spec.specs.Spec.{Accounts, IsSound, group_names, user_names}
use Rattle.users_merge.specs.Stored.{Merged, Stored, Table, ordered}
use Rattle.users_merge.specs.Account.{first_without, give, group_accounts, id_of, used_ids, user_accounts}
use Rattle.users_merge.specs.Rows.{declared_row, group_row, member_stays, passwd_row, shadow_row}
use Rattle.users_merge.specs.Merge.{IsMerge, fault, gid_of, group_at, group_id, group_ids, group_of, kept, kept_of, passwd_at, shadow_at, user_fault, user_id, user_ids, user_of}
use Rattle.users_merge.specs.IdLaws.{table_gid, table_uid}
use Rattle.users_merge.specs.Law.{IsPartly, Law, again}
use Rattle.users_merge.specs.declared.merge_fault.MergeFault.TheVariants.{NoFreeId}
use Rattle.users_merge.proofs.NameLemmas.{has-append}
use Rattle.users_merge.proofs.NameOrderLemmas.{ordered_has}
use Rattle.users_merge.proofs.OrderedLemmas.{unnamed}
use Rattle.users_merge.proofs.GivenLemmas.{declared_group, declared_user, each_given, give_again, give_kept, group_account_names, names_of, user_account_names, users_given}
use Rattle.users_merge.proofs.SameRowLemmas.{and_self, group_row_again, group_row_same, or_again, or_nothing, passwd_row_again, passwd_row_same, shadow_row_again, stays_both, stays_in_union}

abbrev gids_used : Accounts → Table GroupRow → List ℕ
gids_used spec table = used_ids (map (λ (row : GroupRow). row.gid) (values table)) (group_accounts spec)

abbrev uids_used : Accounts → Table PasswdRow → List ℕ
uids_used spec table = used_ids (map (λ (row : PasswdRow). row.uid) (values table)) (user_accounts spec)

-- names that stand before or with the earlier ones
pub in_union : (all before now : List Name) (name : Name) → all ≡ ordered (before ++ now) → has all name ≡ (has before name || has now name)
in_union all before now name is = ap (λ names. has names name) is ∙ ordered_has (before ++ now) name ∙ has-append before now name

module _ (spec : Accounts) (s t : Stored) (m : Merged) (sound : IsSound spec) (is : IsMerge spec s m) (part : IsPartly s m t) where
  groups_fine : first_without (group_accounts spec) (group_ids spec s) ≡ None
  groups_fine = none_mapped NoFreeId _ (option_or_parts _ _ is.fine).0

  users_fine : user_fault (gid_of spec s) spec.users (user_ids spec s) ≡ None
  users_fine = (option_or_parts (option_map NoFreeId (first_without (group_accounts spec) (group_ids spec s))) _ is.fine).1

  distinct_groups : are_distinct (names_of (group_accounts spec)) ≡ true
  distinct_groups = ap are_distinct (group_account_names spec.groups) ∙ sound.groups

  distinct_users : are_distinct (names_of (user_accounts spec)) ≡ true
  distinct_users = ap are_distinct (user_account_names spec.users) ∙ sound.users

  -- ---- the ids of groups

  gid_remembered : (name : Name) (id : ℕ) → group_id spec s name ≡ Some id → get m.gids name ≡ Some id
  gid_remembered name id found = is.gids name ∙ ap (λ o. option_or o (get s.gids name)) found

  gid_in_row : (name : Name) (id : ℕ) → group_id spec s name ≡ Some id → table_gid m.group name ≡ Some id
  gid_in_row name id found =
      let group = declared_group spec.groups (group_ids spec s) name id found in
      ap (option_map (λ (row : GroupRow). row.gid))
      (is.group name ∙ ap₂ (λ g i. group_row spec s.users g i (has s.groups name) (get s.group name)) group.1 found)

  group_ids_same : group_ids spec t ≡ group_ids spec s
  group_ids_same = elim part.group [
    | inl old ↦
        ap (λ (table : Table GroupRow). give (table_gid table) t.gids (gids_used spec table) (group_accounts spec)) old
        ∙ elim part.gids [
          | inl same ↦ ap (λ (ids : Ids). give (table_gid s.group) ids (gids_used spec s.group) (group_accounts spec)) same
          | inr new ↦
              give_again (table_gid s.group) s.gids t.gids (gids_used spec s.group) (group_accounts spec) groups_fine
              (each_given (λ name id. get t.gids name ≡ Some id) (group_accounts spec) (group_ids spec s) distinct_groups
              (λ name id found. ap (λ (ids : Ids). get ids name) new ∙ gid_remembered name id found))
        ]
    | inr new ↦
        give_kept (table_gid s.group) (table_gid t.group) s.gids t.gids (gids_used spec s.group) (gids_used spec t.group) (group_accounts spec) groups_fine
        (each_given (λ name id. table_gid t.group name ≡ Some id) (group_accounts spec) (group_ids spec s) distinct_groups
        (λ name id found. ap (λ (table : Table GroupRow). table_gid table name) new ∙ gid_in_row name id found))
  ]

  group_id_same : (name : Name) → group_id spec t name ≡ group_id spec s name
  group_id_same name = ap (λ ids. id_of (group_accounts spec) ids name) group_ids_same

  -- ---- the ids of users

  uid_remembered : (name : Name) (id : ℕ) → user_id spec s name ≡ Some id → get m.uids name ≡ Some id
  uid_remembered name id found = is.uids name ∙ ap (λ o. option_or o (get s.uids name)) found

  uid_in_row : (name : Name) (id : ℕ) → user_id spec s name ≡ Some id → table_uid m.passwd name ≡ Some id
  uid_in_row name id found =
      let user = declared_user (gid_of spec s) spec.users (user_ids spec s) name id users_fine found in
      ap (option_map (λ (row : PasswdRow). row.uid))
      (is.passwd name
      ∙ ap₂ (λ u i. passwd_row spec (gid_of spec s) u i (has s.users name) (get s.passwd name)) user.2 found
      ∙ ap (option_map (λ gid. declared_row user.0 id gid)) user.3)

  given_users : first_without (user_accounts spec) (user_ids spec s) ≡ None
  given_users = users_given (gid_of spec s) spec.users (user_ids spec s) users_fine

  user_ids_same : user_ids spec t ≡ user_ids spec s
  user_ids_same = elim part.passwd [
    | inl old ↦
        ap (λ (table : Table PasswdRow). give (table_uid table) t.uids (uids_used spec table) (user_accounts spec)) old
        ∙ elim part.uids [
          | inl same ↦ ap (λ (ids : Ids). give (table_uid s.passwd) ids (uids_used spec s.passwd) (user_accounts spec)) same
          | inr new ↦
              give_again (table_uid s.passwd) s.uids t.uids (uids_used spec s.passwd) (user_accounts spec) given_users
              (each_given (λ name id. get t.uids name ≡ Some id) (user_accounts spec) (user_ids spec s) distinct_users
              (λ name id found. ap (λ (ids : Ids). get ids name) new ∙ uid_remembered name id found))
        ]
    | inr new ↦
        give_kept (table_uid s.passwd) (table_uid t.passwd) s.uids t.uids (uids_used spec s.passwd) (uids_used spec t.passwd) (user_accounts spec) given_users
        (each_given (λ name id. table_uid t.passwd name ≡ Some id) (user_accounts spec) (user_ids spec s) distinct_users
        (λ name id found. ap (λ (table : Table PasswdRow). table_uid table name) new ∙ uid_in_row name id found))
  ]

  user_id_same : (name : Name) → user_id spec t name ≡ user_id spec s name
  user_id_same name = ap (λ ids. id_of (user_accounts spec) ids name) user_ids_same

  -- ---- the names that were declared

  now_users : (name : Name) → has m.users name ≡ has (user_names spec) name
  now_users name = ap (λ names. has names name) is.users ∙ ordered_has (user_names spec) name

  now_groups : (name : Name) → has m.groups name ≡ has (group_names spec) name
  now_groups name = ap (λ names. has names name) is.groups ∙ ordered_has (group_names spec) name

  in_all_users : (name : Name) → has m.all_users name ≡ (has s.users name || has (user_names spec) name)
  in_all_users name = in_union m.all_users s.users m.users name is.all_users ∙ ap (λ b. has s.users name || b) (now_users name)

  in_all_groups : (name : Name) → has m.all_groups name ≡ (has s.groups name || has (group_names spec) name)
  in_all_groups name = in_union m.all_groups s.groups m.groups name is.all_groups ∙ ap (λ b. has s.groups name || b) (now_groups name)

  no_group : (name : Name) → group_of spec name ≡ None → has (group_names spec) name ≡ false
  no_group name none = unnamed (λ (group : GroupSpec). group.name) spec.groups name none

  no_user : (name : Name) → user_of spec name ≡ None → has (user_names spec) name ≡ false
  no_user name none = unnamed (λ (user : UserSpec). user.name) spec.users name none

  abbrev groups_kept : Type 0
  groups_kept = (t.groups ≡ s.groups) ⊎ (t.groups ≡ m.all_groups)

  abbrev users_kept : Type 0
  users_kept = (t.users ≡ s.users) ⊎ (t.users ≡ m.all_users)

  group_was : groups_kept → (name : Name) → group_of spec name ≡ None → has t.groups name ≡ has s.groups name
  group_was (inl same) name none = ap (λ names. has names name) same
  group_was (inr all) name none =
      ap (λ names. has names name) all ∙ in_all_groups name ∙ or_nothing (has s.groups name) (has (group_names spec) name) (no_group name none)

  user_was : users_kept → (name : Name) → user_of spec name ≡ None → has t.users name ≡ has s.users name
  user_was (inl same) name none = ap (λ names. has names name) same
  user_was (inr all) name none =
      ap (λ names. has names name) all ∙ in_all_users name ∙ or_nothing (has s.users name) (has (user_names spec) name) (no_user name none)

  group_is : (name : Name) → group_of spec name ≡ None → (has t.groups name ≡ has s.groups name) ⊎ (has t.groups name ≡ false)
  group_is name none = elim part.groups [
    | inl same ↦ inl (group_was (inl same) name none)
    | inr (inl all) ↦ inl (group_was (inr all) name none)
    | inr (inr now) ↦ inr (ap (λ names. has names name) now.0 ∙ now_groups name ∙ no_group name none)
  ]

  user_is : (name : Name) → user_of spec name ≡ None → (has t.users name ≡ has s.users name) ⊎ (has t.users name ≡ false)
  user_is name none = elim part.users [
    | inl same ↦ inl (user_was (inl same) name none)
    | inr (inl all) ↦ inl (user_was (inr all) name none)
    | inr (inr now) ↦ inr (ap (λ names. has names name) now.0 ∙ now_users name ∙ no_user name none)
  ]

  -- ---- the members that stay

  abbrev test : Name → Bool → Bool
  test name before = spec.mutable && not (has (user_names spec) name) && not before

  stays_same : users_kept → (name : Name) → member_stays spec t.users name ≡ member_stays spec s.users name
  stays_same (inl same) name = ap (λ names. test name (has names name)) same
  stays_same (inr all) name =
      ap (test name) (ap (λ names. has names name) all ∙ in_all_users name)
      ∙ stays_in_union spec.mutable (has (user_names spec) name) (has s.users name)

  stays_less : (name : Name) → (member_stays spec s.users name && member_stays spec t.users name) ≡ member_stays spec s.users name
  stays_less name = elim part.users [
    | inl same ↦ less (inl same)
    | inr (inl all) ↦ less (inr all)
    | inr (inr now) ↦
        ap (λ b. member_stays spec s.users name && test name b) (ap (λ names. has names name) now.0 ∙ now_users name)
        ∙ stays_both spec.mutable (has (user_names spec) name) (has s.users name)
  ]
    where
      less : users_kept → (member_stays spec s.users name && member_stays spec t.users name) ≡ member_stays spec s.users name
      less kept_as = ap (λ b. member_stays spec s.users name && b) (stays_same kept_as name) ∙ and_self (member_stays spec s.users name)

  -- ---- the rows

  group_new : t.group ≡ m.group → (name : Name) → group_at spec t name ≡ group_at spec s name
  group_new new name =
      ap₂ (λ i row. group_row spec t.users (group_of spec name) i (has t.groups name) row)
      (group_id_same name) (ap (λ (table : Table GroupRow). get table name) new ∙ is.group name)
      ∙ group_row_again spec s.users t.users (group_of spec name) (group_id spec s name) (has s.groups name) (has t.groups name) (get s.group name) stays_less (group_is name)

  group_old : t.group ≡ s.group → users_kept → groups_kept → (name : Name) → group_at spec t name ≡ group_at spec s name
  group_old old users groups name =
      ap₂ (λ i row. group_row spec t.users (group_of spec name) i (has t.groups name) row)
      (group_id_same name) (ap (λ (table : Table GroupRow). get table name) old)
      ∙ group_row_same spec s.users t.users (group_of spec name) (group_id spec s name) (has s.groups name) (has t.groups name) (get s.group name) (stays_same users) (group_was groups name)

  group_at_same : (name : Name) → group_at spec t name ≡ group_at spec s name
  group_at_same = elim part.group [
    | inr new ↦ group_new new
    | inl old ↦ elim part.users [
      | inr (inr now) ↦ group_new now.1
      | inr (inl all) ↦ by_groups old (inr all)
      | inl same ↦ by_groups old (inl same)
    ]
  ]
    where
      by_groups : t.group ≡ s.group → users_kept → (name : Name) → group_at spec t name ≡ group_at spec s name
      by_groups old users = elim part.groups [
        | inr (inr now) ↦ group_new now.1
        | inr (inl all) ↦ group_old old users (inr all)
        | inl same ↦ group_old old users (inl same)
      ]

  gid_of_same : gid_of spec t ≡ gid_of spec s
  gid_of_same = fun_ext (λ name. ap (option_map (λ (row : GroupRow). row.gid)) (group_at_same name))

  passwd_parts : (name : Name) (row : Option PasswdRow) → get t.passwd name ≡ row →
      passwd_at spec t name ≡ passwd_row spec (gid_of spec s) (user_of spec name) (user_id spec s name) (has t.users name) row
  passwd_parts name row stands =
      ap (λ (gids : Name → Option ℕ). passwd_row spec gids (user_of spec name) (user_id spec t name) (has t.users name) (get t.passwd name)) gid_of_same
      ∙ ap₂ (λ i r. passwd_row spec (gid_of spec s) (user_of spec name) i (has t.users name) r) (user_id_same name) stands

  passwd_new : t.passwd ≡ m.passwd → (name : Name) → passwd_at spec t name ≡ passwd_at spec s name
  passwd_new new name =
      passwd_parts name (passwd_at spec s name) (ap (λ (table : Table PasswdRow). get table name) new ∙ is.passwd name)
      ∙ passwd_row_again spec (gid_of spec s) (user_of spec name) (user_id spec s name) (has s.users name) (has t.users name) (get s.passwd name) (user_is name)

  passwd_old : t.passwd ≡ s.passwd → users_kept → (name : Name) → passwd_at spec t name ≡ passwd_at spec s name
  passwd_old old users name =
      passwd_parts name (get s.passwd name) (ap (λ (table : Table PasswdRow). get table name) old)
      ∙ passwd_row_same spec (gid_of spec s) (user_of spec name) (user_id spec s name) (has s.users name) (has t.users name) (get s.passwd name) (user_was users name)

  passwd_at_same : (name : Name) → passwd_at spec t name ≡ passwd_at spec s name
  passwd_at_same = elim part.passwd [
    | inr new ↦ passwd_new new
    | inl old ↦ elim part.users [
      | inr (inr now) ↦ passwd_new now.2
      | inr (inl all) ↦ passwd_old old (inr all)
      | inl same ↦ passwd_old old (inl same)
    ]
  ]

  shadow_at_same : (name : Name) → shadow_at spec t name ≡ shadow_at spec s name
  shadow_at_same name =
      ap (λ (row : Option PasswdRow). shadow_row spec (user_of spec name) (is_some row) (get t.shadow name)) (passwd_at_same name)
      ∙ elim part.shadow [
        | inl old ↦ ap (λ (table : Table ShadowRow). shadow_row spec (user_of spec name) (is_some (passwd_at spec s name)) (get table name)) old
        | inr new ↦
            ap (shadow_row spec (user_of spec name) (is_some (passwd_at spec s name))) (ap (λ (table : Table ShadowRow). get table name) new ∙ is.shadow name)
            ∙ shadow_row_again spec (user_of spec name) (is_some (passwd_at spec s name)) (get s.shadow name)
      ]

  -- ---- the rest

  ids_same : (given given_again : Option ℕ) (kept_before later merged : Ids) (name : Name) → given_again ≡ given → (later ≡ kept_before) ⊎ (later ≡ merged) →
      get merged name ≡ option_or given (get kept_before name) → get merged name ≡ option_or given_again (get later name)
  ids_same given given_again kept_before later merged name same (inl old) merge =
      merge ∙ ap₂ (λ one (ids : Ids). option_or one (get ids name)) (sym same) (sym old)
  ids_same given given_again kept_before later merged name same (inr new) merge =
      merge ∙ sym (or_again given (get kept_before name)) ∙ ap₂ option_or (sym same) (sym merge ∙ ap (λ (ids : Ids). get ids name) (sym new))

  fault_same : fault spec t ≡ fault spec s
  fault_same =
      ap₂ option_or (ap (λ ids. option_map NoFreeId (first_without (group_accounts spec) ids)) group_ids_same)
      (ap₂ (λ (gids : Name → Option ℕ) ids. user_fault gids spec.users ids) gid_of_same user_ids_same)

  pub merge_again : IsMerge spec t (again t m)
  merge_again = record {
    fine = fault_same ∙ is.fine;
    group = λ name. is.group name ∙ sym (group_at_same name);
    passwd = λ name. is.passwd name ∙ sym (passwd_at_same name);
    shadow = λ name. is.shadow name ∙ sym (shadow_at_same name);
    gids = λ name. ids_same (group_id spec s name) (group_id spec t name) s.gids t.gids m.gids name (group_id_same name) part.gids (is.gids name);
    uids = λ name. ids_same (user_id spec s name) (user_id spec t name) s.uids t.uids m.uids name (user_id_same name) part.uids (is.uids name);
    users = is.users;
    groups = is.groups;
    all_users = refl;
    all_groups = refl;
  }

  pub kept_again : kept spec t ≡ kept spec s
  kept_again = ap₂ (λ groups users. kept_of false (group_accounts spec) groups ++ kept_of true (user_accounts spec) users) group_ids_same user_ids_same

pub law : Law
law spec s t m sound is part = (merge_again spec s t m sound is part, kept_again spec s t m sound is part)
