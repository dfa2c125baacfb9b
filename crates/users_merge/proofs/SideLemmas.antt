-- Groups and users as a merge leaves them.
use Rattle.std.proofs.Common.{◌≡◌, ℕ, ◌&&◌, Bool, true, false, cond, List, [], ◌∷◌, ◌++◌, length, take, map, Option, None, Some, IfSome, option_map, nat_le, refl, sym, ap, subst, ◌∙◌}
use Rattle.std.proofs.Math.Path.{fun_ext}
use Rattle.std.proofs.lemmas.Bool.{and_parts, leb-true}
use Rattle.std.proofs.lemmas.List.{length-map}
use Rattle.std.proofs.lemmas.List.Elements.{recursion_from_All}
use Rattle.std.specs.FinMap.{get}
use Rattle.std.specs.List.{AllByRecursion, filter_map, list_all}
use Rattle.std.specs.Option.{option_and_then, option_or}
use Rattle.switch_names.specs.Names.{Name, is_name}
use Rattle.account_text.specs.declared.group.GroupRow.{GroupRow}
use Rattle.account_text.specs.declared.passwd.PasswdRow.{PasswdRow}
use Rattle.account_text.specs.declared.tables.Tables.{Tables}
use Rattle.switch_names.specs.Ids.{id_max}
use Rattle.account_text.specs.Field.{is_plain, is_row_name, is_member}
use Rattle.account_text.specs.Group.{IsSoundGroup, group_name, is_group_row}
use Rattle.account_text.specs.Order.{IsInOrder, group_key, passwd_key, row_named}
use Rattle.account_text.specs.Passwd.{IsSoundPasswd, is_passwd_row, passwd_name}
use Rattle.account_text.specs.Shadow.{IsSoundShadow, is_shadow_row, shadow_name}
use Rattle.account_text.specs.Table.{are_distinct}
use Rattle.account_text.proofs.OrderLemmas.{all_moved, distinct_moved}
use Rattle.std.proofs.lemmas.List.Sorted.{IsPermutation-map}
use Rattle.users_spec.specs.GroupSpec as group_spec
use Rattle.users_spec.specs.UserSpec.{IsSoundUser}
use Rattle.users_spec.specs.Spec.{Accounts, IsSound, group_names, user_names}
use Rattle.users_spec.specs.declared.group_spec.GroupSpec.{GroupSpec}
use Rattle.users_spec.specs.declared.user_spec.UserSpec.{UserSpec}
use Rattle.users_merge.specs.Account.{Account, first_without, give, group_account, group_accounts, id_of, used_ids, user_account, user_accounts}
use Rattle.users_merge.specs.ByName.{row_ids}
use Rattle.users_merge.specs.Given.{IsId, given_accounts, given_ids}
use Rattle.users_merge.specs.GroupRows.{merged_groups}
use Rattle.users_merge.specs.Merge.{IsMerge, gid_of, group_ids, passwd_at, user_fault, user_ids}
use Rattle.users_merge.specs.Order.{AreInOrder, passwd_rows}
use Rattle.users_merge.specs.ShadowRows.{merged_shadow}
use Rattle.users_merge.specs.Sides.{AreGroups, AreUsers}
use Rattle.users_merge.specs.Staying.{undeclared}
use Rattle.users_merge.specs.Stored.{Stored, merged_of, ordered, stored_of, table_of}
use Rattle.users_merge.specs.UserRows.{gid_named, merged_users}
use Rattle.users_merge.specs.declared.declared_names.Declared.{Declared}
use Rattle.users_merge.specs.declared.giving.Given.{Given}
use Rattle.users_merge.specs.declared.merge_fault.MergeFault.{MergeFault}
use Rattle.users_merge.specs.declared.merge_fault.MergeFault.TheVariants.{NoFreeId}
use Rattle.users_merge.specs.declared.merged.Merged as answered
use Rattle.users_merge.specs.declared.remembered.Remembered.{Remembered}
use Rattle.users_merge.proofs.FaultLemmas.{early_fault, late_fault}
use Rattle.users_merge.proofs.GroupLemmas.{group_found, groups_distinct}
use Rattle.users_merge.proofs.RowOrderLemmas.{ids_from_table, is_in_order}
use Rattle.users_merge.proofs.RowSoundLemmas.{groups_sound, named_all, shadow_sound, users_sound}
use Rattle.users_merge.proofs.ShadowLemmas.{beside, beside_name, each_found, filter_map_alike, made_distinct, made_found, shadow_found}
use Rattle.users_merge.proofs.TableLemmas.{in_table, same_distinct}
use Rattle.users_merge.proofs.UserLemmas.{passwd_found, users_distinct}

all_sound : {X : Type 0} {P Q : X → Type 0} (xs : List X) → ((x : X) → P x → Q x) → AllByRecursion P xs → AllByRecursion Q xs
all_sound [] f all = tt
all_sound (x ∷ xs) f all = (f x all.0, all_sound xs f all.1)

all_asked : {D : Type 0} (asked : D → Account) (xs : List D) → AllByRecursion (λ x. IfSome (asked x).wanted IsId) xs → AllByRecursion (λ account. IfSome account.wanted IsId) (map asked xs)
all_asked asked [] all = tt
all_asked asked (x ∷ xs) all = (all.0, all_asked asked xs all.1)

named_user : (users : List UserSpec) → AllByRecursion IsSoundUser users → (name : Name) → IfSome (row_named (λ user. user.name) users name) IsSoundUser
named_user [] all name = tt
named_user (user ∷ users) all name = by (is_name name user.name) (named_user users all.1 name)
  where
    by : (b : Bool) → IfSome (row_named (λ u. u.name) users name) IsSoundUser → IfSome (cond b (Some user) (row_named (λ u. u.name) users name)) IsSoundUser
    by true later = all.0
    by false later = later

module _ (spec : Accounts) (tables : Tables) (remembered : Remembered) (declared : Declared) where
  abbrev now : Stored
  now = stored_of tables remembered declared

  -- ---- groups

  pub group_ids_are :
      (ids : List ℕ) (accounts : List GroupSpec) (table : List GroupRow) → accounts ≡ spec.groups → table ≡ tables.group → IsSoundGroup tables.group →
      ids ≡ give (row_ids group_name (λ row. row.gid) table) remembered.gids (used_ids (map (λ row. row.gid) table) (map group_account accounts)) (map group_account accounts) → ids ≡ group_ids spec now
  group_ids_are ids accounts table are is sound given =
      given
      ∙ (λ i. give (row_ids group_name (λ row. row.gid) (is i)) remembered.gids (used_ids (map (λ (row : GroupRow). row.gid) (is i)) (map group_account (are i))) (map group_account (are i)))
      ∙ ids_from_table group_name (λ row. row.gid) tables.group remembered.gids (group_accounts spec) sound.names

  group_bound : (name : Name) (o : Option GroupRow) → IfSome o (λ row. is_group_row row ≡ true) → IfSome (option_map (λ row. row.gid) o) IsId
  group_bound name None is = tt
  group_bound name (Some row) is =
      leb-true row.gid id_max
      (and_parts (is_row_name row.name && is_plain row.password) (nat_le row.gid id_max)
      (and_parts (is_row_name row.name && is_plain row.password && nat_le row.gid id_max) (list_all is_member row.members) is).0).1

  pub group_rows_bounded : (table : List GroupRow) → table ≡ tables.group → IsSoundGroup tables.group → (name : Name) → IfSome (row_ids group_name (λ row. row.gid) table name) IsId
  group_rows_bounded table is sound name =
      subst (λ rows. IfSome (row_ids group_name (λ row. row.gid) rows name) IsId) (sym is) (group_bound name (row_named group_name tables.group name) (named_all group_name is_group_row tables.group sound.each name))

  pub groups_asked : (accounts : List GroupSpec) → accounts ≡ spec.groups → IsSound spec → AllByRecursion (λ account. IfSome account.wanted IsId) (map group_account accounts)
  groups_asked accounts are sound =
      subst (λ all. AllByRecursion (λ account. IfSome account.wanted IsId) (map group_account all)) (sym are)
      (all_asked group_account spec.groups (all_sound spec.groups (λ group is. is.gid) (recursion_from_All group_spec.IsSoundGroup spec.groups sound.each_group)))

  pub are_groups :
      (given : List (Given GroupSpec)) (rows : List GroupRow) (groups users : Name → Bool) → IsSound spec → IsSoundGroup tables.group → first_without (group_accounts spec) (given_ids given) ≡ None →
      given_accounts given ≡ spec.groups → given_ids given ≡ group_ids spec now → AllByRecursion IsId (given_ids given) → rows ≡ merged_groups groups users given tables.group →
      ((name : Name) → groups name ≡ undeclared spec.mutable (group_names spec) declared.groups name) → ((name : Name) → users name ≡ undeclared spec.mutable (user_names spec) declared.users name) →
      AreGroups spec now given rows
  are_groups given rows groups users sound table fine accounts ids bounded is group_stays user_stays = record {
    fine = ap (first_without (group_accounts spec)) (sym ids) ∙ fine;
    accounts = accounts;
    ids = ids;
    row = λ name. ap (λ rs. row_named group_name rs name) is ∙ group_found spec now tables.group given groups users refl accounts ids group_stays user_stays name;
    sound = record {
      each =
          ap (list_all is_group_row) is
          ∙ groups_sound groups users given tables.group table.each (subst (AllByRecursion group_spec.IsSoundGroup) (sym accounts) (recursion_from_All group_spec.IsSoundGroup spec.groups sound.each_group)) bounded;
      names =
          ap (λ rs. are_distinct (map group_name rs)) is
          ∙ groups_distinct spec now tables.group given groups users refl accounts ids group_stays user_stays (sym (same_distinct (group_names spec)) ∙ sound.groups) table.names;
    };
    bounded = bounded;
  }

  -- ---- users

  pub user_ids_are :
      (ids : List ℕ) (accounts : List UserSpec) (table : List PasswdRow) → accounts ≡ spec.users → table ≡ tables.passwd → IsSoundPasswd tables.passwd →
      ids ≡ give (row_ids passwd_name (λ row. row.uid) table) remembered.uids (used_ids (map (λ row. row.uid) table) (map user_account accounts)) (map user_account accounts) → ids ≡ user_ids spec now
  user_ids_are ids accounts table are is sound given =
      given
      ∙ (λ i. give (row_ids passwd_name (λ row. row.uid) (is i)) remembered.uids (used_ids (map (λ (row : PasswdRow). row.uid) (is i)) (map user_account (are i))) (map user_account (are i)))
      ∙ ids_from_table passwd_name (λ row. row.uid) tables.passwd remembered.uids (user_accounts spec) sound.names

  user_bound : (name : Name) (o : Option PasswdRow) → IfSome o (λ row. is_passwd_row row ≡ true) → IfSome (option_map (λ row. row.uid) o) IsId
  user_bound name None is = tt
  user_bound name (Some row) is =
      let p1 = and_parts (is_row_name row.name && is_plain row.password && nat_le row.uid id_max && nat_le row.gid id_max && is_plain row.gecos && is_plain row.home) (is_plain row.shell) is in
      let p2 = and_parts (is_row_name row.name && is_plain row.password && nat_le row.uid id_max && nat_le row.gid id_max && is_plain row.gecos) (is_plain row.home) p1.0 in
      let p3 = and_parts (is_row_name row.name && is_plain row.password && nat_le row.uid id_max && nat_le row.gid id_max) (is_plain row.gecos) p2.0 in
      let p4 = and_parts (is_row_name row.name && is_plain row.password && nat_le row.uid id_max) (nat_le row.gid id_max) p3.0 in
      leb-true row.uid id_max (and_parts (is_row_name row.name && is_plain row.password) (nat_le row.uid id_max) p4.0).1

  pub user_rows_bounded : (table : List PasswdRow) → table ≡ tables.passwd → IsSoundPasswd tables.passwd → (name : Name) → IfSome (row_ids passwd_name (λ row. row.uid) table name) IsId
  user_rows_bounded table is sound name =
      subst (λ rows. IfSome (row_ids passwd_name (λ row. row.uid) rows name) IsId) (sym is) (user_bound name (row_named passwd_name tables.passwd name) (named_all passwd_name is_passwd_row tables.passwd sound.each name))

  pub users_asked : (accounts : List UserSpec) → accounts ≡ spec.users → IsSound spec → AllByRecursion (λ account. IfSome account.wanted IsId) (map user_account accounts)
  users_asked accounts are sound =
      subst (λ all. AllByRecursion (λ account. IfSome account.wanted IsId) (map user_account all)) (sym are)
      (all_asked user_account spec.users (all_sound spec.users (λ user is. is.uid) (recursion_from_All IsSoundUser spec.users sound.each_user)))

  module _ (gs : List (Given GroupSpec)) (group : List GroupRow) (are : AreGroups spec now gs group) where
    pub gids_are : (name : Name) → gid_named group name ≡ gid_of spec now name
    gids_are name = ap (option_map (λ (row : GroupRow). row.gid)) (are.row name)

    module _ (given : List (Given UserSpec)) (accounts : List UserSpec) (same : accounts ≡ spec.users) (ids : given_ids given ≡ user_ids spec now) (front : given_accounts given ≡ take (length given) accounts) where
      front_are : take (length (given_ids given)) spec.users ≡ given_accounts given
      front_are = ap (λ n. take n spec.users) (length-map given (λ (one : Given UserSpec). one.id)) ∙ ap (take (length given)) (sym same) ∙ sym front

      front_fault : user_fault (gid_of spec now) (take (length (given_ids given)) spec.users) (given_ids given) ≡ user_fault (gid_named group) (given_accounts given) (given_ids given)
      front_fault =
          ap (λ gids. user_fault gids (take (length (given_ids given)) spec.users) (given_ids given)) (sym (fun_ext gids_are))
          ∙ ap (λ users. user_fault (gid_named group) users (given_ids given)) front_are

      -- what is the matter with the users that have ids is the fault
      pub early_user : (why : MergeFault) → user_fault (gid_named group) (given_accounts given) (given_ids given) ≡ Some why → user_fault (gid_of spec now) spec.users (user_ids spec now) ≡ Some why
      early_user why is = ap (user_fault (gid_of spec now) spec.users) (sym ids) ∙ early_fault (gid_of spec now) spec.users (given_ids given) why (front_fault ∙ is)

      -- and else that one of the others has no id
      pub late_user : user_fault (gid_named group) (given_accounts given) (given_ids given) ≡ None →
          user_fault (gid_of spec now) spec.users (user_ids spec now) ≡ option_map NoFreeId (first_without (map user_account accounts) (given_ids given))
      late_user fine =
          ap (user_fault (gid_of spec now) spec.users) (sym ids) ∙ late_fault (gid_of spec now) spec.users (given_ids given) (front_fault ∙ fine)
          ∙ ap (λ users. option_map NoFreeId (first_without (map user_account users) (given_ids given))) (sym same)

    gid_bounded : (name : Name) → IfSome (gid_named group name) IsId
    gid_bounded name = group_bound name (row_named group_name group name) (named_all group_name is_group_row group are.sound.each name)

    pub are_users :
        (given : List (Given UserSpec)) (rows : List PasswdRow) (users : Name → Bool) → IsSound spec → IsSoundPasswd tables.passwd →
        user_fault (gid_of spec now) spec.users (user_ids spec now) ≡ None → user_fault (gid_named group) (given_accounts given) (given_ids given) ≡ None →
        given_accounts given ≡ spec.users → given_ids given ≡ user_ids spec now → AllByRecursion IsId (given_ids given) → rows ≡ merged_users users (gid_named group) given tables.passwd →
        ((name : Name) → users name ≡ undeclared spec.mutable (user_names spec) declared.users name) → AreUsers spec now given rows
    are_users given rows users sound table fine known accounts ids bounded is user_stays = record {
      fine = fine;
      accounts = accounts;
      ids = ids;
      row = λ name. ap (λ rs. row_named passwd_name rs name) is ∙ passwd_found spec now tables.passwd given users (gid_named group) refl accounts ids known gids_are user_stays name;
      sound = record {
        each =
            ap (list_all is_passwd_row) is
            ∙ users_sound users (gid_named group) given tables.passwd table.each gid_bounded (subst (AllByRecursion IsSoundUser) (sym accounts) (recursion_from_All IsSoundUser spec.users sound.each_user)) bounded;
        names =
            ap (λ rs. are_distinct (map passwd_name rs)) is
            ∙ users_distinct spec now tables.passwd given users (gid_named group) refl accounts ids known gids_are user_stays (sym (same_distinct (user_names spec)) ∙ sound.users) table.names;
      };
      bounded = bounded;
    }

  -- ---- all of it

  module _ (gs : List (Given GroupSpec)) (us : List (Given UserSpec)) (group : List GroupRow) (passwd : List PasswdRow) (g : AreGroups spec now gs group) (u : AreUsers spec now us passwd) (answer : answered.Merged)
      (group_order : IsInOrder group_key group answer.tables.group) (passwd_order : IsInOrder passwd_key passwd answer.tables.passwd)
      (shadow : answer.tables.shadow ≡ merged_shadow spec.mutable spec.users tables.shadow answer.tables.passwd) where
    group_moved : are_distinct (map group_name answer.tables.group) ≡ true
    group_moved = distinct_moved (map group_name group) (map group_name answer.tables.group) (IsPermutation-map group_name group answer.tables.group group_order.moved) g.sound.names

    passwd_moved : are_distinct (map passwd_name answer.tables.passwd) ≡ true
    passwd_moved = distinct_moved (map passwd_name passwd) (map passwd_name answer.tables.passwd) (IsPermutation-map passwd_name passwd answer.tables.passwd passwd_order.moved) u.sound.names

    passwd_row_is : (name : Name) → row_named passwd_name answer.tables.passwd name ≡ passwd_at spec now name
    passwd_row_is name = passwd_order.named name ∙ u.row name

    pub is_merge :
        ((name : Name) → get answer.remembered.gids name ≡ option_or (id_of (map group_account (given_accounts gs)) (given_ids gs) name) (get remembered.gids name)) →
        ((name : Name) → get answer.remembered.uids name ≡ option_or (id_of (map user_account (given_accounts us)) (given_ids us) name) (get remembered.uids name)) →
        answer.declared.users ≡ ordered (user_names spec) → answer.declared.groups ≡ ordered (group_names spec) →
        answer.union.users ≡ ordered (declared.users ++ ordered (user_names spec)) → answer.union.groups ≡ ordered (declared.groups ++ ordered (group_names spec)) →
        IsMerge spec now (merged_of answer)
    is_merge gids uids users groups all_users all_groups = record {
      fine = λ i. option_or (option_map NoFreeId (g.fine i)) (u.fine i);
      group = λ name. in_table group_name answer.tables.group name ∙ group_order.named name ∙ g.row name;
      passwd = λ name. in_table passwd_name answer.tables.passwd name ∙ passwd_row_is name;
      shadow = λ name.
          in_table shadow_name answer.tables.shadow name ∙ ap (λ rows. row_named shadow_name rows name) shadow
          ∙ shadow_found spec tables.shadow now answer.tables.passwd refl passwd_moved passwd_row_is name;
      gids = λ name. gids name ∙ (λ i. option_or (id_of (map group_account (g.accounts i)) (g.ids i) name) (get remembered.gids name));
      uids = λ name. uids name ∙ (λ i. option_or (id_of (map user_account (u.accounts i)) (u.ids i) name) (get remembered.uids name));
      users = users;
      groups = groups;
      all_users = all_users ∙ ap (λ names. ordered (declared.users ++ names)) (sym users);
      all_groups = all_groups ∙ ap (λ names. ordered (declared.groups ++ names)) (sym groups);
    }

    passwd_is : answer.tables.passwd ≡ passwd_rows (merged_of answer)
    passwd_is = is_in_order passwd_key answer.tables.passwd passwd_order.sorted passwd_moved

    pub are_in_order : AreInOrder answer
    are_in_order = record {
      group = is_in_order group_key answer.tables.group group_order.sorted group_moved;
      passwd = passwd_is;
      shadow =
          shadow
          ∙ filter_map_alike (beside spec tables.shadow) (λ row. get (table_of shadow_name answer.tables.shadow) row.name) answer.tables.passwd
          (each_found passwd_name (λ row. beside spec tables.shadow row ≡ get (table_of shadow_name answer.tables.shadow) row.name) answer.tables.passwd passwd_moved (λ row found. sym (beside_is row found)))
          ∙ ap (filter_map (λ (row : PasswdRow). get (table_of shadow_name answer.tables.shadow) row.name)) passwd_is;
    }
      where
        beside_is : (row : PasswdRow) → row_named passwd_name answer.tables.passwd row.name ≡ Some row → get (table_of shadow_name answer.tables.shadow) row.name ≡ beside spec tables.shadow row
        beside_is row found =
            in_table shadow_name answer.tables.shadow row.name ∙ ap (λ rows. row_named shadow_name rows row.name) shadow
            ∙ made_found passwd_name shadow_name (beside spec tables.shadow) answer.tables.passwd row.name (λ r made here is. beside_name spec tables.shadow r made is)
            (λ r made is. ap (is_name row.name) (beside_name spec tables.shadow r made is)) passwd_moved
            ∙ ap (option_and_then (beside spec tables.shadow)) found

    pub is_sound : IsSound spec → IsSoundShadow tables.shadow → IsSoundGroup answer.tables.group × IsSoundPasswd answer.tables.passwd × IsSoundShadow answer.tables.shadow
    is_sound sound was = (
      record { each = sym (all_moved is_group_row group answer.tables.group group_order.moved) ∙ g.sound.each; names = group_moved },
      record { each = sym (all_moved is_passwd_row passwd answer.tables.passwd passwd_order.moved) ∙ u.sound.each; names = passwd_moved },
      record {
        each =
            ap (list_all is_shadow_row) shadow
            ∙ shadow_sound spec.mutable (row_named (λ (user : UserSpec). user.name) spec.users) (row_named shadow_name tables.shadow)
            (named_user spec.users (recursion_from_All IsSoundUser spec.users sound.each_user)) (named_all shadow_name is_shadow_row tables.shadow was.each) answer.tables.passwd;
        names = ap (λ rows. are_distinct (map shadow_name rows)) shadow ∙ made_distinct passwd_name shadow_name (beside spec tables.shadow) (beside_name spec tables.shadow) answer.tables.passwd passwd_moved;
      },
    )
