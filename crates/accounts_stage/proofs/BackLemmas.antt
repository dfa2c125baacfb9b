-- What a merge leaves is read back where it is written.
use Rattle.std.proofs.Common.{◌≡◌, ℕ, ◌&&◌, Bool, true, List, [], ◌∷◌, ◌++◌, map, Option, None, Some, IfSome, Ok, option_map, refl, sym, subst, ◌∙◌}
use Rattle.std.proofs.lemmas.Bool.{and_from, and_parts}
use Rattle.std.proofs.lemmas.List.Elements.{recursion_from_All}
use Rattle.std.proofs.lemmas.List.Folds.{list_all-append}
use Rattle.std.specs.FinMap.{empty, get, get-empty, keys}
use Rattle.std.specs.List.{AllByRecursion, cons_option, filter_map, list_all}
use Rattle.std.specs.Option.{option_or}
use Rattle.std.specs.Str.{is_utf8}
use Rattle.host_trait.specs.Bytes.{bytes_cmp}
use Rattle.host_trait.specs.World.{Leaves, content_of}
use Rattle.host_trait.proofs.Places.{bytes_total}
use Rattle.host_trait.proofs.NameOrder.{name_exact}
use Rattle.switch_names.specs.Names.{Name, is_name}
use Rattle.switch_names.proofs.Lists.{find_passes}
use Rattle.account_text.specs.Group.{group_name, group_row}
use Rattle.account_text.specs.Passwd.{passwd_name, passwd_row}
use Rattle.account_text.specs.Shadow.{shadow_name, shadow_row}
use Rattle.account_text.specs.Table.{rows_of}
use Rattle.host_trait.specs.Ids.{Ids}
use Rattle.id_memory.specs.Ids.{AreIds}
use Rattle.users_spec.specs.AccountName.{is_account_name}
use Rattle.users_spec.specs.GroupSpec.{IsSoundGroup}
use Rattle.users_spec.specs.UserSpec.{IsSoundUser}
use Rattle.switch_names.proofs.Outcomes.{option_or_parts}
use Rattle.users_spec.specs.declared.group_spec.GroupSpec.{GroupSpec}
use Rattle.users_spec.specs.declared.user_spec.UserSpec.{UserSpec}
use Rattle.users_spec.specs.Spec.{Accounts, IsSound, accounts_of, group_names, user_names}
use Rattle.users_merge.specs.Given.{IsId}
use Rattle.users_merge.specs.Merge.{IsMerge, fault, group_id, map_at, merge_of, user_id}
use Rattle.users_merge.specs.Stored.{Stored, table_of}
use Rattle.users_merge.proofs.ExistLemmas.{some_merge}
use Rattle.users_merge.proofs.RowSoundLemmas.{named_all}
use Rattle.users_merge.proofs.SoundLemmas.{all_ordered}
use Rattle.users_merge.proofs.TableLemmas.{in_table}
use Rattle.accounts_stage.specs.Places.{gids_place, group_place, groups_place, passwd_place, shadow_place, spec_path, uids_place, users_place}
use Rattle.accounts_stage.specs.Rows.{merged_past}
use Rattle.accounts_stage.specs.Standing.{bytes_at, declared_by, is_name_text, stored_in}
use Rattle.accounts_stage.proofs.IdBackLemmas.{ids_back}
use Rattle.accounts_stage.proofs.MergedLemmas.{IsGoodSpec, IsGoodStored, gids_bounded, uids_bounded}
use Rattle.accounts_stage.proofs.MergedRowLemmas.{is_group_spec_text, is_user_spec_text}
use Rattle.accounts_stage.proofs.NameBackLemmas.{names_back, read_names}
use Rattle.accounts_stage.proofs.OrderLemmas.{all_keys}
use Rattle.accounts_stage.proofs.ReadLemmas.{AreContentsOf, IsIdMap, IsReadBack}
use Rattle.accounts_stage.proofs.RowTextLemmas.{is_group_text, is_passwd_text, is_shadow_text, read_groups, read_shadows, read_users}
use Rattle.accounts_stage.proofs.IdTextLemmas.{AreReadIds, ids_are_read}
use Rattle.accounts_stage.proofs.SpecTextLemmas.{AreSpecTexts, spec_texts}
use Rattle.accounts_stage.proofs.TableBackLemmas.{group_read, passwd_read, shadow_read}

-- ---- what stands

module _ {Row : Type 0} (name_of : Row → Name) (p : Row → Bool) (rows : List Row) (all : list_all p rows ≡ true) where
  -- each row of a table passes what all of its rows pass
  table_all : (name : Name) → IfSome (get (table_of name_of rows) name) (λ row. p row ≡ true)
  table_all name = subst (λ o. IfSome o (λ row. p row ≡ true)) (sym (in_table name_of rows name)) (named_all name_of p rows all name)

  -- and has its name
  table_named : (name : Name) (row : Row) → get (table_of name_of rows) name ≡ Some row → name_of row ≡ name
  table_named name row is = sym (name_exact name (name_of row) (find_passes (λ (r : Row). is_name name (name_of r)) rows row (sym (in_table name_of rows name) ∙ is)))

-- the ids of a map that is read
map_ids : (content : Option (List ℕ)) (ids : Ids) → IsIdMap ids content → AreReadIds ids
map_ids (Some bytes) ids is = ids_are_read bytes ids is
map_ids None ids is = subst AreReadIds (let same : empty ≡ ids = cc in same) (record { bounded = λ name. subst (λ o. IfSome o IsId) (sym (get-empty bytes_cmp name)) tt; names = all_keys bytes_total is_utf8 no_entries refl })
  where
    no_entries : List (Name × ℕ)
    no_entries = []

stored_good : (leaves : Leaves) → AreContentsOf (stored_in leaves) (content_of leaves) → IsGoodStored (stored_in leaves)
stored_good leaves are =
    let uids = map_ids (content_of leaves uids_place) (stored_in leaves).uids are.uids in
    let gids = map_ids (content_of leaves gids_place) (stored_in leaves).gids are.gids in
    record {
      group = table_all group_name is_group_text (rows_of group_row group_name (bytes_at leaves group_place)) (read_groups (bytes_at leaves group_place));
      passwd = table_all passwd_name is_passwd_text (rows_of passwd_row passwd_name (bytes_at leaves passwd_place)) (read_users (bytes_at leaves passwd_place));
      shadow = table_all shadow_name is_shadow_text (rows_of shadow_row shadow_name (bytes_at leaves shadow_place)) (read_shadows (bytes_at leaves shadow_place));
      group_named = table_named group_name is_group_text (rows_of group_row group_name (bytes_at leaves group_place)) (read_groups (bytes_at leaves group_place));
      passwd_named = table_named passwd_name is_passwd_text (rows_of passwd_row passwd_name (bytes_at leaves passwd_place)) (read_users (bytes_at leaves passwd_place));
      shadow_named = table_named shadow_name is_shadow_text (rows_of shadow_row shadow_name (bytes_at leaves shadow_place)) (read_shadows (bytes_at leaves shadow_place));
      uids = uids.bounded;
      gids = gids.bounded;
      uid_names = uids.names;
      gid_names = gids.names;
      users = read_names (bytes_at leaves users_place);
      groups = read_names (bytes_at leaves groups_place);
    }

-- ---- what is declared

is_declared_text : (content : Option (List ℕ)) (spec : Accounts) → option_map accounts_of content ≡ Some (Ok spec) → AreSpecTexts spec
is_declared_text None spec is = absurd (cc)
is_declared_text (Some bytes) spec is = spec_texts bytes spec (let same : accounts_of bytes ≡ Ok spec = cc in same)

group_name_texts : (groups : List GroupSpec) → AllByRecursion IsSoundGroup groups → list_all is_group_spec_text groups ≡ true → list_all is_name_text (map (λ group. group.name) groups) ≡ true
unfolding is_name_text
group_name_texts [] sound texts = refl
group_name_texts (group ∷ groups) sound texts =
    let parts = and_parts (is_group_spec_text group) (list_all is_group_spec_text groups) texts in
    let name = and_parts (is_utf8 group.name) (list_all is_utf8 group.members) parts.0 in
    and_from _ _ (and_from _ _ name.0 sound.0.name) (group_name_texts groups sound.1 parts.1)

user_name_texts : (users : List UserSpec) → AllByRecursion IsSoundUser users → list_all is_user_spec_text users ≡ true → list_all is_name_text (map (λ user. user.name) users) ≡ true
unfolding is_name_text
user_name_texts [] sound texts = refl
user_name_texts (user ∷ users) sound texts =
    let parts = and_parts (is_user_spec_text user) (list_all is_user_spec_text users) texts in
    let name = and_parts (is_utf8 user.name) (list_all is_utf8 (user.description ∷ user.home ∷ user.shell ∷ [])) (and_parts _ _ parts.0).0 in
    and_from _ _ (and_from _ _ name.0 sound.0.name) (user_name_texts users sound.1 parts.1)

utf8_names : (names : List Name) → list_all is_name_text names ≡ true → list_all is_utf8 names ≡ true
unfolding is_name_text
utf8_names [] all = refl
utf8_names (name ∷ names) all = let parts = and_parts (is_utf8 name && is_account_name name) (list_all is_name_text names) all in and_from _ _ (and_parts (is_utf8 name) (is_account_name name) parts.0).0 (utf8_names names parts.1)

-- ---- the keys of merged maps

module _ {X : Type 0} (at : Name → Option X) where
  abbrev entry : Name → Option (Name × X)
  entry name = option_map (λ x. (name, x)) (at name)

  entry_keys : (p : Name → Bool) (names : List Name) → list_all p names ≡ true → list_all p (map (λ (e : Name × X). e.0) (filter_map entry names)) ≡ true
  entry_keys p [] all = refl
  entry_keys p (name ∷ names) all = let parts = and_parts (p name) (list_all p names) all in by (at name) parts.0 (entry_keys p names parts.1)
    where
      by : (o : Option X) → p name ≡ true → list_all p (map (λ (e : Name × X). e.0) (filter_map entry names)) ≡ true →
          list_all p (map (λ (e : Name × X). e.0) (cons_option {X = Name × X} (option_map (λ x. (name, x)) o) (filter_map entry names))) ≡ true
      by None is rest = rest
      by (Some x) is rest = and_from _ _ is rest

  map_keys : (p : Name → Bool) (names : List Name) → list_all p names ≡ true → list_all p (keys (map_at at names)) ≡ true
  map_keys p names all = all_keys bytes_total p (filter_map entry names) (entry_keys p names all)

-- ---- what is written

module _ (spec : Accounts) (s : Stored) (good : IsGoodSpec spec) (stored : IsGoodStored s) (is : IsMerge spec s (merge_of spec s)) where
  user_texts : list_all is_name_text (user_names spec) ≡ true
  user_texts = user_name_texts spec.users (recursion_from_All IsSoundUser spec.users good.sound.each_user) good.users

  group_texts : list_all is_name_text (group_names spec) ≡ true
  group_texts = group_name_texts spec.groups (recursion_from_All IsSoundGroup spec.groups good.sound.each_group) good.groups

  uids_are : AreIds (merge_of spec s).uids
  uids_are name = subst (λ o. IfSome o IsId) (sym (is.uids name)) (uids_bounded spec s good stored name)

  gids_are : AreIds (merge_of spec s).gids
  gids_are name = subst (λ o. IfSome o IsId) (sym (is.gids name)) (gids_bounded spec s good stored name)

  joined : (p : Name → Bool) (xs ys : List Name) → list_all p xs ≡ true → list_all p ys ≡ true → list_all p (xs ++ ys) ≡ true
  joined p xs ys one other = list_all-append p xs ys ∙ and_from _ _ one other

  uid_names : list_all is_utf8 (keys (merge_of spec s).uids) ≡ true
  unfolding merge_of
  uid_names = map_keys (λ name. option_or (user_id spec s name) (get s.uids name)) is_utf8 (user_names spec ++ keys s.uids) (joined is_utf8 (user_names spec) (keys s.uids) (utf8_names (user_names spec) user_texts) stored.uid_names)

  gid_names : list_all is_utf8 (keys (merge_of spec s).gids) ≡ true
  unfolding merge_of
  gid_names = map_keys (λ name. option_or (group_id spec s name) (get s.gids name)) is_utf8 (group_names spec ++ keys s.gids) (joined is_utf8 (group_names spec) (keys s.gids) (utf8_names (group_names spec) group_texts) stored.gid_names)

  merge_read_back : merged_past (merge_of spec s) ≡ None → IsReadBack (merge_of spec s)
  unfolding merge_of
  merge_read_back none =
      let few = option_or_parts _ _ none in
      record {
        group = group_read spec s good stored few.0;
        passwd = passwd_read spec s good stored few.1;
        shadow = shadow_read spec s good stored is few.1;
        uids = ids_back (merge_of spec s).uids uids_are uid_names;
        gids = ids_back (merge_of spec s).gids gids_are gid_names;
        users = names_back (user_names spec) user_texts;
        groups = names_back (group_names spec) group_texts;
        all_users = names_back (s.users ++ _) (joined is_name_text s.users _ stored.users (all_ordered is_name_text (user_names spec) user_texts));
        all_groups = names_back (s.groups ++ _) (joined is_name_text s.groups _ stored.groups (all_ordered is_name_text (group_names spec) group_texts));
      }

pub read_back : (system : Name) (leaves : Leaves) (spec : Accounts) → declared_by system leaves ≡ Some (Ok spec) → IsSound spec → AreContentsOf (stored_in leaves) (content_of leaves) → fault spec (stored_in leaves) ≡ None → merged_past (merge_of spec (stored_in leaves)) ≡ None →
    IsReadBack (merge_of spec (stored_in leaves))
read_back system leaves spec declared sound contents fine few =
    let texts = is_declared_text (content_of leaves (spec_path system)) spec declared in
    merge_read_back spec (stored_in leaves) (record { sound = sound; groups = texts.groups; users = texts.users }) (stored_good leaves contents) (some_merge spec (stored_in leaves) fine) few
