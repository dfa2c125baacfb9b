-- The tables that a merge leaves are read back where they are written.
use Rattle.std.proofs.Common.{◌≡◌, ◌&&◌, Bool, true, List, [], ◌∷◌, ◌++◌, length, map, Option, None, Some, IfSome, is_some, option_map, option_and_then, refl, sym, ap, subst, ◌∙◌}
use Rattle.std.proofs.lemmas.Bool.{and_from, and_parts}
use Rattle.std.specs.FinMap.{from_entries, get, keys}
use Rattle.std.specs.List.{cons_option, filter_map, list_all}
use Rattle.std.specs.Str.{is_utf8}
use Rattle.host_trait.specs.Bytes.{bytes_cmp}
use Rattle.host_trait.proofs.Places.{alike}
use Rattle.host_trait.proofs.NameOrder.{name_exact}
use Rattle.switch_names.specs.Names.{Name, is_name}
use Rattle.switch_names.proofs.Lists.{find_passes}
use Rattle.account_text.specs.declared.group.GroupRow.{GroupRow}
use Rattle.account_text.specs.declared.passwd.PasswdRow.{PasswdRow}
use Rattle.account_text.specs.declared.shadow.ShadowRow.{ShadowRow}
use Rattle.account_text.specs.Group.{group_line, group_name, group_row, group_text, is_group_row}
use Rattle.account_text.specs.Order.{group_key, passwd_key, row_named}
use Rattle.account_text.specs.Passwd.{is_passwd_row, passwd_line, passwd_name, passwd_row, passwd_text}
use Rattle.account_text.specs.Shadow.{is_shadow_row, shadow_line, shadow_name, shadow_row, shadow_text}
use Rattle.account_text.specs.Table.{IsTableOf, are_distinct}
use Rattle.account_text.proofs.BackLemmas.{group_back, passwd_back, shadow_back}
use Rattle.account_text.proofs.SoundLemmas.{written_table}
use Rattle.leaf_limits.specs.Counts.{past, rows_max}
use Rattle.users_spec.specs.Spec.{Accounts, group_names, user_names}
use Rattle.users_merge.specs.Merge.{IsMerge, group_at, map_at, merge_of, passwd_at, user_of}
use Rattle.users_merge.specs.Order.{group_rows, in_order, passwd_rows, shadow_rows}
use Rattle.users_merge.specs.Rows as rows
use Rattle.users_merge.specs.Stored.{Stored, Table, table_of}
use Rattle.users_merge.proofs.ShadowLemmas.{made_distinct, made_found}
use Rattle.users_merge.proofs.TableLemmas.{in_table}
use Rattle.accounts_stage.specs.Rows.{lines_of}
use Rattle.accounts_stage.proofs.MergedLemmas.{IsGoodSpec, IsGoodStored, group_good, group_named, passwd_good, passwd_named, shadow_good, shadow_named}
use Rattle.accounts_stage.proofs.OrderLemmas.{all_in_order, all_made, distinct_in_order, named_in_order, table_in_order}
use Rattle.accounts_stage.proofs.ReadLemmas.{IsGroupTable, IsPasswdTable, IsShadowTable}
use Rattle.accounts_stage.proofs.RowCountLemmas.{fewer_made, fewer_past, written_lines}
use Rattle.accounts_stage.proofs.RowTextLemmas.{group_line_text, group_texts, is_group_text, is_passwd_text, is_shadow_text, passwd_line_text, passwd_texts, shadow_line_text, shadow_texts}

-- ---- rows that can be written are read back

first_tests : {X : Type 0} (p q : X → Bool) (xs : List X) → list_all (λ x. p x && q x) xs ≡ true → list_all p xs ≡ true
first_tests p q [] all = refl
first_tests p q (x ∷ xs) all = let parts = and_parts (p x && q x) (list_all (λ y. p y && q y) xs) all in and_from _ _ (and_parts (p x) (q x) parts.0).0 (first_tests p q xs parts.1)

more_tests : {X : Type 0} (p q : X → Bool) → ((x : X) → p x ≡ true → q x ≡ true) → (xs : List X) → list_all p xs ≡ true → list_all q xs ≡ true
more_tests p q more [] all = refl
more_tests p q more (x ∷ xs) all = let parts = and_parts (p x) (list_all p xs) all in and_from _ _ (more x parts.0) (more_tests p q more xs parts.1)

-- how many lines are written
group_lines : (all : List GroupRow) → list_all is_group_text all ≡ true → lines_of (group_text all) ≡ length all
group_lines all good = written_lines group_row is_group_row group_line group_back all (first_tests is_group_row (λ row. list_all is_utf8 (group_texts row)) all good)

user_lines : (all : List PasswdRow) → list_all is_passwd_text all ≡ true → lines_of (passwd_text all) ≡ length all
user_lines all good = written_lines passwd_row is_passwd_row passwd_line passwd_back all (first_tests is_passwd_row (λ row. list_all is_utf8 (passwd_texts row)) all good)

shadow_lines : (all : List ShadowRow) → list_all is_shadow_text all ≡ true → lines_of (shadow_text all) ≡ length all
shadow_lines all good = written_lines shadow_row is_shadow_row shadow_line shadow_back all (first_tests is_shadow_row (λ row. list_all is_utf8 (shadow_texts row)) all good)

groups_back : (all : List GroupRow) → list_all is_group_text all ≡ true → are_distinct (map group_name all) ≡ true → IsTableOf group_row group_name (group_text all) all
groups_back all good distinct =
    written_table group_row is_group_row group_name group_line group_back all
    (record { each = first_tests is_group_row (λ row. list_all is_utf8 (group_texts row)) all good; names = distinct }) (more_tests is_group_text (λ row. is_utf8 (group_line row)) group_line_text all good)

users_back : (all : List PasswdRow) → list_all is_passwd_text all ≡ true → are_distinct (map passwd_name all) ≡ true → IsTableOf passwd_row passwd_name (passwd_text all) all
users_back all good distinct =
    written_table passwd_row is_passwd_row passwd_name passwd_line passwd_back all
    (record { each = first_tests is_passwd_row (λ row. list_all is_utf8 (passwd_texts row)) all good; names = distinct }) (more_tests is_passwd_text (λ row. is_utf8 (passwd_line row)) passwd_line_text all good)

shadows_back : (all : List ShadowRow) → list_all is_shadow_text all ≡ true → are_distinct (map shadow_name all) ≡ true → IsTableOf shadow_row shadow_name (shadow_text all) all
shadows_back all good distinct =
    written_table shadow_row is_shadow_row shadow_name shadow_line shadow_back all
    (record { each = first_tests is_shadow_row (λ row. list_all is_utf8 (shadow_texts row)) all good; names = distinct }) (more_tests is_shadow_text (λ row. is_utf8 (shadow_line row)) shadow_line_text all good)

-- ---- the tables of a merge

-- a map of rows, each under its name, is the table of these rows
module _ {Row : Type 0} (name_of : Row → Name) (at : Name → Option Row) (named : (name : Name) (row : Row) → at name ≡ Some row → name_of row ≡ name) where
  abbrev entry : Name → Option (Name × Row)
  entry name = option_map (λ x. (name, x)) (at name)

  entries_are : (names : List Name) → filter_map entry names ≡ map (λ row. (name_of row, row)) (filter_map at names)
  entries_are [] = refl
  entries_are (name ∷ names) = by (at name) refl (entries_are names)
    where
      by : (o : Option Row) → at name ≡ o → filter_map entry names ≡ map (λ row. (name_of row, row)) (filter_map at names) →
          cons_option {X = Name × Row} (option_map (λ x. (name, x)) o) (filter_map entry names) ≡ map (λ row. (name_of row, row)) (cons_option o (filter_map at names))
      by None is rest = rest
      by (Some row) is rest = λ i. (sym (named name row is) i, row) ∷ rest i

  map_is_table : (names : List Name) → map_at at names ≡ table_of name_of (filter_map at names)
  map_is_table names = ap (λ es. from_entries {R = bytes_cmp} es) (entries_are names)

module _ (spec : Accounts) (s : Stored) (good : IsGoodSpec spec) (stored : IsGoodStored s) where
  abbrev made_groups : List GroupRow
  made_groups = filter_map (group_at spec s) (group_names spec ++ keys s.group)

  abbrev made_users : List PasswdRow
  made_users = filter_map (passwd_at spec s) (user_names spec ++ keys s.passwd)

  group_is : (merge_of spec s).group ≡ table_of group_name made_groups
  unfolding merge_of
  group_is = map_is_table group_name (group_at spec s) (group_named spec s good stored) (group_names spec ++ keys s.group)

  passwd_is : (merge_of spec s).passwd ≡ table_of passwd_name made_users
  unfolding merge_of
  passwd_is = map_is_table passwd_name (passwd_at spec s) (passwd_named spec s good stored) (user_names spec ++ keys s.passwd)

  pub group_read : past rows_max (length (group_rows (merge_of spec s))) ≡ None → IsGroupTable (merge_of spec s).group (Some (group_text (group_rows (merge_of spec s))))
  group_read = subst (λ (table : Table GroupRow). past rows_max (length (in_order group_key table)) ≡ None → IsGroupTable table (Some (group_text (in_order group_key table)))) (sym group_is)
      (λ few.
      let good_rows = all_in_order group_key made_groups is_group_text (all_made is_group_text (group_at spec s) _ (group_good spec s good stored)) in
      let back = groups_back (in_order group_key (table_of group_name made_groups)) good_rows (distinct_in_order group_key made_groups) in
      record {
        rows = sym (ap (table_of group_name) back.exact) ∙ table_in_order group_key made_groups;
        complete = back.complete;
        few = ap (past rows_max) (group_lines (in_order group_key (table_of group_name made_groups)) good_rows) ∙ few;
      })

  pub passwd_read : past rows_max (length (passwd_rows (merge_of spec s))) ≡ None → IsPasswdTable (merge_of spec s).passwd (Some (passwd_text (passwd_rows (merge_of spec s))))
  passwd_read = subst (λ (table : Table PasswdRow). past rows_max (length (in_order passwd_key table)) ≡ None → IsPasswdTable table (Some (passwd_text (in_order passwd_key table)))) (sym passwd_is)
      (λ few.
      let good_rows = all_in_order passwd_key made_users is_passwd_text (all_made is_passwd_text (passwd_at spec s) _ (passwd_good spec s good stored)) in
      let back = users_back (in_order passwd_key (table_of passwd_name made_users)) good_rows (distinct_in_order passwd_key made_users) in
      record {
        rows = sym (ap (table_of passwd_name) back.exact) ∙ table_in_order passwd_key made_users;
        complete = back.complete;
        few = ap (past rows_max) (user_lines (in_order passwd_key (table_of passwd_name made_users)) good_rows) ∙ few;
      })

  -- ---- shadow, in the order of passwd

  module _ (is : IsMerge spec s (merge_of spec s)) where
    abbrev users_ordered : List PasswdRow
    users_ordered = in_order passwd_key (table_of passwd_name made_users)

    abbrev beside : PasswdRow → Option ShadowRow
    beside row = get (merge_of spec s).shadow row.name

    beside_named : (name : Name) (made : ShadowRow) → get (merge_of spec s).shadow name ≡ Some made → made.name ≡ name
    beside_named name made here = shadow_named spec s good stored name made (sym (is.shadow name) ∙ here)

    beside_good : (row : PasswdRow) → IfSome (beside row) (λ made. is_shadow_text made ≡ true)
    beside_good row = subst (λ o. IfSome o (λ made. is_shadow_text made ≡ true)) (sym (is.shadow row.name)) (shadow_good spec s good stored row.name)

    distinct_beside : are_distinct (map shadow_name (filter_map beside users_ordered)) ≡ true
    distinct_beside = made_distinct passwd_name shadow_name beside (λ row made here. beside_named row.name made here) users_ordered (distinct_in_order passwd_key made_users)

    -- the shadow row of a name among those beside the users is that of the merge
    found_beside : (name : Name) → row_named shadow_name (filter_map beside users_ordered) name ≡ get (merge_of spec s).shadow name
    found_beside name =
        made_found passwd_name shadow_name beside users_ordered name (λ row made here there. beside_named row.name made there) (λ row made there. ap (is_name name) (beside_named row.name made there)) (distinct_in_order passwd_key made_users)
        ∙ by (row_named passwd_name users_ordered name) refl
      where
        has_user : row_named passwd_name users_ordered name ≡ passwd_at spec s name
        has_user = named_in_order passwd_key made_users name ∙ ap (λ (table : Table PasswdRow). get table name) (sym passwd_is) ∙ is.passwd name

        by : (o : Option PasswdRow) → row_named passwd_name users_ordered name ≡ o → option_and_then beside o ≡ get (merge_of spec s).shadow name
        by None none = sym (is.shadow name ∙ ap (λ (o : Option PasswdRow). rows.shadow_row spec (user_of spec name) (is_some o) (get s.shadow name)) (sym has_user ∙ none))
        by (Some row) some = ap (get (merge_of spec s).shadow) (sym (name_exact name row.name (find_passes (λ (r : PasswdRow). is_name name (passwd_name r)) users_ordered row some)))

    -- it has no more rows than passwd
    pub shadow_read : past rows_max (length (passwd_rows (merge_of spec s))) ≡ None → IsShadowTable (merge_of spec s).shadow (Some (shadow_text (shadow_rows (merge_of spec s))))
    shadow_read = subst (λ (table : Table PasswdRow). past rows_max (length (in_order passwd_key table)) ≡ None → IsShadowTable (merge_of spec s).shadow (Some (shadow_text (filter_map beside (in_order passwd_key table))))) (sym passwd_is)
        (λ few.
        let good_rows = all_made is_shadow_text beside users_ordered beside_good in
        let back = shadows_back (filter_map beside users_ordered) good_rows distinct_beside in
        record {
          rows = sym (ap (table_of shadow_name) back.exact) ∙ alike _ _ (λ name. in_table shadow_name (filter_map beside users_ordered) name ∙ found_beside name);
          complete = back.complete;
          few = ap (past rows_max) (shadow_lines (filter_map beside users_ordered) good_rows) ∙ fewer_past rows_max _ _ (fewer_made beside users_ordered) few;
        })
