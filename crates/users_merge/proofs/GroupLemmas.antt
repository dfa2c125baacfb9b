-- The rows of groups are those of a merge.
use Rattle.std.proofs.Common.{◌≡◌, ◌&&◌, Bool, true, false, not, cond, List, [], ◌∷◌, ◌++◌, filter, find, map, Option, None, Some, is_some, option_map, refl, sym, ap, ◌∙◌}
use Rattle.std.proofs.Math.Path.{fun_ext}
use Rattle.std.proofs.lemmas.Bool.{false≢true}
use Rattle.std.proofs.lemmas.List.{map-append}
use Rattle.std.specs.FinMap.{get}
use Rattle.std.specs.Option.{option_or}
use Rattle.switch_names.specs.Names.{Name, has, is_name}
use Rattle.switch_names.proofs.Lists.{find_passes}
use Rattle.account_text.specs.declared.group.GroupRow.{GroupRow}
use Rattle.account_text.specs.Group.{group_name}
use Rattle.account_text.specs.Order.{row_named}
use Rattle.account_text.specs.Table.{are_distinct}
use Rattle.users_spec.specs.declared.group_spec.GroupSpec.{GroupSpec}
use Rattle.users_spec.specs.Spec.{Accounts, group_names}
use Rattle.users_merge.specs.Account.{group_account, id_of}
use Rattle.users_merge.specs.Given.{given_accounts, given_ids}
use Rattle.users_merge.specs.GroupRows.{given_group, group_by, merged_groups}
use Rattle.users_merge.specs.Merge.{group_at, group_id, group_ids, group_of}
use Rattle.users_merge.specs.Rows.{group_row, member_stays}
use Rattle.users_merge.specs.Staying.{undeclared}
use Rattle.users_merge.specs.Stored.{Stored, table_of}
use Rattle.users_merge.specs.declared.giving.Given.{Given}
use Rattle.users_merge.proofs.TableLemmas.{distinct_filter, distinct_join, find_append, find_map, find_staying, found_given, given_account, given_id, has_row, in_table, no_row}
use Rattle.host_trait.proofs.NameOrder.{name_exact}

pub stays_if : (mutable here was : Bool) → here ≡ false → (mutable && not here && not was) ≡ (mutable && not was)
stays_if true true was is = absurd (false≢true (sym is))
stays_if true false was is = refl
stays_if false here was is = refl

pub gone_if : (mutable here was : Bool) → here ≡ true → (mutable && not here && not was) ≡ false
gone_if true true was is = refl
gone_if true false was is = absurd (false≢true is)
gone_if false here was is = refl

module _ (spec : Accounts) (s : Stored) (table : List GroupRow) (given : List (Given GroupSpec)) (groups users : Name → Bool) where
  module _
      (is_table : s.group ≡ table_of group_name table) (accounts : given_accounts given ≡ spec.groups) (ids : given_ids given ≡ group_ids spec s)
      (group_stays : (name : Name) → groups name ≡ undeclared spec.mutable (group_names spec) s.groups name) (user_stays : (name : Name) → users name ≡ member_stays spec s.users name) where
    row_was : (name : Name) → row_named group_name table name ≡ get s.group name
    row_was name = sym (ap (λ t. get t name) is_table ∙ in_table group_name table name)

    -- the row of a name among those that are made
    pub group_found : (name : Name) → row_named group_name (merged_groups groups users given table) name ≡ group_at spec s name
    group_found name =
        find_append (λ row. is_name name (group_name row)) made kept
        ∙ (λ i. option_or (find_map (λ row. is_name name (group_name row)) (given_group users old) given i) (find_staying group_name groups table name i))
        ∙ by (found_given group_account name given) refl
      where
        old : Name → Option GroupRow
        old = row_named group_name table

        made : List GroupRow
        made = map (given_group users old) given

        kept : List GroupRow
        kept = filter (λ row. groups (group_name row)) table

        declared_as : (o : Option (Given GroupSpec)) → found_given group_account name given ≡ o → group_of spec name ≡ option_map (λ one. one.account.now) o
        declared_as o is = ap (find (λ (group : GroupSpec). is_name name group.name)) (sym accounts) ∙ given_account group_account given name ∙ ap (option_map (λ (one : Given GroupSpec). one.account.now)) is

        numbered_as : (o : Option (Given GroupSpec)) → found_given group_account name given ≡ o → group_id spec s name ≡ option_map (λ one. one.id) o
        numbered_as o is =
            (λ i. id_of (map group_account (sym accounts i)) (sym ids i) name) ∙ given_id group_account given name ∙ ap (option_map (λ (one : Given GroupSpec). one.id)) is

        by : (o : Option (Given GroupSpec)) → found_given group_account name given ≡ o →
            option_or (option_map (given_group users old) o) (cond (groups name) (row_named group_name table name) None) ≡ group_at spec s name
        by None is =
            let apart : has (group_names spec) name ≡ false = no_row (λ (group : GroupSpec). group.name) spec.groups name (declared_as None is) in
            (λ i. cond ((group_stays name ∙ stays_if spec.mutable (has (group_names spec) name) (has s.groups name) apart) i) (row_was name i) None)
            ∙ sym (λ i. group_row spec s.users (declared_as None is i) (numbered_as None is i) (has s.groups name) (get s.group name))
        by (Some one) is =
            let same : name ≡ one.account.now.name = name_exact name one.account.now.name (find_passes (λ (g : Given GroupSpec). is_name name (group_account g.account.now).name) given one is) in
            ap (λ row. Some (group_by users one.account.now one.id row)) (ap old (sym same) ∙ row_was name)
            ∙ ap (λ stays. Some (group_by stays one.account.now one.id (get s.group name))) (fun_ext user_stays)
            ∙ sym (λ i. group_row spec s.users (declared_as (Some one) is i) (numbered_as (Some one) is i) (has s.groups name) (get s.group name))

    -- no two of the rows have one name
    pub groups_distinct : are_distinct (group_names spec) ≡ true → are_distinct (map group_name table) ≡ true → are_distinct (map group_name (merged_groups groups users given table)) ≡ true
    groups_distinct one other =
        ap are_distinct (map-append group_name (map (given_group users (row_named group_name table)) given) (filter (λ row. groups (group_name row)) table) ∙ ap (λ names. names ++ map group_name (filter (λ row. groups (group_name row)) table)) names_are)
        ∙ distinct_join (group_names spec) _ one (distinct_filter group_name (λ row. groups (group_name row)) table other) apart
      where
        names_of_given : (all : List (Given GroupSpec)) → map group_name (map (given_group users (row_named group_name table)) all) ≡ map (λ (group : GroupSpec). group.name) (given_accounts all)
        names_of_given [] = refl
        names_of_given (g ∷ all) = ap (λ names. g.account.now.name ∷ names) (names_of_given all)

        names_are : map group_name (map (given_group users (row_named group_name table)) given) ≡ group_names spec
        names_are = names_of_given given ∙ ap (map (λ (group : GroupSpec). group.name)) accounts

        apart : (name : Name) → has (group_names spec) name ≡ true → has (map group_name (filter (λ row. groups (group_name row)) table)) name ≡ false
        apart name there =
            sym (has_row group_name (filter (λ row. groups (group_name row)) table) name)
            ∙ ap is_some (find_staying group_name groups table name ∙ ap (λ b. cond b (row_named group_name table name) None) (group_stays name ∙ gone_if spec.mutable (has (group_names spec) name) (has s.groups name) there))
