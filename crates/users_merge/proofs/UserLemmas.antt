-- The passwd rows of users are those of a merge.
use Rattle.std.proofs.Common.{◌≡◌, ℕ, Bool, true, false, cond, List, [], ◌∷◌, ◌++◌, filter, find, map, Option, None, Some, is_some, option_map, refl, sym, ap, ◌∙◌}
use Rattle.std.proofs.lemmas.List.{map-append}
use Rattle.std.specs.FinMap.{get}
use Rattle.std.specs.List.{cons_option, filter_map}
use Rattle.std.specs.Option.{option_and_then, option_or}
use Rattle.switch_names.specs.Names.{Name, has, is_name}
use Rattle.account_text.specs.declared.passwd.PasswdRow.{PasswdRow}
use Rattle.account_text.specs.Passwd.{passwd_name}
use Rattle.account_text.specs.Order.{row_named}
use Rattle.account_text.specs.Table.{are_distinct}
use Rattle.users_spec.specs.declared.user_spec.UserSpec.{UserSpec}
use Rattle.users_spec.specs.Spec.{Accounts, user_names}
use Rattle.users_merge.specs.Account.{user_account, id_of}
use Rattle.users_merge.specs.Given.{given_accounts, given_ids}
use Rattle.users_merge.specs.Merge.{gid_of, passwd_at, user_fault, user_id, user_ids, user_of}
use Rattle.users_merge.specs.Rows.{declared_row, passwd_row, member_stays}
use Rattle.users_merge.specs.Stored.{Stored, table_of}
use Rattle.users_merge.specs.UserRows.{given_row, merged_users}
use Rattle.users_merge.specs.declared.giving.Given.{Given}
use Rattle.users_merge.specs.declared.merge_fault.MergeFault.{MergeFault}
use Rattle.users_merge.specs.declared.merge_fault.MergeFault.TheVariants.{UnknownGroup}
use Rattle.users_merge.proofs.GroupLemmas.{gone_if, stays_if}
use Rattle.users_merge.proofs.TableLemmas.{distinct_filter, distinct_join, find_append, find_staying, found_given, given_account, given_id, has_row, in_table, no_row}

module _ (gids : Name → Option ℕ) where
  abbrev fault_of : List (Given UserSpec) → Option MergeFault
  fault_of given = user_fault gids (given_accounts given) (given_ids given)

  -- a user whose group is known
  known_first : (one : Given UserSpec) (given : List (Given UserSpec)) → fault_of (one ∷ given) ≡ None → (gid : ℕ) × (gids one.account.now.group ≡ Some gid) × (fault_of given ≡ None)
  known_first one given fine = by (gids one.account.now.group) refl fine
    where
      by : (o : Option ℕ) → gids one.account.now.group ≡ o → cond (is_some o) (fault_of given) (Some (UnknownGroup one.account.now.name one.account.now.group)) ≡ None →
          (gid : ℕ) × (gids one.account.now.group ≡ Some gid) × (fault_of given ≡ None)
      by None is wrong = absurd cc
      by (Some gid) is rest = (gid, is, rest)

  -- each user has a row
  row_first : (one : Given UserSpec) (given : List (Given UserSpec)) (gid : ℕ) → gids one.account.now.group ≡ Some gid →
      filter_map (given_row gids) (one ∷ given) ≡ declared_row one.account.now one.id gid ∷ filter_map (given_row gids) given
  row_first one given gid is = ap (λ o. cons_option (option_map (declared_row one.account.now one.id) o) (filter_map (given_row gids) given)) is

  pub user_found : (given : List (Given UserSpec)) (name : Name) → fault_of given ≡ None → row_named passwd_name (filter_map (given_row gids) given) name ≡ option_and_then (given_row gids) (found_given user_account name given)
  user_found [] name fine = refl
  user_found (one ∷ given) name fine =
      let first = known_first one given fine in
      ap (λ rows. row_named passwd_name rows name) (row_first one given first.0 first.1) ∙ by first.0 first.1 (is_name name one.account.now.name) (user_found given name first.2)
    where
      by : (gid : ℕ) → gids one.account.now.group ≡ Some gid → (b : Bool) → row_named passwd_name (filter_map (given_row gids) given) name ≡ option_and_then (given_row gids) (found_given user_account name given) →
          cond b (Some (declared_row one.account.now one.id gid)) (row_named passwd_name (filter_map (given_row gids) given) name) ≡ option_and_then (given_row gids) (cond b (Some one) (found_given user_account name given))
      by gid is true rest = sym (ap (option_map (declared_row one.account.now one.id)) is)
      by gid is false rest = rest

  pub names_of_users : (given : List (Given UserSpec)) → fault_of given ≡ None → map passwd_name (filter_map (given_row gids) given) ≡ map (λ (user : UserSpec). user.name) (given_accounts given)
  names_of_users [] fine = refl
  names_of_users (one ∷ given) fine =
      let first = known_first one given fine in
      ap (map passwd_name) (row_first one given first.0 first.1) ∙ ap (λ names. one.account.now.name ∷ names) (names_of_users given first.2)

module _ (spec : Accounts) (s : Stored) (table : List PasswdRow) (given : List (Given UserSpec)) (users : Name → Bool) (gids : Name → Option ℕ) where
  module _
      (is_table : s.passwd ≡ table_of passwd_name table) (accounts : given_accounts given ≡ spec.users) (ids : given_ids given ≡ user_ids spec s)
      (fine : user_fault gids (given_accounts given) (given_ids given) ≡ None)
      (same_gids : (name : Name) → gids name ≡ gid_of spec s name)
      (user_stays : (name : Name) → users name ≡ member_stays spec s.users name) where
    row_was : (name : Name) → row_named passwd_name table name ≡ get s.passwd name
    row_was name = sym (ap (λ t. get t name) is_table ∙ in_table passwd_name table name)

    -- the row of a name among those that are made
    pub passwd_found : (name : Name) → row_named passwd_name (merged_users users gids given table) name ≡ passwd_at spec s name
    passwd_found name =
        find_append (λ row. is_name name (passwd_name row)) (filter_map (given_row gids) given) (filter (λ row. users (passwd_name row)) table)
        ∙ (λ i. option_or (user_found gids given name fine i) (find_staying passwd_name users table name i))
        ∙ by (found_given user_account name given) refl
      where
        declared_as : (o : Option (Given UserSpec)) → found_given user_account name given ≡ o → user_of spec name ≡ option_map (λ one. one.account.now) o
        declared_as o is = ap (find (λ (user : UserSpec). is_name name user.name)) (sym accounts) ∙ given_account user_account given name ∙ ap (option_map (λ (one : Given UserSpec). one.account.now)) is

        numbered_as : (o : Option (Given UserSpec)) → found_given user_account name given ≡ o → user_id spec s name ≡ option_map (λ one. one.id) o
        numbered_as o is =
            (λ i. id_of (map user_account (sym accounts i)) (sym ids i) name) ∙ given_id user_account given name ∙ ap (option_map (λ (one : Given UserSpec). one.id)) is

        given_is : (one : Given UserSpec) → found_given user_account name given ≡ Some one → given_row gids one ≡ passwd_at spec s name
        given_is one is =
            ap (option_map (declared_row one.account.now one.id)) (same_gids one.account.now.group)
            ∙ sym (λ i. passwd_row spec (gid_of spec s) (declared_as (Some one) is i) (numbered_as (Some one) is i) (has s.users name) (get s.passwd name))

        present : (one : Given UserSpec) → (o : Option PasswdRow) → given_row gids one ≡ o → (more : Option PasswdRow) → is_some (given_row gids one) ≡ true → option_or (given_row gids one) more ≡ given_row gids one
        present one None is more there = absurd (let none : is_some (given_row gids one) ≡ false = ap is_some is in let wrong : false ≡ true = sym none ∙ there in cc)
        present one (Some row) is more there = ap (λ o. option_or o more) is ∙ sym is

        by : (o : Option (Given UserSpec)) → found_given user_account name given ≡ o →
            option_or (option_and_then (given_row gids) o) (cond (users name) (row_named passwd_name table name) None) ≡ passwd_at spec s name
        by None is =
            let apart : has (user_names spec) name ≡ false = no_row (λ (user : UserSpec). user.name) spec.users name (declared_as None is) in
            (λ i. cond ((user_stays name ∙ stays_if spec.mutable (has (user_names spec) name) (has s.users name) apart) i) (row_was name i) None)
            ∙ sym (λ i. passwd_row spec (gid_of spec s) (declared_as None is i) (numbered_as None is i) (has s.users name) (get s.passwd name))
        by (Some one) is = present one (given_row gids one) refl _ (each_has given fine one is) ∙ given_is one is
          where
            each_has : (all : List (Given UserSpec)) → user_fault gids (given_accounts all) (given_ids all) ≡ None → (g : Given UserSpec) → found_given user_account name all ≡ Some g → is_some (given_row gids g) ≡ true
            each_has [] ok g there = absurd (let none : None ≡ Some g = there in cc)
            each_has (first ∷ all) ok g there = pick (is_name name first.account.now.name) there (each_has all (known_first gids first all ok).2 g)
              where
                pick : (b : Bool) → cond b (Some first) (found_given user_account name all) ≡ Some g → (found_given user_account name all ≡ Some g → is_some (given_row gids g) ≡ true) → is_some (given_row gids g) ≡ true
                pick true here rest = let same : first ≡ g = cc in ap (λ (x : Given UserSpec). is_some (given_row gids x)) (sym same) ∙ ap (λ o. is_some (option_map (declared_row first.account.now first.id) o)) (known_first gids first all ok).1
                pick false later rest = rest later

    -- no two of the rows have one name
    pub users_distinct : are_distinct (user_names spec) ≡ true → are_distinct (map passwd_name table) ≡ true → are_distinct (map passwd_name (merged_users users gids given table)) ≡ true
    users_distinct one other =
        ap are_distinct (map-append passwd_name (filter_map (given_row gids) given) (filter (λ row. users (passwd_name row)) table)
        ∙ ap (λ names. names ++ map passwd_name (filter (λ row. users (passwd_name row)) table)) (names_of_users gids given fine ∙ ap (map (λ (user : UserSpec). user.name)) accounts))
        ∙ distinct_join (user_names spec) _ one (distinct_filter passwd_name (λ row. users (passwd_name row)) table other) apart
      where
        apart : (name : Name) → has (user_names spec) name ≡ true → has (map passwd_name (filter (λ row. users (passwd_name row)) table)) name ≡ false
        apart name there =
            sym (has_row passwd_name (filter (λ row. users (passwd_name row)) table) name)
            ∙ ap is_some (find_staying passwd_name users table name ∙ ap (λ b. cond b (row_named passwd_name table name) None) (user_stays name ∙ gone_if spec.mutable (has (user_names spec) name) (has s.users name) there))
