-- The ids of merged accounts are safe.
use Rattle.std.proofs.Common.{◌≡◌, ◌⊎◌, ℕ, ◌==◌, ◌&&◌, ◌||◌, ◌++◌, ◌∷◌, Bool, true, false, cond, not, List, [], map, filter_map, Option, None, Some, option_map, inl, inr, refl, sym, ap, ap₂, subst, ◌∙◌}
use Rattle.std.proofs.lemmas.Bool.{and_from, and_parts, both_ways, eq-eqb, not-true, not_from_false, or_left, or_parts, or_right}
use Rattle.std.proofs.lemmas.List.Folds.{list_any-append}
use Rattle.std.proofs.lemmas.Option.{none-some, same_Some}
use Rattle.std.specs.FinMap.{entries, find as find_key, get, get-entries, values}
use Rattle.std.specs.List.{AllByRecursion, cons_option, list_any}
use Rattle.std.specs.Option.{option_or}
use Rattle.host_trait.specs.Bytes.{bytes_cmp}
use Rattle.host_trait.proofs.Moments.{none_or_some}
use Rattle.host_trait.proofs.Places.{same_or_other}
use Rattle.host_trait.proofs.NameOrder.{name_exact}
use Rattle.account_text.specs.declared.group.GroupRow.{GroupRow}
use Rattle.account_text.specs.declared.passwd.PasswdRow.{PasswdRow}
use Rattle.host_trait.specs.Ids.{Ids}
use Rattle.switch_names.specs.Names.{Name, has, is_name}
use Rattle.switch_names.proofs.Lists.{find_passes}
use Rattle.users_spec.specs.declared.group_spec.GroupSpec.{GroupSpec}
use Rattle.users_spec.specs.declared.user_spec.UserSpec.{UserSpec}
use Rattle.users_spec.specs.Spec.{Accounts}
use Rattle.users_merge.specs.Stored.{Table}
use Rattle.users_merge.specs.Account.{Account, choose, free_id, give, group_accounts, has_id, id_of, of_other, span, unused, used_ids, user_accounts, while_some}
use Rattle.users_merge.specs.IdLaws.{AreSafe, IdsLaw, IsNew, account_of, table_gid, table_uid}
use Rattle.users_merge.specs.Merge.{gid_of, group_id, group_of, user_id, user_of}
use Rattle.users_merge.specs.Rows.{declared_row, group_row, passwd_row, stays}
use Rattle.users_merge.proofs.GivenLemmas.{first_unused, free_unused}

-- ---- used ids

has_id-append : (used more : List ℕ) (id : ℕ) → has_id (used ++ more) id ≡ (has_id used id || has_id more id)
has_id-append used more id = list_any-append (λ other. other == id) used more

not_before : (used : List ℕ) (last id : ℕ) → has_id (used ++ last ∷ []) id ≡ false → has_id used id ≡ false
not_before used last id absent = (or_parts (has_id used id) (has_id (last ∷ []) id) (sym (has_id-append used (last ∷ []) id) ∙ absent)).0

has_last : (used : List ℕ) (last id : ℕ) → last ≡ id → has_id (used ++ last ∷ []) id ≡ true
has_last used last id same =
    has_id-append used (last ∷ []) id
    ∙ or_right (has_id used id) (has_id (last ∷ []) id) (or_left (last == id) false (eq-eqb last id same))

-- ---- the ids that are given

module _ (rows : Name → Option ℕ) (known : Ids) where
  -- the id of a name is that of the first account, or that of one of the others
  abbrev IsGiven : (used : List ℕ) (account : Account) (rest : List Account) (name : Name) (id : ℕ) (chosen : ℕ) → Type 0
  IsGiven used account rest name id chosen =
      ((is_name name account.name ≡ true) × (chosen ≡ id)) ⊎ ((is_name name account.name ≡ false) × (id_of rest (give rows known (used ++ chosen ∷ []) rest) name ≡ Some id))

  given : (used : List ℕ) (account : Account) (rest : List Account) (name : Name) (id : ℕ) → id_of (account ∷ rest) (give rows known used (account ∷ rest)) name ≡ Some id →
      (chosen : ℕ) × (choose rows known used account ≡ Some chosen) × IsGiven used account rest name id chosen
  given used account rest name id is = elim (none_or_some (choose rows known used account)) [
    | inl none ↦ absurd (none-some id (subst (λ o. id_of (account ∷ rest) (while_some o more) name ≡ Some id) none is))
    | inr some ↦ (some.0, some.1, split some.0 (subst (λ o. id_of (account ∷ rest) (while_some o more) name ≡ Some id) some.1 is))
  ]
    where
      more : ℕ → List ℕ
      more chosen = give rows known (used ++ chosen ∷ []) rest

      split : (chosen : ℕ) → cond (is_name name account.name) (Some chosen) (id_of rest (more chosen) name) ≡ Some id →
          ((is_name name account.name ≡ true) × (chosen ≡ id)) ⊎ ((is_name name account.name ≡ false) × (id_of rest (more chosen) name ≡ Some id))
      split chosen found =
          elim (is_name name account.name) as (λ b. cond b (Some chosen) (id_of rest (more chosen) name) ≡ Some id → ((b ≡ true) × (chosen ≡ id)) ⊎ ((b ≡ false) × (id_of rest (more chosen) name ≡ Some id))) [
            | true ↦ λ here. inl (refl, same_Some chosen id here)
            | false ↦ λ later. inr (refl, later)
          ] found

  -- an account with a row has its id
  row_given : (used : List ℕ) (accounts : List Account) (name : Name) (was id : ℕ) → rows name ≡ Some was → id_of accounts (give rows known used accounts) name ≡ Some id → id ≡ was
  row_given used [] name was id row is = absurd (none-some id is)
  row_given used (account ∷ rest) name was id row is =
      let first = given used account rest name id is in
      elim first.2 [
        | inl here ↦
            sym here.1
            ∙ same_Some first.0 was (sym first.1 ∙ ap (λ o. option_or o (option_or account.wanted (option_or (unused used (get known account.name)) (free_id known used account)))) (ap rows (sym (name_exact name account.name here.0)) ∙ row))
        | inr later ↦ row_given (used ++ first.0 ∷ []) rest name was id row later.1
      ]

  -- a new account among these
  first_new : (account : Account) (rest : List Account) (name : Name) → is_name name account.name ≡ true → IsNew (account ∷ rest) rows name → (account.wanted ≡ None) × (rows account.name ≡ None)
  first_new account rest name here new = (
    ap (λ (a : Account). a.wanted) (same_Some account new.account (sym (ap (λ b. cond b (Some account) (account_of rest name)) here) ∙ new.declared)) ∙ new.unasked,
    ap rows (sym (name_exact name account.name here)) ∙ new.no_row,
  )

  later_new : (account : Account) (rest : List Account) (name : Name) → is_name name account.name ≡ false → IsNew (account ∷ rest) rows name → IsNew rest rows name
  later_new account rest name apart new = record {
    account = new.account;
    declared = sym (ap (λ b. cond b (Some account) (account_of rest name)) apart) ∙ new.declared;
    unasked = new.unasked;
    no_row = new.no_row;
  }

  -- what a new account is given
  new_choice : (used : List ℕ) (account : Account) (chosen : ℕ) → account.wanted ≡ None → rows account.name ≡ None → choose rows known used account ≡ Some chosen →
      option_or (unused used (get known account.name)) (free_id known used account) ≡ Some chosen
  new_choice used account chosen unasked no_row is =
      sym (ap₂ (λ row wanted. option_or row (option_or wanted (option_or (unused used (get known account.name)) (free_id known used account)))) no_row unasked) ∙ is

  -- a new account has an id that wasn't used
  new_unused : (used : List ℕ) (accounts : List Account) (name : Name) (id : ℕ) → IsNew accounts rows name → id_of accounts (give rows known used accounts) name ≡ Some id → has_id used id ≡ false
  new_unused used [] name id new is = absurd (none-some id is)
  new_unused used (account ∷ rest) name id new is =
      let first = given used account rest name id is in
      elim first.2 [
        | inl here ↦
            let facts = first_new account rest name here.0 new in
            first_unused used (get known account.name) (free_id known used account) id (free_unused known used account id)
            (new_choice used account first.0 facts.0 facts.1 first.1 ∙ ap Some here.1)
        | inr later ↦ not_before used first.0 id (new_unused (used ++ first.0 ∷ []) rest name id (later_new account rest name later.0 new) later.1)
      ]

  -- a new account of which no id is remembered has one that isn't remembered for another name
  new_free : (used : List ℕ) (accounts : List Account) (name : Name) (id : ℕ) → IsNew accounts rows name → get known name ≡ None → id_of accounts (give rows known used accounts) name ≡ Some id →
      of_other known name id ≡ false
  new_free used [] name id new unknown is = absurd (none-some id is)
  new_free used (account ∷ rest) name id new unknown is =
      let first = given used account rest name id is in
      elim first.2 [
        | inl here ↦
            let facts = first_new account rest name here.0 new in
            let same = name_exact name account.name here.0 in
            let chosen : free_id known used account ≡ Some id =
            sym (ap (λ o. option_or (unused used o) (free_id known used account)) (ap (get known) (sym same) ∙ unknown)) ∙ new_choice used account first.0 facts.0 facts.1 first.1 ∙ ap Some here.1 in
            ap (λ n. of_other known n id) same
            ∙ not-true (of_other known account.name id)
            (and_parts (not (has_id used id)) (not (of_other known account.name id)) (find_passes (λ i. not (has_id used i) && not (of_other known account.name i)) (span account.system) id chosen)).1
        | inr later ↦ new_free (used ++ first.0 ∷ []) rest name id (later_new account rest name later.0 new) unknown later.1
      ]

  module _ (start : List ℕ) (of_rows : (name : Name) (id : ℕ) → rows name ≡ Some id → has_id start id ≡ true) where
    abbrev AreAsked : List Account → Type 0
    AreAsked accounts = AllByRecursion (λ (account : Account). (id : ℕ) → account.wanted ≡ Some id → has_id start id ≡ true) accounts

    -- an account with an id is new, or its id was used at the start
    settled : (used : List ℕ) (accounts : List Account) (name : Name) (id : ℕ) → AreAsked accounts → id_of accounts (give rows known used accounts) name ≡ Some id → (has_id start id ≡ true) ⊎ IsNew accounts rows name
    settled used [] name id asked is = absurd (none-some id is)
    settled used (account ∷ rest) name id asked is =
        let first = given used account rest name id is in
        elim first.2 [
          | inl here ↦
              let same = name_exact name account.name here.0 in
              by same here.0 (rows account.name) refl account.wanted refl (first.1 ∙ ap Some here.1)
          | inr later ↦ elim (settled (used ++ first.0 ∷ []) rest name id asked.1 later.1) [
            | inl old ↦ inl old
            | inr new ↦ inr (record {
              account = new.account;
              declared = ap (λ b. cond b (Some account) (account_of rest name)) later.0 ∙ new.declared;
              unasked = new.unasked;
              no_row = new.no_row;
            })
          ]
        ]
      where
        by :
            name ≡ account.name → is_name name account.name ≡ true → (row : Option ℕ) → rows account.name ≡ row → (wanted : Option ℕ) → account.wanted ≡ wanted →
            choose rows known used account ≡ Some id → (has_id start id ≡ true) ⊎ IsNew (account ∷ rest) rows name
        by same here (Some old) row wanted asks chosen =
            inl (of_rows account.name id (row ∙ sym (ap (λ o. option_or o (option_or account.wanted (option_or (unused used (get known account.name)) (free_id known used account)))) row) ∙ chosen))
        by same here None row (Some asks_for) asks chosen =
            inl (asked.0 id (asks ∙ sym (ap₂ (λ o w. option_or o (option_or w (option_or (unused used (get known account.name)) (free_id known used account)))) row asks) ∙ chosen))
        by same here None row None asks chosen = inr (record {
          account = account;
          declared = ap (λ b. cond b (Some account) (account_of rest name)) here;
          unasked = asks;
          no_row = ap rows same ∙ row;
        })

    -- a new account shares its id with no other
    new_own :
        (used : List ℕ) (accounts : List Account) (name other : Name) (id : ℕ) → AreAsked accounts → ((i : ℕ) → has_id start i ≡ true → has_id used i ≡ true) → IsNew accounts rows name →
        id_of accounts (give rows known used accounts) name ≡ Some id → id_of accounts (give rows known used accounts) other ≡ Some id → name ≡ other
    new_own used [] name other id asked within new is also = absurd (none-some id is)
    new_own used (account ∷ rest) name other id asked within new is also =
        let first = given used account rest name id is in
        let second = given used account rest other id also in
        let same : second.0 ≡ first.0 = same_Some second.0 first.0 (sym second.1 ∙ first.1) in
        elim first.2 [
          | inl here ↦ elim second.2 [
            | inl there ↦ name_exact name account.name here.0 ∙ sym (name_exact other account.name there.0)
            | inr later ↦ elim (settled (used ++ second.0 ∷ []) rest other id asked.1 later.1) [
              | inl old ↦ absurd (both_ways (has_id used id) (new_unused used (account ∷ rest) name id new is) (within id old))
              | inr newer ↦ absurd (both_ways (has_id (used ++ second.0 ∷ []) id) (new_unused (used ++ second.0 ∷ []) rest other id newer later.1) (has_last used second.0 id (same ∙ here.1)))
            ]
          ]
          | inr later ↦
              let rest_new = later_new account rest name later.0 new in
              elim second.2 [
                | inl there ↦ absurd (both_ways (has_id (used ++ first.0 ∷ []) id) (new_unused (used ++ first.0 ∷ []) rest name id rest_new later.1) (has_last used first.0 id (sym same ∙ there.1)))
                | inr too ↦
                    new_own (used ++ first.0 ∷ []) rest name other id asked.1 (λ i old. has_id-append used (first.0 ∷ []) i ∙ or_left (has_id used i) (has_id (first.0 ∷ []) i) (within i old)) rest_new later.1
                    (subst (λ chosen. id_of rest (give rows known (used ++ chosen ∷ []) rest) other ≡ Some id) same too.1)
              ]
        ]

    pub safe :
        (after : Name → Option ℕ) (accounts : List Account) → AreAsked accounts →
        ((name : Name) (id : ℕ) → after name ≡ Some id → (rows name ≡ Some id) ⊎ (id_of accounts (give rows known start accounts) name ≡ Some id)) →
        AreSafe accounts known rows after
    safe after accounts asked from = record {
      stay = λ name was id row is. elim (from name id is) [
        | inl same ↦ same_Some id was (sym same ∙ row)
        | inr found ↦ row_given start accounts name was id row found
      ];
      own = λ name other id new is also. elim (from name id is) [
        | inl row ↦ absurd (none-some id (sym new.no_row ∙ row))
        | inr found ↦ elim (from other id also) [
          | inl row ↦ absurd (both_ways (has_id start id) (new_unused start accounts name id new found) (of_rows other id row))
          | inr other_found ↦ new_own start accounts name other id asked (λ i old. old) new found other_found
        ]
      ];
      free = λ name other id new unknown is remembered. elim (from name id is) [
        | inl row ↦ absurd (none-some id (sym new.no_row ∙ row))
        | inr found ↦ remembered_other name other id (new_free start accounts name id new unknown found) unknown remembered
      ];
    }
      where
        among : (other : Name) (id : ℕ) (name : Name) (es : List (Name × ℕ)) → is_name name other ≡ false → find_key bytes_cmp other es ≡ Some id → list_any (λ e. not (is_name name e.0) && (e.1 == id)) es ≡ true
        among other id name [] apart is = absurd (none-some id is)
        among other id name (e ∷ es) apart is =
            elim (is_name other e.0) as (λ b. is_name other e.0 ≡ b → cond b (Some e.1) (find_key bytes_cmp other es) ≡ Some id → (not (is_name name e.0) && (e.1 == id) || list_any (λ e. not (is_name name e.0) && (e.1 == id)) es) ≡ true) [
              | true ↦ λ here found.
                  or_left (not (is_name name e.0) && (e.1 == id)) _
                  (and_from (not (is_name name e.0)) (e.1 == id) (not_from_false (is_name name e.0) (ap (is_name name) (sym (name_exact other e.0 here)) ∙ apart)) (eq-eqb e.1 id (same_Some e.1 id found)))
              | false ↦ λ elsewhere found. or_right (not (is_name name e.0) && (e.1 == id)) _ (among other id name es apart found)
            ] refl is

        remembered_other : (name other : Name) (id : ℕ) → of_other known name id ≡ false → get known name ≡ None → get known other ≡ Some id → ⊥
        remembered_other name other id none unknown is = elim (same_or_other name other) [
          | inl same ↦ none-some id (sym unknown ∙ ap (get known) same ∙ is)
          | inr apart ↦ both_ways (of_other known name id) none (among other id name (entries known) apart (sym (get-entries known other) ∙ is))
        ]

-- ---- the ids of tables

in_values : {Row : Type 0} (id_of_row : Row → ℕ) (es : List (Name × Row)) (name : Name) (id : ℕ) → option_map id_of_row (find_key bytes_cmp name es) ≡ Some id → has_id (map id_of_row (map (λ (e : Name × Row). e.1) es)) id ≡ true
in_values id_of_row [] name id is = absurd (none-some id is)
in_values id_of_row (e ∷ es) name id is =
    elim (is_name name e.0) as (λ b. option_map id_of_row (cond b (Some e.1) (find_key bytes_cmp name es)) ≡ Some id → (id_of_row e.1 == id || has_id (map id_of_row (map (λ e. e.1) es)) id) ≡ true) [
      | true ↦ λ here. or_left (id_of_row e.1 == id) _ (eq-eqb (id_of_row e.1) id (same_Some (id_of_row e.1) id here))
      | false ↦ λ later. or_right (id_of_row e.1 == id) _ (in_values id_of_row es name id later)
    ] is

rows_used : {Row : Type 0} (id_of_row : Row → ℕ) (table : Table Row) (accounts : List Account) (name : Name) (id : ℕ) → option_map id_of_row (get table name) ≡ Some id → has_id (used_ids (map id_of_row (values table)) accounts) id ≡ true
rows_used id_of_row table accounts name id is =
    has_id-append (map id_of_row (values table)) (filter_map (λ (account : Account). account.wanted) accounts) id
    ∙ or_left (has_id (map id_of_row (values table)) id) _ (in_values id_of_row (entries table) name id (ap (option_map id_of_row) (sym (get-entries table name)) ∙ is))

-- each id that is asked for is among those that are used
asked_within : (used : List ℕ) (accounts : List Account) → ((id : ℕ) → has_id (filter_map (λ (account : Account). account.wanted) accounts) id ≡ true → has_id used id ≡ true) →
    AllByRecursion (λ (account : Account). (id : ℕ) → account.wanted ≡ Some id → has_id used id ≡ true) accounts
asked_within used [] within = tt
asked_within used (account ∷ rest) within = (λ id is. within id (first account.wanted id is), asked_within used rest (λ id found. within id (more account.wanted id found)))
  where
    asked : List ℕ
    asked = filter_map (λ (account : Account). account.wanted) rest

    first : (wanted : Option ℕ) (id : ℕ) → wanted ≡ Some id → has_id (cons_option wanted asked) id ≡ true
    first wanted id is = ap (λ o. has_id (cons_option o asked) id) is ∙ or_left (id == id) _ (eq-eqb id id refl)

    more : (wanted : Option ℕ) (id : ℕ) → has_id asked id ≡ true → has_id (cons_option wanted asked) id ≡ true
    more None id found = found
    more (Some one) id found = or_right (one == id) _ found

all_asked : (rows : List ℕ) (accounts : List Account) → AllByRecursion (λ (account : Account). (id : ℕ) → account.wanted ≡ Some id → has_id (used_ids rows accounts) id ≡ true) accounts
all_asked rows accounts = asked_within (used_ids rows accounts) accounts (λ id found.
    has_id-append rows (filter_map (λ (account : Account). account.wanted) accounts) id ∙ or_right (has_id rows id) _ found)

module _ (spec : Accounts) where
  stood : {Row : Type 0} (id_of_row : Row → ℕ) (mutable was_declared : Bool) (row : Option Row) (id : ℕ) → option_map id_of_row (stays mutable was_declared row) ≡ Some id → option_map id_of_row row ≡ Some id
  stood id_of_row false was_declared row id is = absurd (none-some id is)
  stood id_of_row true true row id is = absurd (none-some id is)
  stood id_of_row true false row id is = is

  group_from : (before : List Name) (group : Option GroupSpec) (given : Option ℕ) (was_declared : Bool) (row : Option GroupRow) (id : ℕ) →
      option_map (λ (r : GroupRow). r.gid) (group_row spec before group given was_declared row) ≡ Some id → (option_map (λ (r : GroupRow). r.gid) row ≡ Some id) ⊎ (given ≡ Some id)
  group_from before None given was_declared row id is = inl (stood (λ (r : GroupRow). r.gid) spec.mutable was_declared row id is)
  group_from before (Some group) None was_declared row id is = absurd (none-some id is)
  group_from before (Some group) (Some gid) was_declared row id is = inr is

  user_from : (gids : Name → Option ℕ) (user : Option UserSpec) (given : Option ℕ) (was_declared : Bool) (row : Option PasswdRow) (id : ℕ) →
      option_map (λ (r : PasswdRow). r.uid) (passwd_row spec gids user given was_declared row) ≡ Some id → (option_map (λ (r : PasswdRow). r.uid) row ≡ Some id) ⊎ (given ≡ Some id)
  user_from gids None given was_declared row id is = inl (stood (λ (r : PasswdRow). r.uid) spec.mutable was_declared row id is)
  user_from gids (Some user) None was_declared row id is = absurd (none-some id is)
  user_from gids (Some user) (Some uid) was_declared row id is = by (gids user.group) is
    where
      by : (gid : Option ℕ) → option_map (λ (r : PasswdRow). r.uid) (option_map (λ g. declared_row user uid g) gid) ≡ Some id → (option_map (λ (r : PasswdRow). r.uid) row ≡ Some id) ⊎ (Some uid ≡ Some id)
      by None none = absurd (none-some id none)
      by (Some gid) same = inr same

pub ids_law : IdsLaw
ids_law spec s m is = (
  safe (table_gid s.group) s.gids (used_ids (map (λ (row : GroupRow). row.gid) (values s.group)) (group_accounts spec)) (rows_used (λ (row : GroupRow). row.gid) s.group (group_accounts spec))
      (table_gid m.group) (group_accounts spec) (all_asked (map (λ (row : GroupRow). row.gid) (values s.group)) (group_accounts spec))
      (λ name id found. group_from spec s.users (group_of spec name) (group_id spec s name) (has s.groups name) (get s.group name) id (ap (option_map (λ (row : GroupRow). row.gid)) (sym (is.group name)) ∙ found)),
  safe (table_uid s.passwd) s.uids (used_ids (map (λ (row : PasswdRow). row.uid) (values s.passwd)) (user_accounts spec)) (rows_used (λ (row : PasswdRow). row.uid) s.passwd (user_accounts spec))
      (table_uid m.passwd) (user_accounts spec) (all_asked (map (λ (row : PasswdRow). row.uid) (values s.passwd)) (user_accounts spec))
      (λ name id found. user_from spec (gid_of spec s) (user_of spec name) (user_id spec s name) (has s.users name) (get s.passwd name) id (ap (option_map (λ (row : PasswdRow). row.uid)) (sym (is.passwd name)) ∙ found)),
)
