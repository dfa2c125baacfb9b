-- Ids that are given again are the same.
use Rattle.std.proofs.Common.{◌≡◌, ℕ, ◌&&◌, ◌||◌, ◌++◌, ◌∷◌, true, false, cond, not, List, [], map, find, Option, None, Some, is_some, inl, inr, refl, sym, ap, subst, ◌∙◌}
use Rattle.std.proofs.lemmas.Bool.{and_parts, both_ways, false_from_ne_true, not-true}
use Rattle.std.proofs.lemmas.Option.{none-some, same_Some}
use Rattle.std.specs.FinMap.{get}
use Rattle.std.specs.Option.{option_or}
use Rattle.host_trait.proofs.Moments.{none_or_some}
use Rattle.host_trait.proofs.Places.{itself}
use Rattle.host_trait.proofs.NameOrder.{name_exact}
use Rattle.host_trait.specs.Ids.{Ids}
use Rattle.switch_names.specs.Names.{Name, has, is_name}
use Rattle.switch_names.proofs.Lists.{find_passes}
use Rattle.users_spec.specs.AccountName.{are_distinct}
use Rattle.users_spec.specs.declared.group_spec.GroupSpec.{GroupSpec}
use Rattle.users_spec.specs.declared.user_spec.UserSpec.{UserSpec}
use Rattle.users_merge.specs.Account.{Account, choose, first_without, free_id, give, group_account, has_id, id_of, of_other, span, unused, user_account, while_some}
use Rattle.users_merge.specs.Merge.{user_fault}
use Rattle.users_merge.specs.declared.merge_fault.MergeFault.TheVariants.{NoFreeId, UnknownGroup}

-- ---- one id

pub free_unused : (known : Ids) (used : List ℕ) (account : Account) (id : ℕ) → free_id known used account ≡ Some id → has_id used id ≡ false
free_unused known used account id is =
    not-true (has_id used id) (and_parts (not (has_id used id)) (not (of_other known account.name id))
    (find_passes (λ i. not (has_id used i) && not (of_other known account.name i)) (span account.system) id is)).0

-- a remembered or free id wasn't used
pub first_unused : (used : List ℕ) (remembered free : Option ℕ) (id : ℕ) → (free ≡ Some id → has_id used id ≡ false) → option_or (unused used remembered) free ≡ Some id → has_id used id ≡ false
first_unused used None free id is_free is = is_free is
first_unused used (Some old) free id is_free is =
    elim (has_id used old) as (λ b. has_id used old ≡ b → option_or (cond b None (Some old)) free ≡ Some id → has_id used id ≡ false) [
      | true ↦ λ taken found. is_free found
      | false ↦ λ apart found. ap (has_id used) (sym (same_Some old id found)) ∙ apart
    ] refl is

-- an id that is remembered and isn't used is taken
remembered_again : (used : List ℕ) (remembered free : Option ℕ) (id : ℕ) → remembered ≡ Some id → has_id used id ≡ false → option_or (unused used remembered) free ≡ Some id
remembered_again used remembered free id is apart =
    ap (λ o. option_or (unused used o) free) is ∙ ap (λ b. option_or (cond b None (Some id)) free) apart

-- the same id is chosen where it is the remembered one
again_id :
    (row wanted : Option ℕ) (used : List ℕ) (remembered later free later_free : Option ℕ) (id : ℕ) →
    (free ≡ Some id → has_id used id ≡ false) → later ≡ Some id → option_or row (option_or wanted (option_or (unused used remembered) free)) ≡ Some id →
    option_or row (option_or wanted (option_or (unused used later) later_free)) ≡ Some id
again_id (Some old) wanted used remembered later free later_free id is_free same is = is
again_id None (Some asked) used remembered later free later_free id is_free same is = is
again_id None None used remembered later free later_free id is_free same is =
    remembered_again used later later_free id same (first_unused used remembered free id is_free is)

-- ---- all ids

-- of each account and its id P holds
abbrev pub Each : (Name → ℕ → Type 0) → List Account → List ℕ → Type 0
Each P [] ids = Unit {0}
Each P (account ∷ rest) [] = Unit {0}
Each P (account ∷ rest) (id ∷ ids) = P account.name id × Each P rest ids

none_given : (account : Account) (rest : List Account) (more : ℕ → List ℕ) (chosen : Option ℕ) → chosen ≡ None → first_without (account ∷ rest) (while_some chosen more) ≡ None → ⊥
none_given account rest more chosen none fine =
    none-some account.name (sym (subst (λ o. first_without (account ∷ rest) (while_some o more) ≡ None) none fine))

-- where each id is remembered for its account, the same ids are given
pub give_again :
    (rows : Name → Option ℕ) (known later : Ids) (used : List ℕ) (accounts : List Account) →
    first_without accounts (give rows known used accounts) ≡ None → Each (λ name id. get later name ≡ Some id) accounts (give rows known used accounts) →
    give rows later used accounts ≡ give rows known used accounts
give_again rows known later used [] fine each = refl
give_again rows known later used (account ∷ rest) fine each =
    elim (none_or_some (choose rows known used account)) [
      | inl none ↦ absurd (none_given account rest more (choose rows known used account) none fine)
      | inr found ↦
          ap (λ o. while_some o later_more)
          (again_id (rows account.name) account.wanted used (get known account.name) (get later account.name) (free_id known used account) (free_id later used account) found.0
          (free_unused known used account found.0) (each_of found.0 found.1).0 found.1)
          ∙ ap (λ ids. found.0 ∷ ids) (give_again rows known later (used ++ found.0 ∷ []) rest (fine_of found.0 found.1) (each_of found.0 found.1).1)
          ∙ sym (ap (λ o. while_some o more) found.1)
    ]
  where
    more : ℕ → List ℕ
    more id = give rows known (used ++ id ∷ []) rest

    later_more : ℕ → List ℕ
    later_more id = give rows later (used ++ id ∷ []) rest

    fine_of : (id : ℕ) → choose rows known used account ≡ Some id → first_without rest (more id) ≡ None
    fine_of id is = subst (λ o. first_without (account ∷ rest) (while_some o more) ≡ None) is fine

    each_of : (id : ℕ) → choose rows known used account ≡ Some id → (get later account.name ≡ Some id) × Each (λ name id. get later name ≡ Some id) rest (more id)
    each_of id is = subst (λ o. Each (λ name id. get later name ≡ Some id) (account ∷ rest) (while_some o more)) is each

-- where each account has a row with its id, the same ids are given
pub give_kept :
    (rows newer : Name → Option ℕ) (known later : Ids) (used more_used : List ℕ) (accounts : List Account) →
    first_without accounts (give rows known used accounts) ≡ None → Each (λ name id. newer name ≡ Some id) accounts (give rows known used accounts) →
    give newer later more_used accounts ≡ give rows known used accounts
give_kept rows newer known later used more_used [] fine each = refl
give_kept rows newer known later used more_used (account ∷ rest) fine each =
    elim (none_or_some (choose rows known used account)) [
      | inl none ↦ absurd (none_given account rest more (choose rows known used account) none fine)
      | inr found ↦
          ap (λ o. while_some (option_or o (option_or account.wanted (option_or (unused more_used (get later account.name)) (free_id later more_used account)))) newer_more)
          (each_of found.0 found.1).0
          ∙ ap (λ ids. found.0 ∷ ids)
          (give_kept rows newer known later (used ++ found.0 ∷ []) (more_used ++ found.0 ∷ []) rest (fine_of found.0 found.1) (each_of found.0 found.1).1)
          ∙ sym (ap (λ o. while_some o more) found.1)
    ]
  where
    more : ℕ → List ℕ
    more id = give rows known (used ++ id ∷ []) rest

    newer_more : ℕ → List ℕ
    newer_more id = give newer later (more_used ++ id ∷ []) rest

    fine_of : (id : ℕ) → choose rows known used account ≡ Some id → first_without rest (more id) ≡ None
    fine_of id is = subst (λ o. first_without (account ∷ rest) (while_some o more) ≡ None) is fine

    each_of : (id : ℕ) → choose rows known used account ≡ Some id → (newer account.name ≡ Some id) × Each (λ name id. newer name ≡ Some id) rest (more id)
    each_of id is = subst (λ o. Each (λ name id. newer name ≡ Some id) (account ∷ rest) (while_some o more)) is each

-- ---- the id of a name

abbrev pub names_of : List Account → List Name
names_of accounts = map (λ account. account.name) accounts

-- an account with an id is one of the accounts
pub listed : (accounts : List Account) (ids : List ℕ) (name : Name) (id : ℕ) → id_of accounts ids name ≡ Some id → has (names_of accounts) name ≡ true
listed [] ids name id is = absurd (none-some id is)
listed (account ∷ rest) [] name id is = absurd (none-some id is)
listed (account ∷ rest) (first ∷ ids) name id is =
    elim (is_name name account.name) as (λ b. cond b (Some first) (id_of rest ids name) ≡ Some id → (b || has (names_of rest) name) ≡ true) [
      | true ↦ λ found. refl
      | false ↦ λ more. listed rest ids name id more
    ] is

-- what holds of the id of each name holds of each account, where no two accounts have one name
pub each_given :
    (P : Name → ℕ → Type 0) (accounts : List Account) (ids : List ℕ) → are_distinct (names_of accounts) ≡ true →
    ((name : Name) (id : ℕ) → id_of accounts ids name ≡ Some id → P name id) → Each P accounts ids
each_given P [] ids distinct given = tt
each_given P (account ∷ rest) [] distinct given = tt
each_given P (account ∷ rest) (first ∷ ids) distinct given = (
  given account.name first (ap (λ b. cond b (Some first) (id_of rest ids account.name)) (itself account.name)),
  each_given P rest ids parts.1 (λ name id is. given name id (ap (λ b. cond b (Some first) (id_of rest ids name)) (apart name id is) ∙ is)),
)
  where
    parts : (not (has (names_of rest) account.name) ≡ true) × (are_distinct (names_of rest) ≡ true)
    parts = and_parts (not (has (names_of rest) account.name)) (are_distinct (names_of rest)) distinct

    apart : (name : Name) (id : ℕ) → id_of rest ids name ≡ Some id → is_name name account.name ≡ false
    apart name id is =
        false_from_ne_true (is_name name account.name) (λ same.
        both_ways (has (names_of rest) account.name) (not-true (has (names_of rest) account.name) parts.0)
        (subst (λ n. has (names_of rest) n ≡ true) (name_exact name account.name same) (listed rest ids name id is)))

-- ---- accounts that are declared

pub group_account_names : (groups : List GroupSpec) → names_of (map group_account groups) ≡ map (λ (group : GroupSpec). group.name) groups
group_account_names [] = refl
group_account_names (group ∷ rest) = ap (λ names. group.name ∷ names) (group_account_names rest)

pub user_account_names : (users : List UserSpec) → names_of (map user_account users) ≡ map (λ (user : UserSpec). user.name) users
user_account_names [] = refl
user_account_names (user ∷ rest) = ap (λ names. user.name ∷ names) (user_account_names rest)

-- a group with an id is declared
pub declared_group :
    (groups : List GroupSpec) (ids : List ℕ) (name : Name) (id : ℕ) → id_of (map group_account groups) ids name ≡ Some id →
    (group : GroupSpec) × (find (λ (group : GroupSpec). is_name name group.name) groups ≡ Some group)
declared_group [] ids name id is = absurd (none-some id is)
declared_group (group ∷ rest) [] name id is = absurd (none-some id is)
declared_group (group ∷ rest) (first ∷ ids) name id is =
    elim (is_name name group.name) as (λ b. cond b (Some first) (id_of (map group_account rest) ids name) ≡ Some id →
    (found : GroupSpec) × (cond b (Some group) (find (λ (group : GroupSpec). is_name name group.name) rest) ≡ Some found)) [
      | true ↦ λ here. (group, refl)
      | false ↦ λ more. declared_group rest ids name id more
    ] is

-- where nothing is wrong with users, one with an id is declared, and its group is there
pub declared_user :
    (gids : Name → Option ℕ) (users : List UserSpec) (ids : List ℕ) (name : Name) (id : ℕ) →
    user_fault gids users ids ≡ None → id_of (map user_account users) ids name ≡ Some id →
    (user : UserSpec) × (gid : ℕ) × (find (λ (user : UserSpec). is_name name user.name) users ≡ Some user) × (gids user.group ≡ Some gid)
declared_user gids [] ids name id fine is = absurd (none-some id is)
declared_user gids (user ∷ rest) [] name id fine is = absurd (none-some id is)
declared_user gids (user ∷ rest) (first ∷ ids) name id fine is =
    elim (none_or_some (gids user.group)) [
      | inl none ↦ absurd (none-some (UnknownGroup user.name user.group) (sym (fine_at None none)))
      | inr found ↦
          (elim (is_name name user.name) as (λ b. user_fault gids rest ids ≡ None → cond b (Some first) (id_of (map user_account rest) ids name) ≡ Some id →
          (other : UserSpec) × (gid : ℕ) × (cond b (Some user) (find (λ (user : UserSpec). is_name name user.name) rest) ≡ Some other) × (gids other.group ≡ Some gid)) [
            | true ↦ λ fine_rest here. (user, found.0, refl, found.1)
            | false ↦ λ fine_rest more. declared_user gids rest ids name id fine_rest more
          ]) (fine_at (Some found.0) found.1) is
    ]
  where
    fine_at : (o : Option ℕ) → gids user.group ≡ o → cond (is_some o) (user_fault gids rest ids) (Some (UnknownGroup user.name user.group)) ≡ None
    fine_at o is = subst (λ o. cond (is_some o) (user_fault gids rest ids) (Some (UnknownGroup user.name user.group)) ≡ None) is fine

-- where nothing is wrong with users, each has an id
pub users_given : (gids : Name → Option ℕ) (users : List UserSpec) (ids : List ℕ) → user_fault gids users ids ≡ None → first_without (map user_account users) ids ≡ None
users_given gids [] ids fine = refl
users_given gids (user ∷ rest) [] fine = absurd (none-some (NoFreeId user.name) (sym fine))
users_given gids (user ∷ rest) (first ∷ ids) fine =
    elim (is_some (gids user.group)) as (λ b. cond b (user_fault gids rest ids) (Some (UnknownGroup user.name user.group)) ≡ None → first_without (map user_account rest) ids ≡ None) [
      | true ↦ λ fine_rest. users_given gids rest ids fine_rest
      | false ↦ λ wrong. absurd (none-some (UnknownGroup user.name user.group) (sym wrong))
    ] fine
