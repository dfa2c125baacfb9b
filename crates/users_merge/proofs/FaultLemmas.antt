-- What keeps accounts from being merged.
use Rattle.std.proofs.Common.{◌≡◌, ℕ, ◌≤◌, ◌<◌, Bool, true, false, cond, List, [], ◌∷◌, length, get_or, take, map, Option, None, Some, is_some, option_map, refl, sym, ap, arith}
use Rattle.switch_names.specs.Names.{Name}
use Rattle.users_spec.specs.declared.user_spec.UserSpec.{UserSpec}
use Rattle.users_merge.specs.Account.{Account, first_without, user_account}
use Rattle.users_merge.specs.Merge.{user_fault}
use Rattle.users_merge.specs.declared.merge_fault.MergeFault.{MergeFault}
use Rattle.users_merge.specs.declared.merge_fault.MergeFault.TheVariants.{NoFreeId, UnknownGroup}

-- where each account has an id, none is without
pub none_without : {Declared : Type 0} (asked : Declared → Account) (accounts : List Declared) (ids : List ℕ) → length accounts ≤ length ids → first_without (map asked accounts) ids ≡ None
none_without asked [] ids all = refl
none_without asked (account ∷ accounts) [] all = absurd (omega arith)
none_without asked (account ∷ accounts) (id ∷ ids) all = none_without asked accounts ids (omega arith)

-- the first account without an id is the one after those that have one
pub next_without : {Declared : Type 0} (asked : Declared → Account) (accounts : List Declared) (ids : List ℕ) (account : Declared) → length ids < length accounts → account ≡ get_or accounts (length ids) account →
    first_without (map asked accounts) ids ≡ Some (asked account).name
next_without asked [] ids account inside is = absurd (omega arith)
next_without asked (first ∷ accounts) [] account inside is = ap (λ a. Some (asked a).name) (sym is)
next_without asked (first ∷ accounts) (id ∷ ids) account inside is = next_without asked accounts ids account (omega arith) is

module _ (gids : Name → Option ℕ) where
  -- a fault among the users that have ids is the fault of all
  pub early_fault :
      (users : List UserSpec) (ids : List ℕ) (fault : MergeFault) → user_fault gids (take (length ids) users) ids ≡ Some fault → user_fault gids users ids ≡ Some fault
  early_fault [] [] fault is = is
  early_fault [] (id ∷ ids) fault is = is
  early_fault (user ∷ users) [] fault is = absurd (let none : None ≡ Some fault = is in cc)
  early_fault (user ∷ users) (id ∷ ids) fault is = by (is_some (gids user.group)) is (early_fault users ids fault)
    where
      by : (b : Bool) → cond b (user_fault gids (take (length ids) users) ids) (Some (UnknownGroup user.name user.group)) ≡ Some fault →
          (user_fault gids (take (length ids) users) ids ≡ Some fault → user_fault gids users ids ≡ Some fault) →
          cond b (user_fault gids users ids) (Some (UnknownGroup user.name user.group)) ≡ Some fault
      by true here later = later here
      by false here later = here

  -- where nothing is the matter with these, the fault is that of the first user without an id
  pub late_fault :
      (users : List UserSpec) (ids : List ℕ) → user_fault gids (take (length ids) users) ids ≡ None → user_fault gids users ids ≡ option_map NoFreeId (first_without (map user_account users) ids)
  late_fault [] ids fine = refl
  late_fault (user ∷ users) [] fine = refl
  late_fault (user ∷ users) (id ∷ ids) fine = by (is_some (gids user.group)) fine (late_fault users ids)
    where
      by : (b : Bool) → cond b (user_fault gids (take (length ids) users) ids) (Some (UnknownGroup user.name user.group)) ≡ None →
          (user_fault gids (take (length ids) users) ids ≡ None → user_fault gids users ids ≡ option_map NoFreeId (first_without (map user_account users) ids)) →
          cond b (user_fault gids users ids) (Some (UnknownGroup user.name user.group)) ≡ option_map NoFreeId (first_without (map user_account users) ids)
      by true here later = later here
      by false here later = absurd (let wrong : Some (UnknownGroup user.name user.group) ≡ None = here in cc)
