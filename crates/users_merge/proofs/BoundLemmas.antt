-- The ids that accounts get are ids.
use Rattle.std.proofs.Common.{ℕ, Bool, true, false, cond, List, [], ◌∷◌, ◌++◌, find, Option, None, Some, IfSome, arith}
use Rattle.std.specs.FinMap.{get}
use Rattle.std.specs.List.{AllByRecursion}
use Rattle.std.specs.Option.{option_or}
use Rattle.switch_names.specs.Names.{Name}
use Rattle.host_trait.specs.Ids.{Ids}
use Rattle.id_memory.specs.Ids.{AreIds}
use Rattle.users_merge.specs.Account.{Account, choose, give, has_id, span, unused, while_some}
use Rattle.users_merge.specs.Given.{IsId}
use Rattle.users_merge.proofs.GivingLemmas.{all_towards}

pub or_bounded : (o p : Option ℕ) → IfSome o IsId → IfSome p IsId → IfSome (option_or o p) IsId
or_bounded None p one other = other
or_bounded (Some id) p one other = one

unused_bounded : (used : List ℕ) (o : Option ℕ) → IfSome o IsId → IfSome (unused used o) IsId
unused_bounded used None is = tt
unused_bounded used (Some id) is = by (has_id used id)
  where
    by : (b : Bool) → IfSome (cond b None (Some id)) IsId
    by true = tt
    by false = is

find_bounded : (p : ℕ → Bool) (ids : List ℕ) → AllByRecursion IsId ids → IfSome (find p ids) IsId
find_bounded p [] all = tt
find_bounded p (id ∷ ids) all = by (p id) (find_bounded p ids all.1)
  where
    by : (b : Bool) → IfSome (find p ids) IsId → IfSome (cond b (Some id) (find p ids)) IsId
    by true later = all.0
    by false later = later

span_bounded : (system : Bool) → AllByRecursion IsId (span system)
unfolding span
span_bounded true = all_towards IsId 999 400 (λ n small. omega arith) (omega arith) (omega arith)
span_bounded false = all_towards IsId 1000 29999 (λ n small. omega arith) (omega arith) (omega arith)

module _ (rows : Name → Option ℕ) (known : Ids) (rows_bounded : (name : Name) → IfSome (rows name) IsId) (known_bounded : AreIds known) where
  chosen_bounded : (used : List ℕ) (account : Account) → IfSome account.wanted IsId → IfSome (choose rows known used account) IsId
  chosen_bounded used account asked =
      or_bounded _ _ (rows_bounded account.name)
      (or_bounded _ _ asked (or_bounded _ _ (unused_bounded used (get known account.name) (known_bounded account.name)) (find_bounded _ (span account.system) (span_bounded account.system))))

  -- the ids that are given are ids
  pub give_bounded : (accounts : List Account) (used : List ℕ) → AllByRecursion (λ account. IfSome account.wanted IsId) accounts → AllByRecursion IsId (give rows known used accounts)
  give_bounded [] used all = tt
  give_bounded (account ∷ accounts) used all = by (choose rows known used account) (chosen_bounded used account all.0) (λ id. give_bounded accounts (used ++ id ∷ []) all.1)
    where
      by : (o : Option ℕ) → IfSome o IsId → ((id : ℕ) → AllByRecursion IsId (give rows known (used ++ id ∷ []) accounts)) → AllByRecursion IsId (while_some o (λ id. give rows known (used ++ id ∷ []) accounts))
      by None is later = tt
      by (Some id) is later = (is, later id)
