-- Declared accounts with the ids that they get.
use Rattle.std.specs.Prelude.{ℕ, ◌≤◌, List, map}
use Rattle.switch_names.specs.Ids.{id_max}
use Rattle.users_merge.specs.declared.giving.Given.{Given}

-- the ids, in the order of declaration
abbrev pub given_ids : {Declared : Type 0} → List (Given Declared) → List ℕ
given_ids given = map (λ one. one.id) given

-- the accounts, in the order of declaration
abbrev pub given_accounts : {Declared : Type 0} → List (Given Declared) → List Declared
given_accounts given = map (λ one. one.account.now) given

-- an id is at most the greatest one
abbrev pub IsId : ℕ → Type 0
IsId id = id ≤ id_max
