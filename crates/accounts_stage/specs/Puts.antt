-- The puts of an answer of a merge: nixpkgs, update-users-groups.pl.
use Rattle.std.specs.Prelude.{◌≡◌, ◌++◌, true, List, [], Option, None, Some}
use Rattle.std.specs.List.{list_all}
use Rattle.users_merge.specs.declared.merged.Merged.{Merged}
use Rattle.tree_put.specs.declared.leaf_put.LeafPut.{LeafPut}
use Rattle.accounts_stage.specs.Files.{ids_puts, names_puts, nine_puts, table_puts}
use Rattle.accounts_stage.specs.Places.{owns_accounts}

-- the puts of an answer of a merge
unfoldable pub answer_puts : Merged → List LeafPut
answer_puts merged = nine_puts merged.union merged.remembered merged.tables merged.declared

-- the puts before those of the names that are declared now
abbrev pub first_puts : Merged → List LeafPut
first_puts merged = names_puts merged.union ++ (ids_puts merged.remembered ++ table_puts merged.tables)

-- the same of an answer that is planned, where there is one
abbrev pub first_planned : Option Merged → List LeafPut
first_planned None = []
first_planned (Some merged) = first_puts merged

-- the puts of the names that are declared now, where a merge is planned
abbrev pub last_planned : Option Merged → List LeafPut
last_planned None = []
last_planned (Some merged) = names_puts merged.declared

-- each put is at a place of accounts
abbrev pub AreAtAccounts : List LeafPut → Type 0
AreAtAccounts puts = list_all (λ put. owns_accounts put.at) puts ≡ true
