use Rattle.std.proofs.Common.{ℕ, List, length, Result, Ok, Err, IfErr, subst, rules}
use Rattle.std.specs.List.Sorted.{IsBinarySearchResult, IsSearchInRange}
use Rattle.std.proofs.lemmas.Fn.{always_returns_same}
use Rattle.host_trait.specs.Bytes.{bytes_cmp}
use Rattle.host_trait.proofs.Orders.{found_name, missing_name}
use Rattle.id_memory.specs.declared.id_row.IdRow.{IdRow}
use Rattle.id_memory.specs.Ids.{IsPlaceFor, IsSortedList}
use Rattle.id_memory.proofs.rows.find_row.Goals as goal

-- the search compares each row's name with the one that is sought
answers : (c : goal.After-binary_search_by) → IsBinarySearchResult (λ row. bytes_cmp row.name c.args.name.now) c.args.rows.now c.binary_search_by.result
answers c =
    let name = c.args.name.now in
    subst (λ (rows : List IdRow). IsBinarySearchResult (λ row. bytes_cmp row.name name) rows c.binary_search_by.result) c.as_slice.ensures
    (c.binary_search_by.ensures.position (λ row. bytes_cmp row.name name) (always_returns_same _ _ _ (λ a r q k. search rules)))

in_range : (c : goal.After-binary_search_by) → IsSearchInRange c.binary_search_by.result (length c.args.rows.now)
in_range c = subst (λ (rows : List IdRow). IsSearchInRange c.binary_search_by.result (length rows)) c.as_slice.ensures c.binary_search_by.ensures.bound

place : (rows : List IdRow) (name : List ℕ) (r : Result ℕ ℕ) → IsSortedList rows → IsSearchInRange r (length rows)
    → IsBinarySearchResult (λ row. bytes_cmp row.name name) rows r → IfErr r (λ at. IsPlaceFor rows name at)
place rows name (Ok at) is within h = tt
place rows name (Err at) is within h =
    let parts = missing_name (λ (row : IdRow). row.name) rows name (Err at) is.sorted within h in
    record { within = parts.0; lower = parts.1; higher = parts.2 }

pub returns-clause-found : goal.returns-clause-found
returns-clause-found c = found_name (λ (row : IdRow). row.name) c.args.rows.now c.args.name.now c.binary_search_by.result (in_range c) (answers c)

pub returns-clause-missing : goal.returns-clause-missing
returns-clause-missing c = place c.args.rows.now c.args.name.now c.binary_search_by.result c.requires (in_range c) (answers c)
