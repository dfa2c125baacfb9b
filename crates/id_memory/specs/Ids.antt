-- Remembered ids of users and groups: passwd(5) and group(5).
use Rattle.std.specs.Prelude.{◌≡◌, ℕ, ◌≤◌, List, length, map, take, drop, IfSome}
use Rattle.std.specs.FinMap.{get, entries, from_entries}
use Rattle.std.specs.List.{AllByRecursion}
use Rattle.std.specs.List.Sorted.{IsStrictlySortedBy}
use Rattle.std.specs.declared.cmp.Ordering.TheVariants.{Less}
use Rattle.switch_names.specs.Names.{Name}
use Rattle.switch_names.specs.Ids.{id_max}
use Rattle.host_trait.specs.Bytes.{bytes_cmp}
use Rattle.host_trait.specs.Ids.{Ids}
use Rattle.id_memory.specs.declared.id_row.IdRow.{IdRow}

-- each number is an id
abbrev pub AreIds : Ids → Type 0
AreIds ids = (name : Name) → IfSome (get ids name) (λ id. id ≤ id_max)

-- the names in order with their ids
abbrev pub rows_of : Ids → List IdRow
rows_of ids = map (λ e. record { name = e.0; id = e.1 }) (entries ids)

-- the ids that rows give
abbrev pub ids_of : List IdRow → Ids
ids_of rows = from_entries (map (λ row. (row.name, row.id)) rows)

abbrev pub names_of : List IdRow → List Name
names_of rows = map (λ row. row.name) rows

-- rows in order, each with an id
pub record IsSortedList (rows : List IdRow) : Type 0 where
  pub sorted : IsStrictlySortedBy bytes_cmp (names_of rows)
  pub bounded : AllByRecursion (λ row. row.id ≤ id_max) rows

-- the names before this place are lower than a name, those from it on are higher
pub record IsPlaceFor (rows : List IdRow) (name : Name) (at : ℕ) : Type 0 where
  pub within : at ≤ length rows
  pub lower : AllByRecursion (λ row. bytes_cmp row.name name ≡ Less) (take at rows)
  pub higher : AllByRecursion (λ row. bytes_cmp name row.name ≡ Less) (drop at rows)
