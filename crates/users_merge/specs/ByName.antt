-- Rows that are found by name.
use Rattle.std.specs.Prelude.{◌≡◌, ℕ, List, Option, option_map}
use Rattle.std.specs.Borrow.{Bor}
use Rattle.std.specs.BTreeMap.{BTreeMap, get}
use Rattle.host_trait.specs.Bytes.{bytes_cmp}
use Rattle.switch_names.specs.Names.{Name}
use Rattle.account_text.specs.Order.{row_named}

-- the row of a name
abbrev pub found_in : {Row : Type 0} → BTreeMap Name (Bor Row) → Name → Option Row
found_in by_name name = option_map (λ row. row.now) (get bytes_cmp by_name name)

-- each name has the first row of that name
abbrev pub Finds : {Row : Type 0} → (Row → Name) → BTreeMap Name (Bor Row) → List Row → Type 0
Finds name_of by_name rows = (name : Name) → found_in by_name name ≡ row_named name_of rows name

-- the ids of rows by their names
abbrev pub row_ids : {Row : Type 0} → (Row → Name) → (Row → ℕ) → List Row → Name → Option ℕ
row_ids name_of id_of rows name = option_map id_of (row_named name_of rows name)
