-- What is told of a collection before it removes anything, a line each: nix-collect-garbage(1).
use Rattle.std.specs.Prelude.{ℕ, ◌++◌, List, codes}
use Rattle.std.specs.Fmt.{decimal}
use Rattle.std.specs.List.{flat_map}
use Rattle.switch_names.specs.Names.{Name}
use Rattle.dry_report.specs.Lines.{told, told_each}

-- the line of a generation that goes
abbrev pub gone_line : ℕ → List ℕ
gone_line number = told (codes "drop generation ") (decimal number)

-- the report of a collection: a line for each generation that goes, and one for each store path, in their orders
abbrev pub collection_lines : List ℕ → List Name → List ℕ
collection_lines numbers names = flat_map gone_line numbers ++ told_each (codes "drop store ") names
