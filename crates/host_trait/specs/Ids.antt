-- Ids by the names of accounts: passwd(5) and group(5).
use Rattle.std.specs.Prelude.{ℕ}
use Rattle.std.specs.Coded.{Coded, coded_list, coded_ℕ}
use Rattle.std.specs.FinMap.{FinMap}
use Rattle.std.specs.FinMap as map_of
use Rattle.host_trait.specs.Bytes.{bytes_cmp}

abbrev pub Ids : Type 0
Ids = FinMap bytes_cmp ℕ

abbrev pub ids_code : Coded Ids
ids_code = map_of.code (coded_list coded_ℕ) coded_ℕ
