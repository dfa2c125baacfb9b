-- Who can own what is put below /etc: passwd(5), group(5); NixOS manual, `environment.etc.<name>.user`.
use Rattle.std.specs.Prelude.{ℕ, List, map}
use Rattle.std.specs.FinMap.{from_entries}
use Rattle.account_text.specs.declared.tables.Tables.{Tables}
use Rattle.account_text.specs.Group.{group_name}
use Rattle.account_text.specs.Passwd.{passwd_name}
use Rattle.accounts_stage.specs.AccountsPart.{tables_after}
use Rattle.host_trait.specs.Ids.{Ids}
use Rattle.etc_manifest.specs.Owners.{OwnerIds}
use Rattle.host_trait.specs.World.{Leaves}
use Rattle.switch_names.specs.Names.{Name}

-- the ids of rows by their names; of two rows with one name the first stands
abbrev pub ids_named : {Row : Type 0} → (Row → Name) → (Row → ℕ) → List Row → Ids
ids_named name_of number_of rows = from_entries (map (λ row. (name_of row, number_of row)) rows)

-- the owners that tables have
abbrev pub owners_in : Tables → OwnerIds
owners_in tables = record {
  users = ids_named passwd_name (λ row. row.uid) tables.passwd;
  groups = ids_named group_name (λ row. row.gid) tables.group;
}

-- the owners of the tables that a switch to a system leaves
unfoldable pub owners_after : Name → Leaves → OwnerIds
owners_after system leaves = owners_in (tables_after system leaves)
