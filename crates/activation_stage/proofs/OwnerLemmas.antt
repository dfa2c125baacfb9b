-- The owners of tables are one map of ids for each of the two.
use Rattle.std.proofs.Common.{◌≡◌, ℕ, Bool, true, false, cond, List, [], ◌∷◌, map, Some, option_map, refl, sym, ◌∙◌}
use Rattle.std.specs.BTreeMap.{is_at}
use Rattle.std.specs.Map.{lookup}
use Rattle.host_trait.specs.World.{bytes_cmp}
use Rattle.host_trait.proofs.Places.{alike, found}
use Rattle.account_text.specs.declared.tables.Tables.{Tables}
use Rattle.account_text.specs.Group.{group_name}
use Rattle.account_text.specs.Order.{row_named}
use Rattle.account_text.specs.Passwd.{passwd_name}
use Rattle.host_trait.specs.Ids.{Ids}
use Rattle.etc_manifest.specs.Owners.{AreIdsOf, AreOwnersOf, OwnerIds}
use Rattle.switch_names.specs.Names.{Name, is_name}
use Rattle.activation_stage.specs.Owners.{ids_named, owners_in}

module _ {Row : Type 0} (name_of : Row → Name) (number_of : Row → ℕ) where
  id_of_row : (rows : List Row) (q : Name) → lookup (is_at (bytes_cmp q)) (map (λ row. (name_of row, number_of row)) rows) ≡ option_map number_of (row_named name_of rows q)
  id_of_row [] q = refl
  id_of_row (row ∷ rows) q = by (is_name q (name_of row)) (id_of_row rows q)
    where
      by : (b : Bool) → lookup (is_at (bytes_cmp q)) (map (λ row. (name_of row, number_of row)) rows) ≡ option_map number_of (row_named name_of rows q) →
          cond b (Some (number_of row)) (lookup (is_at (bytes_cmp q)) (map (λ row. (name_of row, number_of row)) rows)) ≡ option_map number_of (cond b (Some row) (row_named name_of rows q))
      by true rest = refl
      by false rest = rest

  ids_are : (rows : List Row) (ids : Ids) → AreIdsOf name_of number_of rows ids → ids ≡ ids_named name_of number_of rows
  ids_are rows ids are = alike ids (ids_named name_of number_of rows) (λ q. are q ∙ sym (found (map (λ row. (name_of row, number_of row)) rows) q ∙ id_of_row rows q))

-- owners of tables are the ones that they have
pub owners_are : (tables : Tables) (owners : OwnerIds) → AreOwnersOf tables owners → owners ≡ owners_in tables
owners_are tables owners are = λ i. record {
  users = ids_are passwd_name (λ row. row.uid) tables.passwd owners.users are.users i;
  groups = ids_are group_name (λ row. row.gid) tables.group owners.groups are.groups i;
}
