use Rattle.std.proofs.Common.{◌≡◌}
use Rattle.std.specs.BTreeMap.{is_at}
use Rattle.std.specs.FinMap.{get}
use Rattle.std.specs.List.{AllByRecursion}
use Rattle.std.specs.List.Sorted.{IsStrictlySortedBy}
use Rattle.std.specs.Map.{keys_of, lookup, values_of}
use Rattle.std.specs.Option.{option_or}
use Rattle.host_trait.specs.Bytes.{bytes_cmp}
use Rattle.switch_names.specs.Names.{Name}
use Rattle.users_merge.specs.Given.{IsId}
use Rattle.users_merge.proofs.remembering.id_map.Given as goal

-- what is left in order and what is made are all
abbrev pub invariant-loop-name : goal.invariant-loop-name
invariant-loop-name l = record {
  sorted : IsStrictlySortedBy bytes_cmp (keys_of l.name-iterator);
  bounded : AllByRecursion IsId (values_of l.name-iterator);
  ids : (name : Name) → option_or (lookup (is_at (bytes_cmp name)) l.name-iterator) (get l.made name) ≡ lookup (is_at (bytes_cmp name)) l.fn.ids.entries;
}
