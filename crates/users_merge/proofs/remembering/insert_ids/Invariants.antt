use Rattle.std.proofs.Common.{◌≡◌, ◌≤◌, drop, length}
use Rattle.std.specs.BTreeMap.{get}
use Rattle.std.specs.List.{AllByRecursion}
use Rattle.std.specs.Map.{values_of}
use Rattle.std.specs.Option.{option_or}
use Rattle.host_trait.specs.Bytes.{bytes_cmp}
use Rattle.switch_names.specs.Names.{Name}
use Rattle.users_merge.specs.ByName.{row_ids}
use Rattle.users_merge.specs.Given.{IsId}
use Rattle.users_merge.proofs.remembering.insert_ids.Given as goal

-- the rows from this place on have given their ids
abbrev pub invariant-loop-at : goal.invariant-loop-at
invariant-loop-at g l = record {
  within : l.at ≤ length l.rows;
  ids : (name : Name) → get bytes_cmp l.ids name ≡ option_or (row_ids g.R.Named.name_of g.R.Numbered.id_of (drop l.at l.rows) name) (get bytes_cmp l.fn.ids name);
  bounded : AllByRecursion IsId (values_of l.ids.entries);
}

abbrev pub decreases-loop-at : goal.decreases-loop-at
decreases-loop-at g l = l.at
