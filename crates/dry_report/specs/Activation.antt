-- What a switch tells of accounts and of /etc, from the leaves where it begins: NixOS manual, "What happens during a system switch?".
use Rattle.std.specs.Prelude.{◌≡◌, ℕ, ◌++◌, List, [], Option, None, Some, Ok, Err}
use Rattle.std.specs.List.{flat_map}
use Rattle.accounts_stage.specs.AccountsPart.{tables_after}
use Rattle.accounts_stage.specs.Standing.{declared_by, stored_in, tables_in}
use Rattle.activation_stage.specs.Owners.{owners_after}
use Rattle.etc_clean.specs.declared.sorting.Sorted.{Sorted}
use Rattle.etc_clean.specs.Obsolete.{IsSortedOf}
use Rattle.etc_farm.specs.EtcPart.{items_of}
use Rattle.host_trait.specs.World.{Leaves}
use Rattle.switch_names.specs.Names.{Name}
use Rattle.users_merge.specs.declared.kept.Kept.{Kept}
use Rattle.users_merge.specs.Merge.{kept}
use Rattle.users_spec.specs.Fields.{Read}
use Rattle.users_spec.specs.Spec.{Accounts}
use Rattle.dry_report.specs.Lines.{etc_lines, kept_line, table_lines}

-- the accounts that are declared so and keep other ids than those that are asked for
abbrev pub kept_by : Leaves → Option (Read Accounts) → List Kept
kept_by leaves None = []
kept_by leaves (Some (Err why)) = []
kept_by leaves (Some (Ok spec)) = kept spec (stored_in leaves)

-- the lines of the accounts: those that keep other ids, and what the tables drop and add
abbrev pub account_lines : Name → Leaves → List ℕ
account_lines system leaves = flat_map kept_line (kept_by leaves (declared_by system leaves)) ++ table_lines (tables_in leaves) (tables_after system leaves)

-- what is told of an activation of a system
pub record IsActivationReport (system : Name) (leaves : Leaves) (text : List ℕ) : Type 0 where
  pub sorted : Sorted
  pub is_sorted : IsSortedOf (items_of system (owners_after system leaves) leaves) leaves sorted
  pub is_text : text ≡ account_lines system leaves ++ etc_lines sorted
