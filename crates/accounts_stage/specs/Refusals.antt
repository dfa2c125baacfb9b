-- Why the accounts of a switch are refused: nixpkgs, update-users-groups.pl; NixOS manual, "User Management".
use Rattle.std.specs.Prelude.{ℕ, List, Option, None, Some, option_map, option_and_then, Ok, Err, is_none, if◌then◌else◌}
use Rattle.std.specs.Option.{option_or}
use Rattle.account_text.specs.Group.{group_row}
use Rattle.account_text.specs.Passwd.{passwd_row}
use Rattle.account_text.specs.Shadow.{shadow_row}
use Rattle.account_text.specs.Table.{wrong_line}
use Rattle.host_trait.specs.World.{Leaves}
use Rattle.switch_parts.specs.declared.refusal.MapFile.{MapFile}
use Rattle.switch_parts.specs.declared.refusal.MapFile.TheVariants.{Uid, Gid}
use Rattle.switch_parts.specs.declared.refusal.Refusal.{Refusal}
use Rattle.switch_parts.specs.declared.refusal.Refusal.TheVariants.{IdMap, NoFreeId, Table, UnknownGroup, UsersSpec}
use Rattle.switch_parts.specs.declared.refusal.TableFile.{TableFile}
use Rattle.switch_parts.specs.declared.refusal.TableFile.TheVariants.{Group, Passwd, Shadow}
use Rattle.users_merge.specs.declared.merge_fault.MergeFault.{MergeFault}
use Rattle.users_merge.specs.declared.merge_fault.MergeFault as faults
use Rattle.users_merge.specs.Merge.{fault, merge_of}
use Rattle.users_merge.specs.Stored.{Stored}
use Rattle.users_spec.specs.Fields.{Read}
use Rattle.users_spec.specs.Spec.{Accounts}
use Rattle.accounts_stage.specs.declared.memory.MemoryTexts.{MemoryTexts}
use Rattle.accounts_stage.specs.declared.reading.TableTexts.{TableTexts}
use Rattle.accounts_stage.specs.Rows.{merged_too_many, rows_too_many}
use Rattle.accounts_stage.specs.Standing.{ids_of, memory_in, stored_in, texts_in}

-- why a table can't be read, or nothing: its first line that is no row
abbrev pub wrong_table : TableFile → Option ℕ → Option Refusal
wrong_table file line = option_map (λ at. Table file at) line

-- why three texts aren't tables, or nothing
abbrev pub texts_refusal : TableTexts → Option Refusal
texts_refusal texts =
    option_or (wrong_table Group (wrong_line group_row texts.group))
    (option_or (wrong_table Passwd (wrong_line passwd_row texts.passwd)) (wrong_table Shadow (wrong_line shadow_row texts.shadow)))

-- why the tables that stand can't be read, or nothing
abbrev pub table_refusal : Leaves → Option Refusal
table_refusal leaves = texts_refusal (texts_in leaves)

-- why a content is no map of ids, or nothing
abbrev pub ids_refusal : MapFile → Option (List ℕ) → Option Refusal
ids_refusal file content = if is_none (ids_of content) then Some (IdMap file) else None

-- why the maps of ids can't be read, or nothing
abbrev pub maps_refusal : MemoryTexts → Option Refusal
maps_refusal texts = option_or (ids_refusal Uid texts.uids) (ids_refusal Gid texts.gids)

-- why what stands of accounts can't be read, or nothing
abbrev pub stored_refusal : Leaves → Option Refusal
stored_refusal leaves = option_or (table_refusal leaves) (maps_refusal (memory_in leaves))

-- a fault of a merge as a refusal; want of memory is none
abbrev pub merge_refusal : MergeFault → Option Refusal
merge_refusal (faults.TheVariants.NoFreeId name) = Some (NoFreeId name)
merge_refusal (faults.TheVariants.UnknownGroup user group) = Some (UnknownGroup user group)
merge_refusal faults.TheVariants.Memory = None

-- why accounts that are declared can't be merged with what stands, or nothing: the fault of the merge, and then too many merged rows
abbrev pub merging_refusal : Accounts → Stored → Option Refusal
merging_refusal spec s = option_or (option_and_then merge_refusal (fault spec s)) (merged_too_many (merge_of spec s))

-- why accounts that are declared so are refused, however many lines the tables have, or nothing: without a declaration the tables alone are read
abbrev pub declared_refusal : Leaves → Option (Read Accounts) → Option Refusal
declared_refusal leaves None = table_refusal leaves
declared_refusal leaves (Some (Err why)) = Some (UsersSpec why)
declared_refusal leaves (Some (Ok spec)) = option_or (table_refusal leaves) (option_or (maps_refusal (memory_in leaves)) (merging_refusal spec (stored_in leaves)))

-- why accounts that are declared so are refused, or nothing: the lines of the tables are counted first
abbrev pub refusal_of : Leaves → Option (Read Accounts) → Option Refusal
refusal_of leaves declared = option_or (rows_too_many leaves) (declared_refusal leaves declared)
