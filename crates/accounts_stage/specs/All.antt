-- All that stands of accounts, as it is read: passwd(5), group(5), shadow(5); nixpkgs, update-users-groups.pl.
use Rattle.account_text.specs.declared.tables.Tables.{Tables}
use Rattle.account_text.specs.Group.{IsSoundGroup}
use Rattle.account_text.specs.Passwd.{IsSoundPasswd}
use Rattle.account_text.specs.Shadow.{IsSoundShadow}
use Rattle.host_trait.specs.World.{Leaves}
use Rattle.accounts_stage.specs.declared.memory.MemoryTexts.{MemoryTexts}
use Rattle.users_merge.specs.Stored as merges
use Rattle.users_merge.specs.Stored.{stored_of}
use Rattle.accounts_stage.specs.declared.stored.Stored.{Stored}
use Rattle.accounts_stage.specs.Standing.{declared_of, memory_in, remembered_of, tables_in}

-- tables, and what texts say beside them
abbrev pub all_of : Tables → MemoryTexts → Stored
all_of tables texts = record { tables = tables; remembered = remembered_of texts; declared = declared_of texts }

-- all that stands of accounts
abbrev pub all_in : Leaves → Stored
all_in leaves = all_of (tables_in leaves) (memory_in leaves)

-- what was read, as a merge takes it
abbrev pub stored_with : Stored → merges.Stored
stored_with stored = stored_of stored.tables stored.remembered stored.declared

-- each of three tables can be written
pub record AreSoundTables (tables : Tables) : Type 0 where
  pub group : IsSoundGroup tables.group
  pub passwd : IsSoundPasswd tables.passwd
  pub shadow : IsSoundShadow tables.shadow
