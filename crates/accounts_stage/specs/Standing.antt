-- The accounts that stand, and what a system declares: passwd(5), group(5), shadow(5); nixpkgs, update-users-groups.pl.
use Rattle.std.specs.Prelude.{ℕ, ◌==◌, ◌||◌, ◌&&◌, Bool, List, [], filter, Option, Some, option_map}
use Rattle.std.specs.FinMap.{empty}
use Rattle.std.specs.List.{slice_split}
use Rattle.std.specs.Option.{option_map_or, unwrap_or}
use Rattle.std.specs.Str.{is_utf8}
use Rattle.account_text.specs.declared.tables.Tables.{Tables}
use Rattle.account_text.specs.Group.{group_name, group_row}
use Rattle.account_text.specs.Passwd.{passwd_name, passwd_row}
use Rattle.account_text.specs.Shadow.{shadow_name, shadow_row}
use Rattle.account_text.specs.Table.{rows_of}
use Rattle.host_trait.specs.World.{Leaves, content_of}
use Rattle.host_trait.specs.Ids.{Ids}
use Rattle.id_memory.specs.Json.{ids_read}
use Rattle.switch_names.specs.Names.{Name}
use Rattle.users_merge.specs.declared.declared_names.Declared.{Declared}
use Rattle.users_merge.specs.declared.remembered.Remembered.{Remembered}
use Rattle.users_merge.specs.Stored.{Stored, ordered, stored_of}
use Rattle.users_spec.specs.AccountName.{is_account_name}
use Rattle.users_spec.specs.Fields.{Read}
use Rattle.users_spec.specs.Spec.{Accounts, accounts_of}
use Rattle.accounts_stage.specs.declared.memory.MemoryTexts.{MemoryTexts}
use Rattle.accounts_stage.specs.declared.reading.TableTexts.{TableTexts}
use Rattle.accounts_stage.specs.Places.{gids_place, group_place, groups_place, passwd_place, shadow_place, spec_path, uids_place, users_place}

-- the bytes at a place: where nothing stands, there are none
abbrev pub bytes_at : Leaves → Name → List ℕ
bytes_at leaves at = unwrap_or (content_of leaves at) []

-- a blank, a tab or a line feed
abbrev pub is_between : ℕ → Bool
is_between byte = byte == 32 || (byte == 9 || byte == 10)

-- a text is a name of an account
unfoldable pub is_name_text : List ℕ → Bool
is_name_text text = is_utf8 text && is_account_name text

-- the names in a text, in byte order and each once: what is no name is passed over
abbrev pub names_in : List ℕ → List Name
names_in bytes = ordered (filter is_name_text (slice_split is_between bytes))

-- the texts of the three tables
abbrev pub texts_in : Leaves → TableTexts
texts_in leaves = record { group = bytes_at leaves group_place; passwd = bytes_at leaves passwd_place; shadow = bytes_at leaves shadow_place }

-- the rows of three tables
abbrev pub tables_of : TableTexts → Tables
tables_of texts = record {
  group = rows_of group_row group_name texts.group;
  passwd = rows_of passwd_row passwd_name texts.passwd;
  shadow = rows_of shadow_row shadow_name texts.shadow;
}

-- the rows of the three tables that stand
abbrev pub tables_in : Leaves → Tables
tables_in leaves = tables_of (texts_in leaves)

-- the texts of what is remembered
abbrev pub memory_in : Leaves → MemoryTexts
memory_in leaves = record {
  uids = content_of leaves uids_place;
  gids = content_of leaves gids_place;
  users = bytes_at leaves users_place;
  groups = bytes_at leaves groups_place;
}

-- the ids that a content says, where it is a map: one that isn't there says none
abbrev pub ids_of : Option (List ℕ) → Option Ids
ids_of content = option_map_or ids_read content (Some empty)

-- the ids that are remembered
abbrev pub remembered_of : MemoryTexts → Remembered
remembered_of texts = record { uids = unwrap_or (ids_of texts.uids) empty; gids = unwrap_or (ids_of texts.gids) empty }

-- the names that were declared
abbrev pub declared_of : MemoryTexts → Declared
declared_of texts = record { users = names_in texts.users; groups = names_in texts.groups }

-- all that stands of accounts
abbrev pub stored_in : Leaves → Stored
stored_in leaves = stored_of (tables_in leaves) (remembered_of (memory_in leaves)) (declared_of (memory_in leaves))

-- what a system declares of accounts, where it does, or the first fault of that
abbrev pub declared_by : Name → Leaves → Option (Read Accounts)
declared_by system leaves = option_map accounts_of (content_of leaves (spec_path system))
