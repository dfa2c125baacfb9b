-- The files of accounts that a merge leaves, and the order in which they are put: nixpkgs, update-users-groups.pl.
use Rattle.std.specs.Prelude.{ℕ, ◌∷◌, ◌++◌, List, [], Option, None, Some, if◌then◌else◌}
use Rattle.std.specs.List.{flat_map}
use Rattle.host_trait.specs.Leaf.{open_file}
use Rattle.account_text.specs.declared.tables.Tables.{Tables}
use Rattle.account_text.specs.Group.{group_text}
use Rattle.account_text.specs.Passwd.{passwd_text}
use Rattle.account_text.specs.Shadow.{shadow_text}
use Rattle.host_trait.specs.declared.leaf.LeafKind.{LeafKind}
use Rattle.host_trait.specs.declared.leaf.LeafKind.TheVariants.{File}
use Rattle.host_trait.specs.World.{is_path}
use Rattle.id_memory.specs.Json.{ids_text}
use Rattle.switch_names.specs.Names.{Name}
use Rattle.users_merge.specs.declared.declared_names.Declared.{Declared}
use Rattle.users_merge.specs.declared.remembered.Remembered.{Remembered}
use Rattle.users_merge.specs.Order.{group_rows, passwd_rows, shadow_rows}
use Rattle.users_merge.specs.Stored.{Merged}
use Rattle.tree_put.specs.declared.leaf_put.LeafPut.{LeafPut}
use Rattle.tree_put.specs.Sequence.{put_at}
use Rattle.accounts_stage.specs.Places.{gids_place, group_place, groups_place, passwd_place, shadow_place, uids_place, users_place}

-- a file of mode 0600 that root owns
abbrev pub closed_file : List ℕ → LeafKind
closed_file text = File text 384 0 0

-- names as they are written: one a line
abbrev pub names_text : List Name → List ℕ
names_text names = flat_map (λ name. name ++ 10 ∷ []) names

-- the leaf that a merge leaves at a place of accounts
abbrev pub merged_end : Merged → Name → Option LeafKind
merged_end m q =
    if is_path q group_place then Some (open_file (group_text (group_rows m)))
    else if is_path q passwd_place then Some (open_file (passwd_text (passwd_rows m)))
    else if is_path q shadow_place then Some (closed_file (shadow_text (shadow_rows m)))
    else if is_path q groups_place then Some (open_file (names_text m.groups))
    else if is_path q users_place then Some (open_file (names_text m.users))
    else if is_path q gids_place then Some (open_file (ids_text m.gids))
    else if is_path q uids_place then Some (open_file (ids_text m.uids))
    else None

-- the puts of names
abbrev pub names_puts : Declared → List LeafPut
names_puts names = put_at users_place (open_file (names_text names.users)) ∷ put_at groups_place (open_file (names_text names.groups)) ∷ []

-- the puts of ids
abbrev pub ids_puts : Remembered → List LeafPut
ids_puts ids = put_at uids_place (open_file (ids_text ids.uids)) ∷ put_at gids_place (open_file (ids_text ids.gids)) ∷ []

-- the puts of tables
abbrev pub table_puts : Tables → List LeafPut
table_puts tables =
    put_at group_place (open_file (group_text tables.group))
    ∷ put_at passwd_place (open_file (passwd_text tables.passwd))
    ∷ put_at shadow_place (closed_file (shadow_text tables.shadow))
    ∷ []

-- Nine puts in their order: the names with the earlier ones go first, and those that are declared now last, so that
-- whoever is dropped from a table counts as declared until then.
abbrev pub nine_puts : Declared → Remembered → Tables → Declared → List LeafPut
nine_puts union ids tables declared = names_puts union ++ (ids_puts ids ++ (table_puts tables ++ names_puts declared))

-- the rows of a merge, in the order of its tables
abbrev pub tables_with : Merged → Tables
tables_with m = record { group = group_rows m; passwd = passwd_rows m; shadow = shadow_rows m }

-- the nine puts of a merge
unfoldable pub account_puts : Merged → List LeafPut
account_puts m = nine_puts
    (record { users = m.all_users; groups = m.all_groups }) (record { uids = m.uids; gids = m.gids })
    (tables_with m) (record { users = m.users; groups = m.groups })
