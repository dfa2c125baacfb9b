-- What is told of accounts and of /etc before they change, a line each: update-users-groups.pl and setup-etc.pl of nixpkgs.
use Rattle.std.specs.Prelude.{ℕ, ◌++◌, ◌∷◌, Bool, not, List, [], codes, filter, map, Option, None, Some, if◌then◌else◌}
use Rattle.std.specs.Fmt.{decimal}
use Rattle.std.specs.List.{flat_map}
use Rattle.account_text.specs.declared.group.GroupRow.{GroupRow}
use Rattle.account_text.specs.declared.passwd.PasswdRow.{PasswdRow}
use Rattle.account_text.specs.declared.tables.Tables.{Tables}
use Rattle.account_text.specs.Group.{group_name}
use Rattle.account_text.specs.Passwd.{passwd_name}
use Rattle.etc_clean.specs.declared.sorting.Sorted.{Sorted}
use Rattle.switch_names.specs.Names.{Name, has}
use Rattle.users_merge.specs.ByName.{row_ids}
use Rattle.users_merge.specs.declared.kept.Kept.{Kept}
use Rattle.users_merge.specs.Stored.{ordered}

-- a line that begins so
abbrev pub told : List ℕ → List ℕ → List ℕ
told front rest = front ++ (rest ++ 10 ∷ [])

-- a line for each of these
abbrev pub told_each : List ℕ → List Name → List ℕ
told_each front names = flat_map (told front) names

-- those of some names that others lack, in byte order
unfoldable pub lacking : List Name → List Name → List Name
lacking names others = ordered (filter (λ name. not (has others name)) names)

-- how the line of an account begins that keeps another id than the one that is asked for
abbrev pub kept_front : Bool → List ℕ
kept_front user = if user then codes "warn user " else codes "warn group "

-- the line of such an account
abbrev pub kept_line : Kept → List ℕ
kept_line kept = told (kept_front kept.user) (kept.name ++ (codes " keeps id " ++ decimal kept.id))

-- the line of an account that is added, with its id
abbrev pub added_line : List ℕ → Name → Option ℕ → List ℕ
added_line front name None = []
added_line front name (Some id) = told front (name ++ (32 ∷ decimal id))

-- the lines of the accounts that are added to a table
abbrev pub added_lines : {Row : Type 0} → (Row → Name) → (Row → ℕ) → List ℕ → List Row → List Name → List ℕ
added_lines name_of id_of front new names = flat_map (λ name. added_line front name (row_ids name_of id_of new name)) names

-- the lines of what a table drops, and of what it adds
abbrev pub changed_lines : {Row : Type 0} → (Row → Name) → (Row → ℕ) → List ℕ → List ℕ → List Row → List Row → List ℕ
changed_lines name_of id_of dropped added old new =
    told_each dropped (lacking (map name_of old) (map name_of new))
    ++ added_lines name_of id_of added new (lacking (map name_of new) (map name_of old))

-- the lines of the groups that are dropped and added
abbrev pub group_lines : List GroupRow → List GroupRow → List ℕ
group_lines old new = changed_lines group_name (λ row. row.gid) (codes "drop group ") (codes "add group ") old new

-- the lines of the users who are dropped and added
abbrev pub user_lines : List PasswdRow → List PasswdRow → List ℕ
user_lines old new = changed_lines passwd_name (λ row. row.uid) (codes "drop user ") (codes "add user ") old new

-- the lines of the groups, and then of the users
abbrev pub table_lines : Tables → Tables → List ℕ
table_lines old new = group_lines old.group new.group ++ user_lines old.passwd new.passwd

-- the lines of what is gone from /etc, and of the entries that are blocked there
abbrev pub etc_lines : Sorted → List ℕ
etc_lines sorted = told_each (codes "remove etc/") sorted.gone ++ told_each (codes "skip etc/") sorted.blocked
