-- A table that is read line by line.
use Rattle.std.specs.Prelude.{◌≡◌, ℕ, ◌+◌, length, List, [], ◌∷◌, ◌++◌, map, Option, None, Some, if◌then◌else◌}
use Rattle.std.specs.Borrow.{Bor}
use Rattle.switch_names.specs.Names.{Name, has}
use Rattle.account_text.specs.declared.passwd.PasswdRow.{PasswdRow}
use Rattle.account_text.specs.declared.passwd.PasswdFields.{PasswdFields}
use Rattle.account_text.specs.declared.group.GroupRow.{GroupRow}
use Rattle.account_text.specs.declared.group.GroupFields.{GroupFields}
use Rattle.account_text.specs.declared.shadow.ShadowRow.{ShadowRow}
use Rattle.account_text.specs.declared.shadow.ShadowFields.{ShadowFields}
use Rattle.account_text.specs.Field.{lines, members_of}

-- a row goes to the rows before it, unless one of them has its name
abbrev pub with_row : {Row : Type 0} → (Row → Name) → List Row → Option Row → List Row
with_row name_of rows None = rows
with_row name_of rows (Some row) = if has (map name_of rows) (name_of row) then rows else rows ++ row ∷ []

-- the names of the rows, and no others
abbrev pub AreNamesOf : {Row : Type 0} → (Row → Name) → List Row → List Name → Type 0
AreNamesOf name_of rows names = (name : Name) → has names name ≡ has (map name_of rows) name

-- the lines of what is left of a text, if anything is
abbrev pub lines_left : Option (Bor (List ℕ)) → List (List ℕ)
lines_left None = []
lines_left (Some text) = lines text.now

-- how much is left, more for an empty text than for none
abbrev pub left_len : Option (Bor (List ℕ)) → ℕ
left_len None = 0
left_len (Some text) = length text.now + 1

-- the row of the fields of a line of passwd
abbrev pub passwd_of : PasswdFields → PasswdRow
passwd_of read =
    record { name = read.name.now; password = read.password.now; uid = read.uid; gid = read.gid; gecos = read.gecos.now; home = read.home.now; shell = read.shell.now }

-- the row of the fields of a line of group
abbrev pub group_of : GroupFields → GroupRow
group_of read = record { name = read.name.now; password = read.password.now; gid = read.gid; members = members_of read.members.now }

-- the row of the fields of a line of shadow
abbrev pub shadow_of : ShadowFields → ShadowRow
shadow_of read = record { name = read.name.now; password = read.password.now; rest = read.rest.now }
