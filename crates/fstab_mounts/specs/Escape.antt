-- Names of units that stand for paths: systemd.unit(5), "String Escaping for Inclusion in Unit Names".
use Rattle.std.specs.Prelude.{ℕ, ◌/◌, ◌%◌, ◌||◌, ◌==◌, Bool, not, List, [], ◌∷◌, ◌++◌, length, filter, codes, nat_lt, Option, None, Some, if◌then◌else◌}
use Rattle.std.specs.Char.{digit_char, is_ascii_alphanumeric}
use Rattle.std.specs.List.{flat_map, list_any}
use Rattle.switch_names.specs.Path.{names_of}
use Rattle.switch_names.specs.UnitKind.{ending_of}
use Rattle.switch_names.specs.declared.name_fault.NameFault.{NameFault}
use Rattle.switch_names.specs.declared.name_fault.NameFault.TheVariants.{Long}
use Rattle.switch_names.specs.declared.unit_kind.UnitKind.{UnitKind}
use Rattle.switch_names.specs.declared.unit_kind.UnitKind.TheVariants.{Mount, Swap}
use Rattle.switch_names.specs.Texts.{is_empty}

-- an ASCII letter or digit, or one of three signs
abbrev pub is_plain : ℕ → Bool
is_plain byte = is_ascii_alphanumeric byte || list_any (λ sign. byte == sign) (codes ":_.")

-- a byte as `\x` and two hexadecimal digits in lower case
abbrev pub in_digits : ℕ → List ℕ
in_digits byte = 92 ∷ 120 ∷ digit_char (byte / 16) ∷ digit_char (byte % 16) ∷ []

-- a plain byte stands for itself
abbrev pub escaped_byte : ℕ → List ℕ
escaped_byte byte = if is_plain byte then byte ∷ [] else in_digits byte

-- a name as it stands in a unit's name
abbrev pub escaped : List ℕ → List ℕ
escaped name = flat_map escaped_byte name

-- the first name of a path: a dot at the beginning doesn't stand for itself
abbrev pub escaped_first : List ℕ → List ℕ
escaped_first [] = []
escaped_first (byte ∷ rest) = (if byte == 46 then in_digits byte else escaped_byte byte) ++ escaped rest

-- names are joined by `-`
abbrev pub joined : List (List ℕ) → List ℕ
joined [] = []
joined (first ∷ rest) = escaped_first first ++ flat_map (λ name. 45 ∷ escaped name) rest

-- a name isn't empty
abbrev pub is_some_name : List ℕ → Bool
is_some_name name = not (is_empty name)

-- the names of a path: slashes at its ends, and all but one of several, make no difference
abbrev pub path_names : List ℕ → List (List ℕ)
path_names path = filter is_some_name (names_of path)

-- a path as it stands in a unit's name; one without names is `-`
abbrev pub escaped_path : List ℕ → List ℕ
escaped_path path = if is_empty (joined (path_names path)) then 45 ∷ [] else joined (path_names path)

-- the name of the unit of a kind that stands for a path
abbrev pub path_unit : UnitKind → List ℕ → List ℕ
path_unit kind path = escaped_path path ++ ending_of kind

-- the name of the unit that mounts a file system at a path
abbrev pub mount_name : List ℕ → List ℕ
mount_name path = path_unit Mount path

-- the name of the unit that turns a swap on
abbrev pub swap_name : List ℕ → List ℕ
swap_name path = path_unit Swap path

-- a unit's name has at most 255 bytes
abbrev pub long_fault : List ℕ → Option NameFault
long_fault name = if nat_lt 255 (length name) then Some Long else None

-- the name, where it isn't too long
abbrev pub short_name : List ℕ → Option (List ℕ)
short_name name = if nat_lt 255 (length name) then None else Some name

-- the names so far and one more
abbrev pub with_name : List ℕ → List ℕ → List ℕ
with_name text name =
    if is_empty name then text
    else if is_empty text then escaped_first name
    else text ++ 45 ∷ escaped name
