-- The units of an fstab: fstab(5), systemd-fstab-generator(8).
use Rattle.std.specs.Prelude.{ℕ, ◌==◌, Bool, false, not, List, [], ◌∷◌, filter, codes, Option, None, if◌then◌else◌}
use Rattle.std.specs.List.{filter_map, slice_split}
use Rattle.std.specs.Str.{is_utf8}
use Rattle.switch_names.specs.Names.{is_name}
use Rattle.fstab_mounts.specs.declared.fs_unit.FsUnit.{FsUnit}
use Rattle.fstab_mounts.specs.Fields.{fields_of, is_word, unescaped}
use Rattle.fstab_mounts.specs.FsUnit.{mount_of, swap_of}

-- a text begins with this byte
abbrev pub begins_with : ℕ → List ℕ → Bool
begins_with byte [] = false
begins_with byte (first ∷ rest) = first == byte

-- what the fields of a line give: comments, and what is neither a swap nor has an absolute path, are passed over
abbrev pub unit_of_entry : List ℕ → List ℕ → List ℕ → List ℕ → Option FsUnit
unit_of_entry what place kind options =
    if begins_with 35 what then None
    else if is_word kind (codes "swap") then swap_of (unescaped what) options
    else if begins_with 47 (unescaped place) then mount_of (unescaped what) (unescaped place) kind options
    else None

-- a line has at least four fields
abbrev pub unit_of_fields : List (List ℕ) → Option FsUnit
unit_of_fields [] = None
unit_of_fields (what ∷ []) = None
unit_of_fields (what ∷ place ∷ []) = None
unit_of_fields (what ∷ place ∷ kind ∷ []) = None
unit_of_fields (what ∷ place ∷ kind ∷ options ∷ more) = unit_of_entry what place kind options

-- a line that isn't UTF-8 is passed over
abbrev pub unit_of_line : List ℕ → Option FsUnit
unit_of_line line = if is_utf8 line then unit_of_fields (fields_of line) else None

-- the units of all lines
abbrev pub units_in : List ℕ → List FsUnit
units_in bytes = filter_map unit_of_line (slice_split (λ byte. byte == 10) bytes)

-- of units with one name the first stands
abbrev pub first_of_each : List FsUnit → List FsUnit
first_of_each [] = []
first_of_each (unit ∷ rest) = unit ∷ filter (λ other. not (is_name unit.unit other.unit)) (first_of_each rest)

-- the units of an fstab, in the order of its lines
abbrev pub fstab_units : List ℕ → List FsUnit
fstab_units bytes = first_of_each (units_in bytes)
