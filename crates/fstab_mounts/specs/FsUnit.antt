-- What the lines of an fstab say as unit files: systemd.mount(5), "fstab", and systemd.swap(5), "fstab".
use Rattle.std.specs.Prelude.{ℕ, List, [], ◌∷◌, codes, Option, option_map}
use Rattle.unit_text.specs.declared.assignment.Assignment.{Assignment}
use Rattle.unit_text.specs.UnitKey.{key_of}
use Rattle.fstab_mounts.specs.declared.fs_unit.FsUnit.{FsUnit}
use Rattle.fstab_mounts.specs.Escape.{mount_name, short_name, swap_name}
use Rattle.fstab_mounts.specs.Fields.{is_auto}

-- one assignment in a section
abbrev pub set_to : List ℕ → List ℕ → List ℕ → Assignment
set_to section key value = record { at = key_of section key; value = value }

-- the section of a swap
abbrev pub swap_text : List ℕ → List ℕ → List Assignment
swap_text what options = set_to (codes "Swap") (codes "What") what ∷ set_to (codes "Swap") (codes "Options") options ∷ []

-- the section of a mount
abbrev pub mount_text : List ℕ → List ℕ → List ℕ → List ℕ → List Assignment
mount_text what place kind options =
    set_to (codes "Mount") (codes "What") what ∷ set_to (codes "Mount") (codes "Where") place ∷ set_to (codes "Mount") (codes "Type") kind
    ∷ set_to (codes "Mount") (codes "Options") options ∷ []

-- the swap of a line, unless its name is too long
abbrev pub swap_of : List ℕ → List ℕ → Option FsUnit
swap_of what options =
    option_map (λ unit. record { unit = unit; text = swap_text what options; auto = is_auto options }) (short_name (swap_name what))

-- the mount of a line, unless its name is too long
abbrev pub mount_of : List ℕ → List ℕ → List ℕ → List ℕ → Option FsUnit
mount_of what place kind options =
    option_map (λ unit. record { unit = unit; text = mount_text what place kind options; auto = is_auto options }) (short_name (mount_name place))
