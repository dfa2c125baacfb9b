-- How an entry is placed: NixOS manual, `environment.etc.<name>.mode`.
use Rattle.std.specs.Prelude.{ℕ, ◌&&◌, Bool, List, length, codes, nat_eq, nat_le, nat_lt, Option, None, Some, option_and_then, Result, Ok, Err, if◌then◌else◌}
use Rattle.std.specs.Cmp.Lexicographic.{pointwise}
use Rattle.std.specs.FinMap.{get}
use Rattle.std.specs.List.{list_all}
use Rattle.std.specs.Str.Parse.{digits_value}
use Rattle.switch_names.specs.Names.{Name}
use Rattle.host_trait.specs.declared.leaf.LeafKind.{LeafKind}
use Rattle.host_trait.specs.declared.leaf.LeafKind.TheVariants.{File, Link}
use Rattle.host_trait.specs.World.{Leaves}
use Rattle.leaf_limits.specs.Limits.{is_long}
use Rattle.etc_manifest.specs.declared.item.ItemKind.{ItemKind}
use Rattle.etc_manifest.specs.declared.item.ItemKind.TheVariants.{Linked, Copied, Direct}
use Rattle.etc_manifest.specs.declared.manifest_fault.ManifestFault.{ManifestFault}
use Rattle.etc_manifest.specs.declared.manifest_fault.ManifestFault.TheVariants.{Entry, Owner}
use Rattle.etc_manifest.specs.declared.mode.Mode.{Mode}
use Rattle.etc_manifest.specs.declared.mode.Mode.TheVariants.{DirectSymlink, Bits}
use Rattle.etc_manifest.specs.declared.reading.Parts.{Parts}
use Rattle.etc_manifest.specs.Companion.{companion, has_long_owner, parts_of}
use Rattle.etc_manifest.specs.Owners.{OwnerIds, owner_id}
use Rattle.etc_manifest.specs.Place.{path_in}

abbrev pub is_octal_digit : ℕ → Bool
is_octal_digit byte = nat_le 48 byte && nat_le byte 55

-- 1 to 4 octal digits
abbrev pub is_octal : List ℕ → Bool
is_octal text = list_all is_octal_digit text && nat_lt 0 (length text) && nat_le (length text) 4

-- a mode is the word for a link of the entry's own, or octal digits
abbrev pub mode_of : List ℕ → Option Mode
mode_of text =
    if pointwise nat_eq text (codes "direct-symlink") then Some DirectSymlink
    else if is_octal text then Some (Bits (digits_value 8 text))
    else None

-- the target of a link
abbrev pub target_of : Option LeafKind → Option (List ℕ)
target_of None = None
target_of (Some (File bytes mode uid gid)) = None
target_of (Some (Link target)) = Some target

-- the target of the link at a path, where what it leads to isn't too long
abbrev pub short_target : Leaves → List ℕ → Option (List ℕ)
short_target leaves at = if is_long leaves at then None else target_of (get leaves at)

-- an entry whose link is placed itself has to be one
abbrev pub direct_kind : Name → Option (List ℕ) → Result ItemKind ManifestFault
direct_kind name None = Err (Entry name)
direct_kind name (Some target) = Ok (Direct target)

-- the owners of a copy have to be known
abbrev pub owned_kind : Name → List ℕ → ℕ → Option ℕ → Option ℕ → Result ItemKind ManifestFault
owned_kind name bytes mode (Some uid) (Some gid) = Ok (Copied (File bytes mode uid gid))
owned_kind name bytes mode uid gid = Err (Owner name)

-- a copy has to have content, and so have those companions that stand there
abbrev pub copied_by : OwnerIds → Name → ℕ → Option (List ℕ) → Option (List ℕ) → Option (List ℕ) → Result ItemKind ManifestFault
copied_by owners name mode (Some bytes) (Some uid) (Some gid) = owned_kind name bytes mode (owner_id owners.users uid) (owner_id owners.groups gid)
copied_by owners name mode bytes uid gid = Err (Entry name)

abbrev pub copied_kind : OwnerIds → Name → ℕ → Parts → Result ItemKind ManifestFault
copied_kind owners name mode parts = copied_by owners name mode parts.bytes parts.uid parts.gid

module _ (has : Name → Bool) (leaves : Leaves) (folder : List ℕ) (owners : OwnerIds) (name : Name) where
  -- an entry with this mode
  abbrev pub kind_with : Option Mode → Result ItemKind ManifestFault
  kind_with None = Err (Entry name)
  kind_with (Some DirectSymlink) =
      if has_long_owner has leaves folder name then Err (Entry name) else direct_kind name (short_target leaves (path_in folder name))
  kind_with (Some (Bits mode)) = copied_kind owners name mode (parts_of has leaves folder name)

  -- an entry by what its `.mode` says: without one it is a link into the farm
  abbrev pub kind_by : Option (Option (List ℕ)) → Result ItemKind ManifestFault
  kind_by None = Ok Linked
  kind_by (Some text) = kind_with (option_and_then mode_of text)

  -- how an entry is placed, or why it can't be
  abbrev pub kind_of : Result ItemKind ManifestFault
  kind_of = kind_by (companion has leaves folder name (codes ".mode"))
