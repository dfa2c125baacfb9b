-- The entries of a system's etc: NixOS manual, `environment.etc`.
use Rattle.std.specs.Prelude.{◌≡◌, ℕ, Bool, true, not, is_some, List, [], map, filter, Option, None, Some, Result, Ok, Err, if◌then◌else◌}
use Rattle.std.specs.FinMap.{get}
use Rattle.std.specs.List.{filter_map}
use Rattle.std.specs.declared.cmp.Ordering.TheVariants.{Less}
use Rattle.switch_names.specs.Names.{Name, has}
use Rattle.host_trait.specs.World.{Leaves, bytes_cmp, listed}
use Rattle.etc_manifest.specs.declared.item.Item.{Item}
use Rattle.etc_manifest.specs.declared.item.ItemKind.{ItemKind}
use Rattle.etc_manifest.specs.declared.manifest_fault.ManifestFault.{ManifestFault}
use Rattle.etc_manifest.specs.declared.manifest_fault.ManifestFault.TheVariants.{Many, Reserved, Entry, Owner, Host}
use Rattle.etc_manifest.specs.Companion.{is_companion}
use Rattle.etc_manifest.specs.Kind.{kind_of}
use Rattle.etc_manifest.specs.Manifest.{gathered}
use Rattle.etc_manifest.specs.Owners.{OwnerIds}
use Rattle.switch_names.specs.Texts.{after_front}
use Rattle.etc_manifest.specs.Place.{etc_folder, is_reserved, path_in}

-- whether a leaf has this name below a folder
abbrev pub has_leaf : Leaves → List ℕ → Name → Bool
has_leaf leaves folder name = is_some (get leaves (path_in folder name))

-- the names of the leaves below a folder, in byte order
abbrev pub leaf_names : Leaves → List ℕ → List Name
leaf_names leaves folder = filter_map (after_front (path_in folder [])) (listed folder leaves)

-- the names that are no companions of others
abbrev pub entry_names : (Name → Bool) → List Name → List Name
entry_names has names = filter (λ name. not (is_companion has name)) names

-- the entries of a system's etc, in byte order
abbrev pub entries_of : Leaves → List ℕ → List Name
entries_of leaves system = entry_names (has_leaf leaves (etc_folder system)) (leaf_names leaves (etc_folder system))

-- an entry with what is wanted there
abbrev pub with_place : Name → Result ItemKind ManifestFault → Result Item ManifestFault
with_place name (Ok kind) = Ok (record { place = name; kind = kind })
with_place name (Err fault) = Err fault

-- what is wanted at an entry, or why it is refused
abbrev pub item_of : (Name → Bool) → Leaves → List ℕ → OwnerIds → Name → Result Item ManifestFault
item_of has leaves folder owners name =
    if is_reserved name then Err (Reserved name) else with_place name (kind_of has leaves folder owners name)

abbrev pub item_at : Leaves → List ℕ → OwnerIds → Name → Result Item ManifestFault
item_at leaves system owners name = item_of (has_leaf leaves (etc_folder system)) leaves (etc_folder system) owners name

-- what a system wants below /etc, or why its first refused entry in byte order is
abbrev pub manifest_of : Leaves → List ℕ → OwnerIds → Result (List Item) ManifestFault
manifest_of leaves system owners = gathered (map (item_at leaves system owners) (entries_of leaves system))

-- what an item wants, where there is one
abbrev pub kind_in : Result Item ManifestFault → Option ItemKind
kind_in (Ok item) = Some item.kind
kind_in (Err fault) = None

-- what a system wants at a place, where it has an entry there that isn't refused
abbrev pub wanted_at : Leaves → List ℕ → OwnerIds → Name → Option ItemKind
wanted_at leaves system owners name = if has (entries_of leaves system) name then kind_in (item_at leaves system owners name) else None

-- an entry is refused for this, and none before it in byte order is refused
pub record IsFirstRefused (leaves : Leaves) (system : List ℕ) (owners : OwnerIds) (name : Name) (fault : ManifestFault) : Type 0 where
  pub is_entry : has (entries_of leaves system) name ≡ true
  pub refused : item_at leaves system owners name ≡ Err fault
  pub earlier : (other : Name) → has (entries_of leaves system) other ≡ true → bytes_cmp other name ≡ Less → (item : Item) × (item_at leaves system owners other ≡ Ok item)

-- but for a fault of the host, this is answered: that there are too many entries is no answer of what stands at them
abbrev pub IsAnswer : {T : Type 0} → Result T ManifestFault → Result T ManifestFault → Type 0
IsAnswer (Ok item) wanted = wanted ≡ Ok item
IsAnswer (Err (Many count)) wanted = ⊥
IsAnswer (Err (Reserved place)) wanted = wanted ≡ Err (Reserved place)
IsAnswer (Err (Entry place)) wanted = wanted ≡ Err (Entry place)
IsAnswer (Err (Owner place)) wanted = wanted ≡ Err (Owner place)
IsAnswer (Err (Host fault)) wanted = Unit {0}
