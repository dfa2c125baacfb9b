-- What a farm leaves below etc: setup-etc.pl of nixpkgs, "/etc/static".
use Rattle.std.specs.Prelude.{◌||◌, ◌++◌, ℕ, not, Bool, List, codes, Option, None, Some, if◌then◌else◌}
use Rattle.switch_names.specs.Names.{Name, is_name}
use Rattle.host_trait.specs.declared.leaf.LeafKind.{LeafKind}
use Rattle.host_trait.specs.declared.leaf.LeafKind.TheVariants.{Link}
use Rattle.host_trait.specs.World.{Leaves}
use Rattle.etc_manifest.specs.declared.item.Item.{Item}
use Rattle.etc_manifest.specs.declared.item.ItemKind.{ItemKind}
use Rattle.etc_manifest.specs.declared.item.ItemKind.TheVariants.{Linked, Copied, Direct}
use Rattle.etc_manifest.specs.Manifest.{entry}
use Rattle.etc_manifest.specs.Place.{is_reserved}
use Rattle.etc_clean.specs.CleanList.{clean_leaf, clean_name}
use Rattle.etc_clean.specs.Farm.{at, is_blocked, is_gone, placed}

-- the name of the link to a system's own etc
unfoldable pub static_name : Name
static_name = codes "static"

-- a farm: its entries, and where `/etc/static` leads
pub record Farm : Type 0 where
  pub items : List Item
  pub target : List ℕ

-- what is put for an entry
abbrev pub leaf_of : Name → ItemKind → LeafKind
leaf_of q Linked = Link (codes "/etc/static/" ++ q)
leaf_of q (Copied leaf) = leaf
leaf_of q (Direct target) = Link target

-- the leaf at an entry that isn't blocked is the entry's, and what is gone has none
abbrev pub at_entry : List Item → Leaves → Name → Option ItemKind → Option LeafKind
at_entry items leaves q (Some kind) = if is_blocked items leaves q then at leaves q else Some (leaf_of q kind)
at_entry items leaves q None = if is_gone items leaves q then None else at leaves q

-- the leaf at a name below etc, once the farm has been put there
abbrev pub etc : Farm → Leaves → Name → Option LeafKind
etc farm leaves q =
    if is_name q static_name then Some (Link farm.target)
    else if is_name q clean_name then Some (clean_leaf (placed farm.items leaves))
    else if is_reserved q then at leaves q
    else at_entry farm.items leaves q (entry farm.items q)

-- a name is the farm's to write: `static`, `.clean`, or one whose first name isn't reserved
abbrev pub is_owned : Name → Bool
is_owned q = is_name q static_name || (is_name q clean_name || not (is_reserved q))
