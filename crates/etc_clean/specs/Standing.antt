-- What of a farm stands already: setup-etc.pl of nixpkgs.
use Rattle.std.specs.Prelude.{◌&&◌, ◌==◌, Bool, false, List, Option, None, Some}
use Rattle.switch_names.specs.Names.{Name, is_name}
use Rattle.host_trait.specs.declared.leaf.LeafKind.{LeafKind}
use Rattle.host_trait.specs.declared.leaf.LeafKind.TheVariants.{File, Link}
use Rattle.host_trait.specs.World.{Leaves}
use Rattle.etc_manifest.specs.declared.item.Item.{Item}
use Rattle.etc_manifest.specs.declared.item.ItemKind.{ItemKind}
use Rattle.etc_manifest.specs.Manifest.{entry}
use Rattle.etc_clean.specs.Etc.{leaf_of}
use Rattle.etc_clean.specs.Farm.{at}

-- two leaves are equal in all that belongs to them
abbrev pub is_leaf : LeafKind → LeafKind → Bool
is_leaf (File bytes mode uid gid) (File other m u g) = is_name bytes other && (mode == m && (uid == u && gid == g))
is_leaf (Link target) (Link other) = is_name target other
is_leaf (File bytes mode uid gid) (Link other) = false
is_leaf (Link target) (File other m u g) = false

-- a leaf is what is put for an entry
abbrev pub is_leaf_of : Name → Option ItemKind → Option LeafKind → Bool
is_leaf_of q (Some kind) (Some leaf) = is_leaf leaf (leaf_of q kind)
is_leaf_of q (Some kind) None = false
is_leaf_of q None leaf = false

-- what is put for an entry stands there already
abbrev pub is_standing : List Item → Leaves → Name → Bool
is_standing items leaves q = is_leaf_of q (entry items q) (at leaves q)
