-- What of /etc is gone, foreign or blocked: setup-etc.pl of nixpkgs, "Remove dangling symlinks" and "Delete files that were copied in a previous version".
use Rattle.std.specs.Prelude.{◌&&◌, ◌||◌, ℕ, not, Bool, true, false, List, codes, filter, map, nat_eq, Option, None, Some, is_some}
use Rattle.std.specs.FinMap.{get}
use Rattle.std.specs.List.{list_any, starts_with}
use Rattle.switch_names.specs.Names.{Name, has}
use Rattle.host_trait.specs.declared.leaf.LeafKind.{LeafKind}
use Rattle.host_trait.specs.declared.leaf.LeafKind.TheVariants.{File, Link}
use Rattle.host_trait.specs.World.{Leaves, is_in_line, is_path}
use Rattle.etc_manifest.specs.declared.item.Item.{Item}
use Rattle.etc_manifest.specs.declared.item.ItemKind.{ItemKind}
use Rattle.etc_manifest.specs.declared.item.ItemKind.TheVariants.{Linked, Copied, Direct}
use Rattle.etc_manifest.specs.Manifest.{places}
use Rattle.etc_manifest.specs.Place.{is_reserved}
use Rattle.etc_clean.specs.Names.{etc_names, place}
use Rattle.etc_clean.specs.CleanList.{clean_of}

-- the leaf at a name below etc
abbrev pub at : Leaves → Name → Option LeafKind
at leaves q = get leaves (place q)

-- a name is an entry's
abbrev pub is_entry : List Item → Name → Bool
is_entry items q = has (places items) q

-- a target is `/etc/static`, or begins with it and a slash
unfoldable pub is_into_static : List ℕ → Bool
is_into_static target = is_path target (codes "/etc/static") || starts_with nat_eq target (codes "/etc/static/")

-- a name lies below `nixos`
unfoldable pub is_below_nixos : Name → Bool
is_below_nixos q = starts_with nat_eq q (codes "nixos/")

-- a link into `/etc/static`, outside of `nixos`
abbrev pub is_farm_link : Name → Option LeafKind → Bool
is_farm_link q None = false
is_farm_link q (Some (File bytes mode uid gid)) = false
is_farm_link q (Some (Link target)) = is_into_static target && not (is_below_nixos q)

-- a leaf that is neither reserved nor at an entry
abbrev pub is_stray : List Item → Name → Option LeafKind → Bool
is_stray items q leaf = is_some leaf && (not (is_reserved q) && not (is_entry items q))

-- such a leaf is the farm's: its link, or a name of the old clean list
abbrev pub is_ours : List Name → Name → Option LeafKind → Bool
is_ours clean q leaf = is_farm_link q leaf || has clean q

-- a leaf is gone: the farm's, and no entry any more
abbrev pub is_gone : List Item → Leaves → Name → Bool
is_gone items leaves q = is_stray items q (at leaves q) && is_ours (clean_of leaves) q (at leaves q)

-- a leaf is foreign: neither gone, nor at an entry, nor reserved
abbrev pub is_foreign : List Item → Leaves → Name → Bool
is_foreign items leaves q = is_stray items q (at leaves q) && not (is_ours (clean_of leaves) q (at leaves q))

-- a foreign leaf stands strictly above or below a name
unfoldable pub is_blocked : List Item → Leaves → Name → Bool
is_blocked items leaves q = list_any (λ p. is_foreign items leaves p && is_in_line p q) (etc_names leaves)

-- what is put for an entry is no link into `/etc/static`: its name goes on the clean list
abbrev pub is_made : ItemKind → Bool
is_made Linked = false
is_made (Copied leaf) = true
is_made (Direct target) = true

-- the names of the copied and direct entries that aren't blocked
abbrev pub placed : List Item → Leaves → List Name
placed items leaves = map (λ item. item.place) (filter (λ item. is_made item.kind && not (is_blocked items leaves item.place)) items)
