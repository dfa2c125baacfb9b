-- The clean lists that a farm puts: setup-etc.pl of nixpkgs, "/etc/.clean".
use Rattle.std.specs.Prelude.{◌≡◌, ◌∷◌, ◌++◌, Bool, false, List, [], map, Option, None}
use Rattle.std.specs.FinMap.{from_entries, keys}
use Rattle.switch_names.specs.Names.{Name}
use Rattle.host_trait.specs.declared.leaf.LeafKind.{LeafKind}
use Rattle.host_trait.specs.World.{Leaves, bytes_cmp}
use Rattle.leaf_limits.specs.declared.too_long.TooLong.{TooLong}
use Rattle.leaf_limits.specs.Limits.{is_long}
use Rattle.switch_parts.specs.Puts.{long_among}
use Rattle.tree_put.specs.declared.leaf_put.LeafPut.{LeafPut}
use Rattle.tree_put.specs.Sequence.{put_at}
use Rattle.etc_manifest.specs.declared.item.Item.{Item}
use Rattle.etc_clean.specs.CleanList.{clean_leaf, clean_name, clean_of}
use Rattle.etc_clean.specs.Farm.{placed}
use Rattle.etc_clean.specs.Names.{place}

-- names in byte order, each once
abbrev pub in_order : List Name → List Name
in_order names = keys (from_entries {R = bytes_cmp} (map (λ name. (name, tt {0})) names))

-- the first clean list: the names of the list that stands, and of the copied and direct entries that aren't blocked
abbrev pub first_list : List Item → Leaves → LeafKind
first_list items leaves = clean_leaf (in_order (clean_of leaves ++ placed items leaves))

-- the puts of the first clean list and of the last, which has the names of the copied and direct entries alone
abbrev pub list_puts : List Item → Leaves → List LeafPut
list_puts items leaves = put_at (place clean_name) (first_list items leaves) ∷ put_at (place clean_name) (clean_leaf (placed items leaves)) ∷ []

-- the clean list, where it would be put longer than can be read again
abbrev pub list_long : List Item → Leaves → Option TooLong
list_long items leaves = long_among (list_puts items leaves)

-- whether the clean list that stands is too long
abbrev pub is_clean_long : Leaves → Bool
is_clean_long leaves = is_long leaves (place clean_name)

-- from lists that can be read again each moment keeps that they can, and so can the one that stands
pub record AreListsShort (items : List Item) (w m : Leaves) : Type 0 where
  pub puts : list_long items w ≡ None → list_long items m ≡ None
  pub stands : list_long items w ≡ None → is_clean_long w ≡ false → is_clean_long m ≡ false
