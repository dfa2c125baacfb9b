-- What putting a farm writes, and what it puts on the way: setup-etc.pl of nixpkgs.
use Rattle.std.specs.Prelude.{◌≡◌, ◌||◌, ◌∷◌, ◌++◌, [], Bool, not, List, filter, map, if◌then◌else◌}
use Rattle.switch_names.specs.Names.{Name, has, is_name}
use Rattle.host_trait.specs.declared.leaf.LeafKind.{LeafKind}
use Rattle.host_trait.specs.World.{Leaves, WorldState}
use Rattle.tree_put.specs.declared.leaf_put.LeafPut.{LeafPut}
use Rattle.tree_put.specs.Put.{IsPutIfOther, written_if}
use Rattle.etc_manifest.specs.declared.item.Item.{Item}
use Rattle.etc_manifest.specs.Manifest.{places}
use Rattle.etc_manifest.specs.Owners.{OwnerIds}
use Rattle.etc_clean.specs.CleanList.{clean_name}
use Rattle.etc_clean.specs.Names.{place}
use Rattle.etc_farm.specs.EtcPart.{items_of}
use Rattle.etc_farm.specs.Lists.{first_list}

-- the names of the entries that are neither blocked nor stand
abbrev pub open_names : List Name → List Name → List Item → List Name
open_names blocked standing items = filter (λ name. not (has blocked name || has standing name)) (places items)

-- each of those entries is written once, and nothing else
abbrev pub WritesEntries : List Item → List Name → List Name → WorldState → WorldState → Type 0
WritesEntries items blocked standing w v = v.written ≡ w.written ++ map place (open_names blocked standing items)

-- and after them the place of a last put, where its leaf didn't stand
pub record WritesLast (items : List Item) (blocked standing : List Name) (last : LeafPut) (w v : WorldState) : Type 0 where
  pub put : Bool
  pub other : IsPutIfOther last.at last.leaf put w
  pub written : v.written ≡ w.written ++ (map place (open_names blocked standing items) ++ written_if put last.at)

-- the leaves that a farm puts at a place before its end
abbrev pub list_first : List Item → Leaves → Name → List LeafKind
list_first items leaves q = if is_name q (place clean_name) then first_list items leaves ∷ [] else []

-- the same of what a system wants, with the owners of these ids
abbrev pub clean_first : Name → OwnerIds → Leaves → Name → List LeafKind
clean_first system owners leaves q = list_first (items_of system owners leaves) leaves q
