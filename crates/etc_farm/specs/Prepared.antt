-- What is put and removed for a farm beside its entries: setup-etc.pl of nixpkgs.
use Rattle.std.specs.Prelude.{◌≡◌, List}
use Rattle.switch_names.specs.Names.{Name}
use Rattle.tree_put.specs.declared.leaf_put.LeafPut.{LeafPut}
use Rattle.tree_put.specs.Sequence.{ArePutsApart}
use Rattle.etc_clean.specs.CleanList.{clean_name}
use Rattle.etc_clean.specs.Names.{place}

-- the first clean list with the link at `static`, the places of what is gone, and the last clean list
pub record PreparedPuts : Type 0 where
  pub first : List LeafPut
  pub gone : List Name
  pub last : LeafPut

-- of these puts those that come first are apart, and the last is at the place of the clean list
pub record AreAtPlaces (puts : PreparedPuts) : Type 0 where
  pub apart : ArePutsApart puts.first
  pub last : puts.last.at ≡ place clean_name
