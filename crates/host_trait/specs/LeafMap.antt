-- The leaves that std's ordered map holds.
use Rattle.std.specs.Prelude.{ℕ, List}
use Rattle.std.specs.BTreeMap.{BTreeMap}
use Rattle.std.specs.FinMap.{from_entries}
use Rattle.host_trait.specs.declared.leaf.LeafKind.{LeafKind}
use Rattle.host_trait.specs.World.{Leaves}

abbrev pub leaves_of : BTreeMap (List ℕ) LeafKind → Leaves
leaves_of leaves = from_entries leaves.entries
