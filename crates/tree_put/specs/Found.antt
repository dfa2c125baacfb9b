-- What was found at places that a run has looked at: lstat(2), readlink(2), read(2).
use Rattle.std.specs.Prelude.{◌≡◌, ℕ, Bool, true, false, List, Option, None, Some, is_none}
use Rattle.std.specs.BTreeMap.{BTreeMap}
use Rattle.std.specs.FinMap.{from_entries, get}
use Rattle.host_trait.specs.declared.leaf.LeafKind.{LeafKind}
use Rattle.host_trait.specs.declared.leaf.LeafKind.TheVariants as leaf
use Rattle.host_trait.specs.World.{Leaves, bytes_cmp, content_of}
use Rattle.switch_names.specs.Names.{Name}
use Rattle.tree_put.specs.declared.found.Found.{Found}
use Rattle.tree_put.specs.declared.found.Standing.{Standing}
use Rattle.tree_put.specs.declared.found.Standing.TheVariants.{Nothing, File, Link}

-- what stands at a place
abbrev pub standing_of : Option LeafKind → Standing
standing_of None = Nothing
standing_of (Some (leaf.File bytes mode uid gid)) = File
standing_of (Some (leaf.Link target)) = Link

-- this is found at a place: what stands there, and its content
pub record IsFound (leaves : Leaves) (at : Name) (found : Found) : Type 0 where
  pub standing : found.standing ≡ standing_of (get leaves at)
  pub content : found.content ≡ content_of leaves at

-- what is noted of each place is found there
abbrev pub AreFound : Leaves → BTreeMap (List ℕ) Found → Type 0
AreFound leaves findings = (at : Name) (found : Found) → get (from_entries {R = bytes_cmp} findings.entries) at ≡ Some found → IsFound leaves at found

-- whether a leaf without content was found
abbrev pub lacks_by : Standing → Option (List ℕ) → Bool
lacks_by Nothing content = false
lacks_by standing content = is_none content

abbrev pub lacks : Found → Bool
lacks found = lacks_by found.standing found.content
