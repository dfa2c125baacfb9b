-- What a switch finds in /etc before it puts its farm there: setup-etc.pl of nixpkgs.
use Rattle.std.specs.Prelude.{◌≡◌, ◌&&◌, true, List}
use Rattle.switch_names.specs.Names.{IsListOf, has}
use Rattle.host_trait.specs.World.{Leaves, content_of}
use Rattle.leaf_limits.specs.Limits.{content_past}
use Rattle.etc_manifest.specs.declared.item.Item.{Item}
use Rattle.etc_clean.specs.declared.sorting.Sorted.{Sorted}
use Rattle.etc_clean.specs.CleanList.{clean_name, clean_of}
use Rattle.etc_clean.specs.Farm.{is_blocked, is_entry, is_gone}
use Rattle.etc_clean.specs.Names.{place}
use Rattle.etc_clean.specs.Standing.{is_standing}

-- what is gone, the entries that are blocked, those whose leaf stands already, and the names of the clean list that stands, each in
-- byte order and once; and how long that list is, where it is too long
pub record IsSortedOf (items : List Item) (leaves : Leaves) (sorted : Sorted) : Type 0 where
  pub gone : IsListOf sorted.gone (λ q. is_gone items leaves q ≡ true)
  pub blocked : IsListOf sorted.blocked (λ q. (is_entry items q && is_blocked items leaves q) ≡ true)
  pub standing : IsListOf sorted.standing (λ q. is_standing items leaves q ≡ true)
  pub clean : IsListOf sorted.clean (λ q. has (clean_of leaves) q ≡ true)
  pub past : sorted.past ≡ content_past (content_of leaves (place clean_name))
