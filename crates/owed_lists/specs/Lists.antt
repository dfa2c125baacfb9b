-- The lists of units that a switch of an older program which was cut has left: NixOS manual, "Unit handling".
use Rattle.std.specs.Prelude.{◌≡◌, ◌==◌, ℕ, List, [], codes, filter, Option, None, Some}
use Rattle.std.specs.List.{slice_split}
use Rattle.std.specs.List.Sorted.{IsStrictlySortedBy}
use Rattle.switch_names.specs.Names.{has}
use Rattle.switch_names.specs.UnitName.{is_unit}
use Rattle.host_trait.specs.World.{Leaves, bytes_cmp, content_of}
use Rattle.log_text.specs.declared.lists.Lists.{Lists}
use Rattle.log_text.specs.declared.lists.Which.{Which}
use Rattle.log_text.specs.declared.lists.Which.TheVariants.{Starts, Restarts, Reloads}
use Rattle.log_text.specs.Lists.{list_names}

-- where the units of a list stand
unfoldable pub place_of : Which → List ℕ
place_of Starts = codes "run/nixos/start-list"
place_of Restarts = codes "run/nixos/restart-list"
place_of Reloads = codes "run/nixos/reload-list"

-- the unit names among the lines of a content: a content that isn't there has none
abbrev pub names_in : Option (List ℕ) → List (List ℕ)
names_in None = []
names_in (Some content) = filter is_unit (slice_split (λ byte. byte == 10) content)

-- the unit names among the lines of a content, in byte order and each once
pub record IsListOf (content : Option (List ℕ)) (list : List (List ℕ)) : Type 0 where
  pub sorted : IsStrictlySortedBy bytes_cmp list
  pub exact : (unit : List ℕ) → has list unit ≡ has (names_in content) unit

-- the three lists that stand in a world
abbrev pub AreListsOf : Leaves → Lists → Type 0
AreListsOf leaves lists = (which : Which) → IsListOf (content_of leaves (place_of which)) (list_names lists which)
