-- What a world owes its units: NixOS manual, "Unit handling".
use Rattle.std.specs.Prelude.{◌≡◌, ℕ, List, [], length, Option, None, Some, IsSome}
use Rattle.std.specs.FinMap.{get}
use Rattle.host_trait.specs.World.{Leaves, content_of, file_bytes}
use Rattle.log_text.specs.declared.block.Block.{Block}
use Rattle.log_text.specs.declared.lists.Lists.{Lists}
use Rattle.log_text.specs.Lists.{lists_of}
use Rattle.log_text.specs.Log.{IsLog}
use Rattle.owed_lists.specs.Lists.{AreListsOf}
use Rattle.owed_log.specs.declared.standing.LogState.{LogState}
use Rattle.owed_log.specs.declared.standing.LogState.TheVariants.{Absent, Whole, Other}
use Rattle.owed_log.specs.declared.standing.StandingLists.{StandingLists}
use Rattle.owed_log.specs.Places.{log_place}

-- a text gives these lists
pub record Gives (text : List ℕ) (lists : Lists) : Type 0 where
  pub blocks : List Block
  pub tail : List ℕ
  pub is_log : IsLog text blocks tail
  pub are : lists ≡ lists_of blocks

-- where the log has this content, its blocks give the lists; where it has none, the three leaves of an older program do
abbrev pub AreListsBy : Option (List ℕ) → Leaves → Lists → Type 0
AreListsBy (Some text) leaves lists = Gives text lists
AreListsBy None leaves lists = AreListsOf leaves lists

-- the lists of a world
abbrev pub AreListsAt : Leaves → Lists → Type 0
AreListsAt leaves lists = AreListsBy (content_of leaves log_place) leaves lists

-- the log is a file of so many bytes, of blocks alone
pub record IsWholeLog (leaves : Leaves) (count : ℕ) : Type 0 where
  pub text : List ℕ
  pub file : file_bytes (get leaves log_place) ≡ Some text
  pub blocks : List Block
  pub is_log : IsLog text blocks []
  pub is_count : count ≡ length text

-- what stands at the place of the log: nothing, a whole log of so many bytes, or something else
abbrev pub IsLogState : Leaves → LogState → Type 0
IsLogState leaves Absent = get leaves log_place ≡ None
IsLogState leaves (Whole count) = IsWholeLog leaves count
IsLogState leaves Other = IsSome (get leaves log_place) × ((count : ℕ) → IsWholeLog leaves count → ⊥)

-- what is read of a world
pub record AreStanding (leaves : Leaves) (standing : StandingLists) : Type 0 where
  pub lists : AreListsAt leaves standing.lists
  pub log : IsLogState leaves standing.log
