-- The lists that a log gives: NixOS manual, "Unit handling".
use Rattle.std.specs.Prelude.{◌≡◌, ◌↔◌, ◌∷◌, ◌<◌, ◌^◌, ℕ, IsTrue, List, [], length, map, take}
use Rattle.log_text.specs.declared.block.Block.{Block}
use Rattle.log_text.specs.declared.lists.Lists.{Lists}
use Rattle.log_text.specs.declared.lists.Which.{Which}
use Rattle.log_text.specs.declared.lists.Which.TheVariants.{Starts, Restarts, Reloads}
use Rattle.log_text.specs.declared.log.Log.{Log}
use Rattle.log_text.specs.Log.{IsBlock, IsLog}
use Rattle.switch_names.specs.Names.{Name}

abbrev pub no_lists : Lists
no_lists = record { starts = []; restarts = []; reloads = [] }

-- the names of one of the lists
abbrev pub list_names : Lists → Which → List Name
list_names lists Starts = lists.starts
list_names lists Restarts = lists.restarts
list_names lists Reloads = lists.reloads

-- lists of which one has other names
abbrev pub with_list : Lists → Which → List Name → Lists
with_list lists Starts names = record lists { starts = names }
with_list lists Restarts names = record lists { restarts = names }
with_list lists Reloads names = record lists { reloads = names }

-- a block gives the list that it is about
abbrev pub with_block : Lists → Block → Lists
with_block lists block = with_list lists block.which block.names

-- lists to which blocks are added, the last one of each kind counts
abbrev pub lists_after : Lists → List Block → Lists
lists_after lists [] = lists
lists_after lists (block ∷ blocks) = lists_after (with_block lists block) blocks

-- the lists that blocks give: of each kind the last block, and none without one
abbrev pub lists_of : List Block → Lists
lists_of blocks = lists_after no_lists blocks

abbrev pub block_of : Which → List Name → Block
block_of which names = record { which = which; names = names }

-- the lists in the order in which they are recorded
abbrev pub record_order : List Which
record_order = Starts ∷ Restarts ∷ Reloads ∷ []

-- the blocks of lists, in the order in which they are recorded
abbrev pub blocks_of : Lists → List Block
blocks_of lists = map (λ which. block_of which (list_names lists which)) record_order

-- the names of each list can be counted
abbrev pub AreCounted : Lists → Type 0
AreCounted lists = (which : Which) → length (list_names lists which) < 2 ^ 64

-- each list can be written
abbrev pub AreLists : Lists → Type 0
AreLists lists = (which : Which) → IsBlock (block_of which (list_names lists which))

-- what is read of a text: the lists that its blocks give, and whether nothing follows them
pub record IsReadOf (text : List ℕ) (log : Log) : Type 0 where
  pub blocks : List Block
  pub tail : List ℕ
  pub is_log : IsLog text blocks tail
  pub lists : log.lists ≡ lists_of blocks
  pub whole : IsTrue log.is_whole ↔ (tail ≡ [])

-- the first so many of the lists are recorded
abbrev pub AreInOrder : Lists → Lists → Lists → Type 0
AreInOrder old new now = (count : ℕ) × (now ≡ lists_after old (take count (blocks_of new)))
