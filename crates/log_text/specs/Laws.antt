-- What holds of a log: NixOS manual, "Unit handling".
use Rattle.std.specs.Prelude.{◌≡◌, ◌⊎◌, ◌≤◌, ◌++◌, ℕ, List, [], length, take}
use Rattle.std.specs.List.{AllByRecursion}
use Rattle.log_text.specs.declared.block.Block.{Block}
use Rattle.log_text.specs.declared.lists.Lists.{Lists}
use Rattle.log_text.specs.declared.lists.Which.{Which}
use Rattle.log_text.specs.Lists.{AreInOrder, AreLists, block_of, blocks_of, lists_of, with_list}
use Rattle.log_text.specs.Log.{IsBlock, IsLog, block_text, log_text}

-- a text has one reading
abbrev pub OneLogLaw : Type 0
OneLogLaw = (text : List ℕ) (one other : List Block) (tail end : List ℕ) → IsLog text one tail → IsLog text other end → (one ≡ other) × (tail ≡ end)

-- any part of appended blocks is read as the first of them and a torn tail, and all of it as all of them and none
pub record IsTorn (before : List Block) (text : List ℕ) (new : List Block) (n : ℕ) : Type 0 where
  pub count : ℕ
  pub tail : List ℕ
  pub log : IsLog (text ++ take n (log_text new)) (before ++ take count new) tail
  pub whole : length (log_text new) ≤ n → (tail ≡ []) × (take count new ≡ new)

abbrev pub TornLaw : Type 0
TornLaw = (text : List ℕ) (before new : List Block) (n : ℕ) → IsLog text before [] → AllByRecursion IsBlock new → IsTorn before text new n

-- at whatever byte the record of lists is cut, each list is its old or its recorded one, in order
pub record IsRecording (old lists : Lists) (text : List ℕ) (n : ℕ) : Type 0 where
  pub blocks : List Block
  pub tail : List ℕ
  pub log : IsLog (text ++ take n (log_text (blocks_of lists))) blocks tail
  pub order : AreInOrder old lists (lists_of blocks)
  pub whole : length (log_text (blocks_of lists)) ≤ n → (tail ≡ []) × (lists_of blocks ≡ lists)

abbrev pub RecordLaw : Type 0
RecordLaw = (text : List ℕ) (before : List Block) (lists : Lists) (n : ℕ) → IsLog text before [] → AreLists lists → IsRecording (lists_of before) lists text n

-- each text has a reading
abbrev pub SomeLogLaw : Type 0
SomeLogLaw = (text : List ℕ) → (blocks : List Block) × (tail : List ℕ) × IsLog text blocks tail

-- at whatever byte the clearing of a list is cut, the lists are as they were, or this one is empty
pub record IsClearing (old : Lists) (which : Which) (text : List ℕ) (n : ℕ) : Type 0 where
  pub blocks : List Block
  pub tail : List ℕ
  pub log : IsLog (text ++ take n (block_text (block_of which []))) blocks tail
  pub lists : (lists_of blocks ≡ old) ⊎ (lists_of blocks ≡ with_list old which [])
  pub whole : length (block_text (block_of which [])) ≤ n → (tail ≡ []) × (lists_of blocks ≡ with_list old which [])

abbrev pub ClearLaw : Type 0
ClearLaw = (text : List ℕ) (before : List Block) (which : Which) (n : ℕ) → IsLog text before [] → IsClearing (lists_of before) which text n
