-- The log of what is owed: NixOS manual, "Unit handling".
use Rattle.std.specs.Prelude.{◌≡◌, ◌<◌, ◌^◌, ◌≢◌, ◌==◌, ◌++◌, ◌∷◌, ℕ, false, List, [], codes, length}
use Rattle.std.specs.Fmt.{decimal}
use Rattle.std.specs.List.{AllByRecursion, flat_map}
use Rattle.std.specs.List.Sorted.{IsStrictlySortedBy}
use Rattle.host_trait.specs.Bytes.{bytes_cmp}
use Rattle.log_text.specs.declared.block.Block.{Block}
use Rattle.log_text.specs.declared.lists.Which.{Which}
use Rattle.log_text.specs.declared.lists.Which.TheVariants.{Starts, Restarts, Reloads}
use Rattle.switch_names.specs.Names.{Name}
use Rattle.switch_names.specs.UnitName.{IsUnitName}

-- a line has no line feed
abbrev pub IsLine : List ℕ → Type 0
IsLine line = AllByRecursion (λ byte. (byte == 10) ≡ false) line

-- names as they are written, one a line
abbrev pub list_text : List Name → List ℕ
list_text names = flat_map (λ name. name ++ 10 ∷ []) names

-- a text begins with these unit names, a line each, and with no more
pub record AreFirstNames (text : List ℕ) (names : List Name) (rest : List ℕ) : Type 0 where
  pub text_is : text ≡ list_text names ++ rest
  pub are : AllByRecursion IsUnitName names
  pub ends : (name : Name) (more : List ℕ) → IsUnitName name → rest ≢ name ++ 10 ∷ more

-- the word for a list
abbrev pub word : Which → List ℕ
word Starts = codes "start"
word Restarts = codes "restart"
word Reloads = codes "reload"

-- the first line of a block: the word for the list, and how many names there are
abbrev pub header_of : Which → ℕ → List ℕ
header_of which count = word which ++ 32 ∷ decimal count

abbrev pub last_line : List ℕ
last_line = codes "end" ++ 10 ∷ []

-- the text of a block: its first line, the names, a line each, and a last line
abbrev pub block_text : Block → List ℕ
block_text block = header_of block.which (length block.names) ++ 10 ∷ (list_text block.names ++ last_line)

-- a block has unit names in byte order without repeats
pub record IsBlock (block : Block) : Type 0 where
  pub names : AllByRecursion IsUnitName block.names
  pub sorted : IsStrictlySortedBy bytes_cmp block.names
  pub counted : length block.names < 2 ^ 64

abbrev pub log_text : List Block → List ℕ
log_text blocks = flat_map block_text blocks

-- a text is blocks and then a tail, which doesn't begin with a block
pub record IsLog (text : List ℕ) (blocks : List Block) (tail : List ℕ) : Type 0 where
  pub text_is : text ≡ log_text blocks ++ tail
  pub are_blocks : AllByRecursion IsBlock blocks
  pub torn : (block : Block) (rest : List ℕ) → IsBlock block → tail ≢ block_text block ++ rest
