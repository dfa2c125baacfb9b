-- Each text has a reading as a log.
use Rattle.std.proofs.Common.{◌≡◌, ◌≢◌, ◌++◌, ◌∷◌, ◌↔◌, IsTrue, ℕ, Bool, true, false, List, [], Option, None, Some, length, codes, IfSome, refl, sym, ap, subst, ◌∙◌}
use Rattle.std.specs.List.{AllByRecursion}
use Rattle.std.specs.Option.{MatchOption}
use Rattle.std.proofs.lemmas.Grind.{flat_map-append}
use Rattle.std.proofs.lemmas.List.{append_assoc, append-nil}
use Rattle.switch_names.proofs.Lists.{all_join}
use Rattle.log_text.specs.declared.block.Block.{Block}
use Rattle.log_text.specs.declared.lists.Which.{Which}
use Rattle.log_text.specs.declared.lists.Lists.{Lists}
use Rattle.log_text.specs.Lists.{IsReadOf, block_of, lists_after, lists_of, no_lists, with_block}
use Rattle.log_text.specs.Log.{AreFirstNames, IsBlock, IsLine, block_text, header_of, last_line, list_text, log_text}
use Rattle.log_text.proofs.BlockLemmas.{header_is_line, same_part, shape, unit_is_line, whole}
use Rattle.log_text.proofs.LineLemmas.{no_feed_in}
use Rattle.switch_names.specs.Names.{Name}
use Rattle.switch_names.specs.UnitKind.{kind_of}
use Rattle.switch_names.specs.UnitName.{IsUnitName, unit_fault}
use Rattle.switch_names.specs.declared.name_fault.NameFault.TheVariants.{Kind}

-- ---- the names at the front of a text

-- texts that begin with unit names, and not with more, begin with the same ones
pub same_first : (xs ys : List Name) (r s : List ℕ) → AllByRecursion IsUnitName xs → AllByRecursion IsUnitName ys →
    ((name : Name) (more : List ℕ) → IsUnitName name → r ≢ name ++ 10 ∷ more) → ((name : Name) (more : List ℕ) → IsUnitName name → s ≢ name ++ 10 ∷ more) →
    list_text xs ++ r ≡ list_text ys ++ s → (xs ≡ ys) × (r ≡ s)
same_first [] [] r s all also ends ends_too is = (refl, is)
same_first [] (y ∷ ys) r s all also ends ends_too is = absurd (ends y (list_text ys ++ s) also.0 (is ∙ shape y ys s))
same_first (x ∷ xs) [] r s all also ends ends_too is = absurd (ends_too x (list_text xs ++ r) all.0 (sym is ∙ shape x xs r))
same_first (x ∷ xs) (y ∷ ys) r s all also ends ends_too is =
    let first = same_part 10 x y (list_text xs ++ r) (list_text ys ++ s) (unit_is_line x all.0) (unit_is_line y also.0) (sym (shape x xs r) ∙ is ∙ shape y ys s) in
    let rest = same_first xs ys r s all.1 also.1 ends ends_too first.1 in
    (λ i. first.0 i ∷ rest.0 i, rest.1)

-- the last line of a block is no unit's name
pub end_is_no_unit : (rest : List ℕ) (name : Name) (more : List ℕ) → IsUnitName name → last_line ++ rest ≢ name ++ 10 ∷ more
unfolding kind_of
end_is_no_unit rest name more is same =
    let parts = same_part 10 (101 ∷ 110 ∷ 100 ∷ []) name rest more (refl, (refl, (refl, tt))) (unit_is_line name is) same in
    let none : Some Kind ≡ None = ap unit_fault parts.0 ∙ is in
    cc

-- what stands at the front of a block's text behind its first line
pub block_parts : (block : Block) (rest line after : List ℕ) → IsBlock block → IsLine line → line ++ 10 ∷ after ≡ block_text block ++ rest →
    (line ≡ header_of block.which (length block.names)) × (after ≡ list_text block.names ++ (last_line ++ rest))
block_parts block rest line after is is_line at =
    same_part 10 line (header_of block.which (length block.names)) after (list_text block.names ++ (last_line ++ rest)) is_line (header_is_line block is) (at ∙ whole block rest)

-- a text that begins with a block has its names, and then its last line
pub block_names : (block : Block) (rest line after : List ℕ) (names : List Name) (behind : List ℕ) → IsBlock block → IsLine line → AreFirstNames after names behind →
    line ++ 10 ∷ after ≡ block_text block ++ rest → (line ≡ header_of block.which (length names)) × (names ≡ block.names) × (behind ≡ last_line ++ rest)
block_names block rest line after names behind is is_line first at =
    let parts = block_parts block rest line after is is_line at in
    let same = same_first names block.names behind (last_line ++ rest) first.are is.names first.ends (end_is_no_unit rest) (sym first.text_is ∙ parts.1) in
    (parts.0 ∙ ap (λ ns. header_of block.which (length ns)) (sym same.0), same.0, same.1)

-- a text that begins with a block has a first line
pub block_lined : (block : Block) (text rest : List ℕ) → IsLine text → text ≢ block_text block ++ rest
block_lined block text rest is_line same =
    no_feed_in (header_of block.which (length block.names)) (list_text block.names ++ (last_line ++ rest)) (subst IsLine (same ∙ whole block rest) is_line)

-- a text that begins with the last line of a block has that line
pub end_lined : (text rest : List ℕ) → IsLine text → text ≢ last_line ++ rest
end_lined text rest is_line same = no_feed_in (101 ∷ 110 ∷ 100 ∷ []) rest (subst IsLine same is_line)

pub end_is : (text line after rest : List ℕ) → IsLine line → text ≡ line ++ 10 ∷ after → text ≡ last_line ++ rest → line ≡ codes "end"
end_is text line after rest is_line parted same = (same_part 10 line (101 ∷ 110 ∷ 100 ∷ []) after rest is_line (refl, (refl, (refl, tt))) (sym parted ∙ same)).0

pub none_of : {X : Type 0} (o : Option X) (P : Type 0) (Q : X → Type 0) → o ≡ None → MatchOption o P Q → P
none_of None P Q none is = is
none_of (Some x) P Q none is = absurd (let no : Some x ≡ None = none in cc)

-- a block's text behind its first line
pub block_there : (which : Which) (names : List Name) (rest line after behind : List ℕ) → AreFirstNames after names behind → line ≡ header_of which (length names) → behind ≡ last_line ++ rest →
    line ++ 10 ∷ after ≡ block_text (block_of which names) ++ rest
block_there which names rest line after behind first head end =
    ap (λ l. l ++ 10 ∷ after) head ∙ ap (λ a. header_of which (length names) ++ 10 ∷ a) (first.text_is ∙ ap (λ b. list_text names ++ b) end) ∙ sym (whole (block_of which names) rest)

-- ---- the blocks that have been read

-- blocks give these lists, and a text follows them
pub record IsReadSoFar (text : List ℕ) (lists : Lists) (rest : List ℕ) : Type 0 where
  pub blocks : List Block
  pub text_is : text ≡ log_text blocks ++ rest
  pub are_blocks : AllByRecursion IsBlock blocks
  pub lists_are : lists ≡ lists_of blocks

pub nothing_read : (text : List ℕ) (lists : Lists) (rest : List ℕ) → rest ≡ text → lists ≡ no_lists → IsReadSoFar text lists rest
nothing_read text lists rest same none = record { blocks = []; text_is = sym same; are_blocks = tt; lists_are = none }

blocks_behind : (blocks : List Block) (block : Block) (rest : List ℕ) → log_text (blocks ++ block ∷ []) ++ rest ≡ log_text blocks ++ (block_text block ++ rest)
blocks_behind blocks block rest =
    ap (λ t. t ++ rest) (flat_map-append block_text blocks (block ∷ []) ∙ ap (λ t. log_text blocks ++ t) (append-nil (block_text block))) ∙ append_assoc (log_text blocks) (block_text block) rest

lists_behind : (lists : Lists) (blocks : List Block) (block : Block) → lists_after lists (blocks ++ block ∷ []) ≡ with_block (lists_after lists blocks) block
lists_behind lists [] block = refl
lists_behind lists (b ∷ blocks) block = lists_behind (with_block lists b) blocks block

pub one_block_more : (text : List ℕ) (lists more : Lists) (rest after : List ℕ) (block : Block) → IsReadSoFar text lists rest → IsBlock block → rest ≡ block_text block ++ after → more ≡ with_block lists block →
    IsReadSoFar text more after
one_block_more text lists more rest after block so_far is at set = record {
  blocks = so_far.blocks ++ block ∷ [];
  text_is = so_far.text_is ∙ ap (λ r. log_text so_far.blocks ++ r) at ∙ sym (blocks_behind so_far.blocks block after);
  are_blocks = all_join IsBlock so_far.blocks (block ∷ []) so_far.are_blocks (is, tt);
  lists_are = set ∙ ap (λ (l : Lists). with_block l block) so_far.lists_are ∙ sym (lists_behind no_lists so_far.blocks block);
}

pub all_read : (text : List ℕ) (lists : Lists) (rest : List ℕ) (is_whole : Bool) → IsReadSoFar text lists rest → ((block : Block) (more : List ℕ) → IsBlock block → rest ≢ block_text block ++ more) →
    (IsTrue is_whole ↔ (rest ≡ [])) → IsReadOf text (record { lists = lists; is_whole = is_whole })
all_read text lists rest is_whole so_far torn whole_is = record {
  blocks = so_far.blocks;
  tail = rest;
  is_log = record { text_is = so_far.text_is; are_blocks = so_far.are_blocks; torn = torn };
  lists = so_far.lists_are;
  whole = whole_is;
}

pub never_both : (b : Bool) → b ≡ true → b ≡ false → ⊥
never_both b one two = let no : true ≡ false = sym one ∙ two in cc

pub some_of : {X : Type 0} (o : Option X) (Q : X → Type 0) (x : X) → o ≡ Some x → IfSome o Q → Q x
some_of None Q x some is = absurd (let no : None ≡ Some x = some in cc)
some_of (Some y) Q x some is = let same : y ≡ x = cc in subst Q same is
