-- What is read of a log to which a part of some blocks was appended.
use Rattle.std.proofs.Common.{◌≡◌, ◌≢◌, ◌≤◌, ◌<◌, ◌++◌, ◌∷◌, ◌+◌, ◌-◌, ◌⊎◌, ℕ, zero, suc, List, [], length, map, refl, sym, ap, subst, ◌∙◌, drop, take, inl, inr, arith, length-append, ⊎_elim}
use Rattle.std.specs.List.{AllByRecursion}
use Rattle.std.proofs.Math.Seq.{take-append-add, take-nil}
use Rattle.std.proofs.lemmas.Grind.{flat_map-append}
use Rattle.std.proofs.lemmas.List.{append_assoc, append-nil, take-append-drop, take-append-le, length-drop}
use Rattle.host_trait.proofs.Orders.{none_sorted}
use Rattle.log_text.specs.declared.block.Block.{Block}
use Rattle.log_text.specs.declared.lists.Lists.{Lists}
use Rattle.log_text.specs.declared.lists.Which.{Which}
use Rattle.log_text.specs.Laws.{ClearLaw, RecordLaw, TornLaw}
use Rattle.log_text.specs.Lists.{AreLists, block_of, blocks_of, list_names, lists_after, lists_of, no_lists, record_order, with_block, with_list}
use Rattle.log_text.specs.Log.{IsBlock, IsLog, block_text, header_of, last_line, list_text, log_text}
use Rattle.log_text.proofs.BlockLemmas.{same_block}

pub either_side : (n k : ℕ) → (n < k) ⊎ (k ≤ n)
either_side zero zero = inr (omega arith)
either_side zero (suc k) = inl (omega arith)
either_side (suc n) zero = inr (omega arith)
either_side (suc n) (suc k) = ⊎_elim (λ below. inl (omega arith)) (λ above. inr (omega arith)) (either_side n k)

-- a block has a text
pub block_some : (block : Block) → 0 < length (block_text block)
block_some block =
    omega (arith, length-append (header_of block.which (length block.names)) (10 ∷ (list_text block.names ++ last_line)))

-- no block begins where nothing stands
pub nothing_torn : (block : Block) (rest : List ℕ) → IsBlock block → [] ≢ block_text block ++ rest
nothing_torn block rest is same = let some = block_some block in omega (arith, ap length same, length-append (block_text block) rest)

-- a part of a block begins with no block
part_torn :
    (b : Block) (n : ℕ) → IsBlock b → n < length (block_text b) →
    (block : Block) (rest : List ℕ) → IsBlock block → take n (block_text b) ≢ block_text block ++ rest
part_torn b n is below block rest is_block same =
    let left = drop n (block_text b) in
    let again : block_text b ++ [] ≡ block_text block ++ (rest ++ left) =
    append-nil (block_text b) ∙ sym (take-append-drop n (block_text b)) ∙ ap (λ front. front ++ left) same ∙ append_assoc (block_text block) rest left in
    let both = same_block b block [] (rest ++ left) is is_block again in
    omega (arith, ap length both.1, length-append rest left, length-drop n (block_text b), below)

record IsPartOf (new : List Block) (n : ℕ) : Type 0 where
  count : ℕ
  tail : List ℕ
  text : take n (log_text new) ≡ log_text (take count new) ++ tail
  are_blocks : AllByRecursion IsBlock (take count new)
  torn : (block : Block) (rest : List ℕ) → IsBlock block → tail ≢ block_text block ++ rest
  whole : length (log_text new) ≤ n → (tail ≡ []) × (take count new ≡ new)

-- a part of a text of blocks is the first of them and a torn tail
part_of : (new : List Block) (n : ℕ) → AllByRecursion IsBlock new → IsPartOf new n
part_of [] n all = record {
  count = 0;
  tail = [];
  text = take-nil n;
  are_blocks = tt;
  torn = nothing_torn;
  whole = λ late. (refl, refl);
}
part_of (b ∷ new) n all = ⊎_elim (within b new n all) (λ late. beyond b new n all late (part_of new (n - length (block_text b)) all.1)) (either_side n (length (block_text b)))
  where
    within : (b : Block) (new : List Block) (n : ℕ) → AllByRecursion IsBlock (b ∷ new) → n < length (block_text b) → IsPartOf (b ∷ new) n
    within b new n all below = record {
      count = 0;
      tail = take n (block_text b);
      text = take-append-le n (block_text b) (log_text new) (omega (arith, below));
      are_blocks = tt;
      torn = part_torn b n all.0 below;
      whole = λ late. absurd (omega (arith, below, late, length-append (block_text b) (log_text new)));
    }

    beyond :
        (b : Block) (new : List Block) (n : ℕ) → AllByRecursion IsBlock (b ∷ new) → length (block_text b) ≤ n →
        IsPartOf new (n - length (block_text b)) → IsPartOf (b ∷ new) n
    beyond b new n all late part =
        let k = length (block_text b) in
        let sum : n ≡ k + (n - k) = omega (arith, late) in
        record {
          count = suc part.count;
          tail = part.tail;
          text =
              ap (λ i. take i (block_text b ++ log_text new)) sum
              ∙ take-append-add (block_text b) (log_text new) (n - k)
              ∙ ap (λ rest. block_text b ++ rest) part.text
              ∙ sym (append_assoc (block_text b) (log_text (take part.count new)) part.tail);
          are_blocks = (all.0, part.are_blocks);
          torn = part.torn;
          whole = λ all_there.
              let rest = part.whole (omega (arith, late, all_there, length-append (block_text b) (log_text new))) in
              (rest.0, ap (λ blocks. b ∷ blocks) rest.1);
        }

all_append : (one other : List Block) → AllByRecursion IsBlock one → AllByRecursion IsBlock other → AllByRecursion IsBlock (one ++ other)
all_append [] other all also = also
all_append (b ∷ one) other all also = (all.0, all_append one other all.1 also)

pub torn_law : TornLaw
torn_law text before new n is all =
    let part = part_of new n all in
    record {
      count = part.count;
      tail = part.tail;
      log = record {
        text_is =
            ap (λ front. front ++ take n (log_text new)) (is.text_is ∙ append-nil (log_text before))
            ∙ ap (λ rest. log_text before ++ rest) part.text
            ∙ sym (append_assoc (log_text before) (log_text (take part.count new)) part.tail)
            ∙ ap (λ front. front ++ part.tail) (sym (flat_map-append block_text before (take part.count new)));
        are_blocks = all_append before (take part.count new) is.are_blocks part.are_blocks;
        torn = part.torn;
      };
      whole = part.whole;
    }

-- ---- lists

lists_append : (old : Lists) (one other : List Block) → lists_after old (one ++ other) ≡ lists_after (lists_after old one) other
lists_append old [] other = refl
lists_append old (b ∷ one) other = lists_append (with_block old b) one other

each_block : (lists : Lists) → AreLists lists → (order : List Which) → AllByRecursion IsBlock (map (λ which. block_of which (list_names lists which)) order)
each_block lists are [] = tt
each_block lists are (which ∷ order) = (are which, each_block lists are order)

pub record_law : RecordLaw
record_law text before lists n is are =
    let torn = torn_law text before (blocks_of lists) n is (each_block lists are record_order) in
    let old = lists_of before in
    let joined = lists_append no_lists before (take torn.count (blocks_of lists)) in
    record {
      blocks = before ++ take torn.count (blocks_of lists);
      tail = torn.tail;
      log = torn.log;
      order = (torn.count, joined);
      whole = λ late. let all = torn.whole late in (all.0, joined ∙ ap (lists_after old) all.1);
    }

empty_block : (which : Which) → IsBlock (block_of which [])
empty_block which = record { names = tt; sorted = none_sorted; counted = omega arith }

clearing : (which : Which) (old : Lists) (count : ℕ) → (lists_after old (take count (block_of which [] ∷ [])) ≡ old) ⊎ (lists_after old (take count (block_of which [] ∷ [])) ≡ with_list old which [])
clearing which old zero = inl refl
clearing which old (suc count) = inr (ap (λ rest. lists_after old (block_of which [] ∷ rest)) (take-nil count))

alone : (which : Which) → log_text (block_of which [] ∷ []) ≡ block_text (block_of which [])
alone which = append-nil (block_text (block_of which []))

pub clear_law : ClearLaw
clear_law text before which n is =
    let new = block_of which [] ∷ [] in
    let torn = torn_law text before new n is (empty_block which, tt) in
    let old = lists_of before in
    let joined = lists_append no_lists before (take torn.count new) in
    record {
      blocks = before ++ take torn.count new;
      tail = torn.tail;
      log = subst (λ t. IsLog (text ++ take n t) (before ++ take torn.count new) torn.tail) (alone which) torn.log;
      lists = ⊎_elim (λ same. inl (joined ∙ same)) (λ empty. inr (joined ∙ empty)) (clearing which old torn.count);
      whole = λ late. let all = torn.whole (subst (λ t. length t ≤ n) (sym (alone which)) late) in (all.0, joined ∙ ap (lists_after old) all.1);
    }
