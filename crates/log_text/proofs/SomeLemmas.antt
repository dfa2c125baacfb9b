-- Each text has a reading as a log.
use Rattle.std.proofs.Common.{◌≡◌, ◌≢◌, ◌==◌, ◌≤◌, ◌<◌, ◌^◌, ◌++◌, ◌∷◌, ◌⊎◌, ℕ, zero, suc, Bool, true, false, List, [], Option, None, Some, codes, length, refl, sym, ap, subst, ◌∙◌, inl, inr, ⊎_elim, arith, length-append}
use Rattle.std.specs.List.{AllByRecursion}
use Rattle.std.specs.List.Sorted.{IsStrictlySortedBy}
use Rattle.std.specs.declared.cmp.Ordering.{Ordering}
use Rattle.std.specs.declared.cmp.Ordering.TheVariants.{Less, Equal, Greater}
use Rattle.std.proofs.lemmas.Bool.Decides.{Decides-eqb}
use Rattle.host_trait.specs.Bytes.{bytes_cmp}
use Rattle.host_trait.proofs.NameOrder.{name_exact, name_from}
use Rattle.switch_names.specs.Names.{Name, is_name}
use Rattle.switch_names.specs.UnitName.{IsUnitName, unit_fault}
use Rattle.switch_names.specs.declared.name_fault.NameFault.{NameFault}
use Rattle.log_text.specs.declared.block.Block.{Block}
use Rattle.log_text.specs.declared.lists.Which.{Which}
use Rattle.log_text.specs.Laws.{SomeLogLaw}
use Rattle.log_text.specs.Lists.{block_of, record_order}
use Rattle.log_text.specs.Log.{AreFirstNames, IsBlock, IsLine, IsLog, block_text, header_of, last_line}
use Rattle.log_text.proofs.BlockLemmas.{front, shape}
use Rattle.log_text.proofs.LineLemmas.{none_other, none_unended}
use Rattle.log_text.proofs.ReadLemmas.{block_lined, block_names, block_there, end_is, end_lined, never_both}
use Rattle.log_text.proofs.TornLemmas.{block_some, either_side}
use Rattle.log_text.proofs.WhichLemmas.{each_in_order}

-- ---- what is decided

-- a text begins with a line, or it has no line feed
data Lined (text : List ℕ) : Type 0 where
  Line : (line rest : List ℕ) → IsLine line → text ≡ line ++ 10 ∷ rest → Lined text
  Unended : IsLine text → Lined text

lined : (text : List ℕ) → Lined text
lined [] = Lined.Unended tt
lined (byte ∷ text) = by (byte == 10) refl (lined text)
  where
    by : (is_end : Bool) → (byte == 10) ≡ is_end → Lined text → Lined (byte ∷ text)
    by true is front = Lined.Line [] text tt (let here : byte ≡ 10 = (Decides-eqb byte 10).0 is in λ i. here i ∷ text)
    by false is (Lined.Line line rest all at) = Lined.Line (byte ∷ line) rest (is, all) (λ i. byte ∷ at i)
    by false is (Lined.Unended all) = Lined.Unended (is, all)

same_text : (one other : List ℕ) → (one ≡ other) ⊎ (one ≢ other)
same_text one other = by (is_name one other) refl
  where
    by : (b : Bool) → is_name one other ≡ b → (one ≡ other) ⊎ (one ≢ other)
    by true is = inl (name_exact one other is)
    by false is = inr (λ same. never_both (is_name one other) (name_from one other same) is)

unit_or_not : (line : Name) → IsUnitName line ⊎ (IsUnitName line → ⊥)
unit_or_not line = by (unit_fault line) refl
  where
    by : (o : Option NameFault) → unit_fault line ≡ o → IsUnitName line ⊎ (IsUnitName line → ⊥)
    by None is = inl is
    by (Some fault) is = inr (λ none. let no : Some fault ≡ None = sym is ∙ none in cc)

less_or_not : (order : Ordering) → (order ≡ Less) ⊎ (order ≡ Less → ⊥)
less_or_not Less = inl refl
less_or_not Equal = inr (λ is. let no : Equal ≡ Less = is in cc)
less_or_not Greater = inr (λ is. let no : Greater ≡ Less = is in cc)

all_less_or_not : (one : Name) (names : List Name) → AllByRecursion (λ y. bytes_cmp one y ≡ Less) names ⊎ (AllByRecursion (λ y. bytes_cmp one y ≡ Less) names → ⊥)
all_less_or_not one [] = inl tt
all_less_or_not one (name ∷ names) =
    ⊎_elim
    (λ less. ⊎_elim (λ rest. inl (less, rest)) (λ never. inr (λ all. never all.1)) (all_less_or_not one names))
    (λ never. inr (λ all. never all.0))
    (less_or_not (bytes_cmp one name))

sorted_or_not : (names : List Name) → IsStrictlySortedBy bytes_cmp names ⊎ (IsStrictlySortedBy bytes_cmp names → ⊥)
unfolding IsStrictlySortedBy
sorted_or_not [] = inl tt
sorted_or_not (name ∷ names) =
    ⊎_elim
    (λ less. ⊎_elim (λ rest. inl (less, rest)) (λ never. inr (λ sorted. never sorted.1)) (sorted_or_not names))
    (λ never. inr (λ sorted. never sorted.0))
    (all_less_or_not name names)

-- ---- the names at the front of a text

record Named (text : List ℕ) : Type 0 where
  names : List Name
  rest : List ℕ
  are : AreFirstNames text names rest

name_before : (text line after : List ℕ) → text ≡ line ++ 10 ∷ after → IsUnitName line → Named after → Named text
name_before text line after at is named = record {
  names = line ∷ named.names;
  rest = named.rest;
  are = record {
    text_is = at ∙ ap (λ r. line ++ 10 ∷ r) named.are.text_is ∙ sym (shape line named.names named.rest);
    are = (is, named.are.are);
    ends = named.are.ends;
  };
}

no_name : (text : List ℕ) → ((name : Name) (more : List ℕ) → IsUnitName name → text ≢ name ++ 10 ∷ more) → Named text
no_name text ends = record { names = []; rest = text; are = record { text_is = refl; are = tt; ends = ends } }

names_at : (fuel : ℕ) (text : List ℕ) → length text ≤ fuel → Named text
names_at zero text short = by (lined text)
  where
    by : Lined text → Named text
    by (Lined.Unended all) = no_name text (none_unended text all)
    by (Lined.Line line after all at) = absurd (omega (arith, short, ap length at, length-append line (10 ∷ after)))
names_at (suc fuel) text short = by (λ after fewer. names_at fuel after fewer) (lined text)
  where
    by : ((after : List ℕ) → length after ≤ fuel → Named after) → Lined text → Named text
    by more (Lined.Unended all) = no_name text (none_unended text all)
    by more (Lined.Line line after all at) =
        ⊎_elim
        (λ is. name_before text line after at is (more after (omega (arith, short, ap length at, length-append line (10 ∷ after)))))
        (λ never. no_name text (none_other text line after all at never))
        (unit_or_not line)

-- ---- the block at the front of a text

data Fronted (text : List ℕ) : Type 0 where
  With : (block : Block) (rest : List ℕ) → IsBlock block → text ≡ block_text block ++ rest → Fronted text
  Without : ((block : Block) (rest : List ℕ) → IsBlock block → text ≢ block_text block ++ rest) → Fronted text

module _ (text line after : List ℕ) (is_line : IsLine line) (at : text ≡ line ++ 10 ∷ after) (names : List Name) (behind : List ℕ) (first : AreFirstNames after names behind) where
  parts : (block : Block) (rest : List ℕ) → IsBlock block → text ≡ block_text block ++ rest → (line ≡ header_of block.which (length names)) × (names ≡ block.names) × (behind ≡ last_line ++ rest)
  parts block rest is same = block_names block rest line after names behind is is_line first (sym at ∙ same)

  there : (which : Which) (rest : List ℕ) → IsStrictlySortedBy bytes_cmp names → length names < 2 ^ 64 → behind ≡ last_line ++ rest → line ≡ header_of which (length names) → Fronted text
  there which rest sorted counted end head =
      Fronted.With (block_of which names) rest (record { names = first.are; sorted = sorted; counted = counted }) (at ∙ block_there which names rest line after behind first head end)

  headed_or_not : (order : List Which) → ((which : Which) × (line ≡ header_of which (length names))) ⊎ AllByRecursion (λ which. line ≢ header_of which (length names)) order
  headed_or_not [] = inr tt
  headed_or_not (which ∷ order) =
      ⊎_elim (λ is. inl (which, is)) (λ other. ⊎_elim inl (λ others. inr (other, others)) (headed_or_not order)) (same_text line (header_of which (length names)))

  headed : (rest : List ℕ) → IsStrictlySortedBy bytes_cmp names → length names < 2 ^ 64 → behind ≡ last_line ++ rest → Fronted text
  headed rest sorted counted end =
      ⊎_elim
      (λ some. there some.0 rest sorted counted end some.1)
      (λ none. Fronted.Without (λ block more is same. each_in_order (λ which. line ≢ header_of which (length names)) none block.which (parts block more is same).0))
      (headed_or_not record_order)

  ended : (rest : List ℕ) → behind ≡ last_line ++ rest → Fronted text
  ended rest end =
      ⊎_elim
      (λ sorted. ⊎_elim (λ counted. headed rest sorted counted end)
      (λ large. Fronted.Without (λ block more is same. let counted = is.counted in let count = ap length (parts block more is same).1 in omega (arith, large, counted, count)))
      (either_side (length names) (2 ^ 64)))
      (λ never. Fronted.Without (λ block more is same. never (subst_sorted block.names (parts block more is same).1 is.sorted)))
      (sorted_or_not names)
    where
      subst_sorted : (others : List Name) → names ≡ others → IsStrictlySortedBy bytes_cmp others → IsStrictlySortedBy bytes_cmp names
      subst_sorted others same sorted = subst (IsStrictlySortedBy bytes_cmp) (sym same) sorted

  named : Lined behind → Fronted text
  named (Lined.Unended all) = Fronted.Without (λ block rest is same. end_lined behind rest all (parts block rest is same).2)
  named (Lined.Line last rest all end) =
      ⊎_elim
      (λ is. ended rest (end ∙ ap (λ l. l ++ 10 ∷ rest) is))
      (λ other. Fronted.Without (λ block more is same. other (end_is behind last rest more all end (parts block more is same).2)))
      (same_text last (codes "end"))

first_block : (text : List ℕ) → Fronted text
first_block text = by (lined text)
  where
    by : Lined text → Fronted text
    by (Lined.Unended all) = Fronted.Without (λ block rest is same. block_lined block text rest all same)
    by (Lined.Line line after all at) = let found = names_at (length after) after (omega arith) in named text line after all at found.names found.rest found.are (lined found.rest)

-- ---- the blocks of a text

record Reading (text : List ℕ) : Type 0 where
  blocks : List Block
  tail : List ℕ
  log : IsLog text blocks tail

none_read : (text : List ℕ) → ((block : Block) (rest : List ℕ) → IsBlock block → text ≢ block_text block ++ rest) → Reading text
none_read text none = record { blocks = []; tail = text; log = record { text_is = refl; are_blocks = tt; torn = none } }

more_read : (text rest : List ℕ) (block : Block) → IsBlock block → text ≡ block_text block ++ rest → Reading rest → Reading text
more_read text rest block is at reading = record {
  blocks = block ∷ reading.blocks;
  tail = reading.tail;
  log = record {
    text_is = at ∙ ap (λ r. block_text block ++ r) reading.log.text_is ∙ sym (front block reading.blocks reading.tail);
    are_blocks = (is, reading.log.are_blocks);
    torn = reading.log.torn;
  };
}

read : (fuel : ℕ) (text : List ℕ) → length text ≤ fuel → Reading text
read zero text short = by (first_block text)
  where
    by : Fronted text → Reading text
    by (Fronted.Without none) = none_read text none
    by (Fronted.With block rest is at) = absurd (let some = block_some block in omega (arith, short, some, ap length at, length-append (block_text block) rest))
read (suc fuel) text short = by (λ rest fewer. read fuel rest fewer) (first_block text)
  where
    by : ((rest : List ℕ) → length rest ≤ fuel → Reading rest) → Fronted text → Reading text
    by more (Fronted.Without none) = none_read text none
    by more (Fronted.With block rest is at) =
        let some = block_some block in
        more_read text rest block is at (more rest (omega (arith, short, some, ap length at, length-append (block_text block) rest)))

pub some_log : SomeLogLaw
some_log text = let reading = read (length text) text (omega arith) in (reading.blocks, reading.tail, reading.log)
