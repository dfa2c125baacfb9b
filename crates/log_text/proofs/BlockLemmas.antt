-- A block's text is the beginning of no other block's.
use Rattle.std.proofs.Common.{◌≡◌, ◌≢◌, ◌==◌, ◌++◌, ◌∷◌, ◌<◌, ◌^◌, ℕ, suc, All, true, false, List, [], length, Option, Some, refl, sym, ap, subst, ◌∙◌, drop, leb, arith}
use Rattle.std.specs.List.{AllByRecursion, find}
use Rattle.std.specs.Char.{is_ascii_digit}
use Rattle.std.specs.Fmt.{decimal}
use Rattle.std.specs.Str.{all_ascii_digits}
use Rattle.std.proofs.lemmas.Bool.{and_parts, false_from_ne_true, leb-true, ne_eqb}
use Rattle.std.proofs.lemmas.Bool.Decides.{Decides-eqb}
use Rattle.std.proofs.lemmas.List.Elements.{All-weaker}
use Rattle.std.proofs.lemmas.Fmt.{decimal_injective, digits_decimal}
use Rattle.std.proofs.lemmas.List.{append_assoc, append_cancel_left}
use Rattle.std.proofs.lemmas.Str.Parse.{numerals_by_value, tells_all_ascii_digits}
use Rattle.host_trait.specs.World.{is_path}
use Rattle.log_text.specs.declared.block.Block.{Block}
use Rattle.log_text.specs.declared.lists.Which.{Which}
use Rattle.log_text.specs.declared.lists.Which.TheVariants.{Starts, Restarts, Reloads}
use Rattle.log_text.specs.Lists.{record_order}
use Rattle.log_text.specs.Log.{IsBlock, IsLine, IsLog, block_text, header_of, last_line, list_text, log_text, word}
use Rattle.log_text.proofs.WhichLemmas.{each_in_order}
use Rattle.switch_names.specs.Names.{Name}
use Rattle.switch_names.specs.UnitName.{IsUnitName, is_no_unit_byte}
use Rattle.switch_names.proofs.UnitNames.{IsShortName-from_name}

-- ---- texts that are parted by a byte

first_of : List ℕ → ℕ
first_of [] = 0
first_of (byte ∷ bytes) = byte

abbrev pub Lacks : ℕ → List ℕ → Type 0
Lacks by text = AllByRecursion (λ byte. (byte == by) ≡ false) text

is_itself : (b : ℕ) → (b == b) ≡ true
is_itself b = grind arith

no_part : (by byte : ℕ) → (byte == by) ≡ false → byte ≡ by → ⊥
no_part by byte other same =
    let here : (by == by) ≡ false = subst (λ b. (b == by) ≡ false) same other in
    let no : true ≡ false = sym (is_itself by) ∙ here in cc

-- two texts that go on after a byte which they lack are equal only where the parts are
pub same_part : (by : ℕ) (x y r s : List ℕ) → Lacks by x → Lacks by y → x ++ by ∷ r ≡ y ++ by ∷ s → (x ≡ y) × (r ≡ s)
unfolding first_of
same_part by [] [] r s none also is = (refl, ap (drop 1) is)
same_part by [] (b ∷ y) r s none also is = absurd (no_part by b also.0 (sym (ap first_of is)))
same_part by (a ∷ x) [] r s none also is = absurd (no_part by a none.0 (ap first_of is))
same_part by (a ∷ x) (b ∷ y) r s none also is =
    let rest = same_part by x y r s none.1 also.1 (ap (drop 1) is) in
    let heads : a ≡ b = ap first_of is in
    (λ i. heads i ∷ rest.0 i, rest.1)

-- ---- names

pub shape : (name : Name) (names : List Name) (r : List ℕ) → list_text (name ∷ names) ++ r ≡ name ++ 10 ∷ (list_text names ++ r)
shape name names r = append_assoc (name ++ 10 ∷ []) (list_text names) r ∙ append_assoc name (10 ∷ []) (list_text names ++ r)

-- texts that begin with as many names are equal only where the names are
pub same_names :
    (xs ys : List Name) (r s : List ℕ) → length xs ≡ length ys → AllByRecursion IsLine xs → AllByRecursion IsLine ys →
    list_text xs ++ r ≡ list_text ys ++ s → (xs ≡ ys) × (r ≡ s)
same_names [] [] r s count all also is = (refl, is)
same_names [] (y ∷ ys) r s count all also is = absurd (omega (arith, count))
same_names (x ∷ xs) [] r s count all also is = absurd (omega (arith, count))
same_names (x ∷ xs) (y ∷ ys) r s count all also is =
    let first = same_part 10 x y (list_text xs ++ r) (list_text ys ++ s) all.0 also.0 (sym (shape x xs r) ∙ is ∙ shape y ys s) in
    let fewer : length xs ≡ length ys = omega (arith, count) in
    let rest = same_names xs ys r s fewer all.1 also.1 first.1 in
    (λ i. first.0 i ∷ rest.0 i, rest.1)

-- a unit name is a line
no_feed : (byte : ℕ) → is_no_unit_byte byte ≡ false → (byte == 10) ≡ false
no_feed byte passes =
    false_from_ne_true (byte == 10)
    (λ is. let ten : byte ≡ 10 = (Decides-eqb byte 10).0 is in let bad : is_no_unit_byte 10 ≡ false = subst (λ b. is_no_unit_byte b ≡ false) ten passes in cc bad)

pub each_of : (P : ℕ → Type 0) (xs : List ℕ) → All P xs → AllByRecursion P xs
each_of P [] all = tt
each_of P (x ∷ xs) all = (all 0 x (omega arith), each_of P xs (λ k d less. all (suc k) d (omega (arith, less))))

pub unit_is_line : (name : Name) → IsUnitName name → IsLine name
unit_is_line name is = each_of (λ byte. (byte == 10) ≡ false) name (All-weaker (λ byte. is_no_unit_byte byte ≡ false) (λ byte. (byte == 10) ≡ false) no_feed name (IsShortName-from_name name is).bytes)

pub units_are_lines : (names : List Name) → AllByRecursion IsUnitName names → AllByRecursion IsLine names
units_are_lines [] all = tt
units_are_lines (name ∷ names) all = (unit_is_line name all.0, units_are_lines names all.1)

-- ---- the first line

digits_lack : (by : ℕ) (digits : List ℕ) → by < 48 → all_ascii_digits digits ≡ true → Lacks by digits
digits_lack by [] low all = tt
digits_lack by (byte ∷ bytes) low all =
    let parts = and_parts (is_ascii_digit byte) (all_ascii_digits bytes) all in
    let range = and_parts (leb 48 byte) (leb byte 57) parts.0 in
    let least = leb-true 48 byte range.0 in
    (ne_eqb byte by (λ is. omega arith), digits_lack by bytes low parts.1)

decimal_lacks : (by n : ℕ) → by < 48 → n < 2 ^ 64 → Lacks by (decimal n)
decimal_lacks by n low small =
    digits_lack by (decimal n) low (digits_decimal (numerals_by_value (λ ds. all_ascii_digits ds ≡ true) tells_all_ascii_digits) n small)

lacks_append : (by : ℕ) (x y : List ℕ) → Lacks by x → Lacks by y → Lacks by (x ++ y)
lacks_append by [] y none also = also
lacks_append by (b ∷ x) y none also = (none.0, lacks_append by x y none.1 also)

word_lacks_blank : (which : Which) → Lacks 32 (word which)
word_lacks_blank Starts = (refl, (refl, (refl, (refl, (refl, tt)))))
word_lacks_blank Restarts = (refl, (refl, (refl, (refl, (refl, (refl, (refl, tt)))))))
word_lacks_blank Reloads = (refl, (refl, (refl, (refl, (refl, (refl, tt))))))

word_is_line : (which : Which) → Lacks 10 (word which)
word_is_line Starts = (refl, (refl, (refl, (refl, (refl, tt)))))
word_is_line Restarts = (refl, (refl, (refl, (refl, (refl, (refl, (refl, tt)))))))
word_is_line Reloads = (refl, (refl, (refl, (refl, (refl, (refl, tt))))))

pub header_is_line : (block : Block) → IsBlock block → Lacks 10 (header_of block.which (length block.names))
header_is_line block is =
    lacks_append 10 (word block.which) (32 ∷ decimal (length block.names)) (word_is_line block.which)
    (refl, decimal_lacks 10 (length block.names) (omega arith) is.counted)

-- the list that a word is for
named : List ℕ → Option Which
named text = find (λ which. is_path (word which) text) record_order

named_word : (which : Which) → named (word which) ≡ Some which
unfolding named
named_word = each_in_order (λ which. named (word which) ≡ Some which) (refl, (refl, (refl, tt)))

-- lists have words of their own
same_word : (one other : Which) → word one ≡ word other → one ≡ other
same_word one other is = let same : Some one ≡ Some other = sym (named_word one) ∙ ap named is ∙ named_word other in cc

-- ---- blocks

pub whole : (block : Block) (r : List ℕ) → block_text block ++ r ≡ header_of block.which (length block.names) ++ 10 ∷ (list_text block.names ++ (last_line ++ r))
whole block r =
    append_assoc (header_of block.which (length block.names)) (10 ∷ (list_text block.names ++ last_line)) r
    ∙ ap (λ rest. header_of block.which (length block.names) ++ 10 ∷ rest) (append_assoc (list_text block.names) last_line r)

-- texts that begin with blocks are equal only where the blocks are: the text of none begins that of another
pub same_block : (b c : Block) (r s : List ℕ) → IsBlock b → IsBlock c → block_text b ++ r ≡ block_text c ++ s → (b ≡ c) × (r ≡ s)
same_block b c r s is also same =
    let lines = same_part 10 (header_of b.which (length b.names)) (header_of c.which (length c.names)) (list_text b.names ++ (last_line ++ r)) (list_text c.names ++ (last_line ++ s))
    (header_is_line b is) (header_is_line c also) (sym (whole b r) ∙ same ∙ whole c s) in
    let words = same_part 32 (word b.which) (word c.which) (decimal (length b.names)) (decimal (length c.names))
    (word_lacks_blank b.which) (word_lacks_blank c.which) lines.0 in
    let count = decimal_injective (length b.names) (length c.names) is.counted also.counted words.1 in
    let names = same_names b.names c.names (last_line ++ r) (last_line ++ s) count (units_are_lines b.names is.names) (units_are_lines c.names also.names) lines.1 in
    let which = same_word b.which c.which words.0 in
    (λ i. record { which = which i; names = names.0 i }, append_cancel_left last_line r s names.1)

-- ---- one reading

pub front : (block : Block) (blocks : List Block) (tail : List ℕ) → log_text (block ∷ blocks) ++ tail ≡ block_text block ++ (log_text blocks ++ tail)
front block blocks tail = append_assoc (block_text block) (log_text blocks) tail

one_log_of :
    (one other : List Block) (tail end : List ℕ) → AllByRecursion IsBlock one → AllByRecursion IsBlock other →
    ((block : Block) (rest : List ℕ) → IsBlock block → tail ≢ block_text block ++ rest) → ((block : Block) (rest : List ℕ) → IsBlock block → end ≢ block_text block ++ rest) →
    log_text one ++ tail ≡ log_text other ++ end → (one ≡ other) × (tail ≡ end)
one_log_of [] [] tail end all also torn torn_too is = (refl, is)
one_log_of [] (c ∷ other) tail end all also torn torn_too is = absurd (torn c (log_text other ++ end) also.0 (is ∙ front c other end))
one_log_of (b ∷ one) [] tail end all also torn torn_too is = absurd (torn_too b (log_text one ++ tail) all.0 (sym is ∙ front b one tail))
one_log_of (b ∷ one) (c ∷ other) tail end all also torn torn_too is =
    let first = same_block b c (log_text one ++ tail) (log_text other ++ end) all.0 also.0 (sym (front b one tail) ∙ is ∙ front c other end) in
    let rest = one_log_of one other tail end all.1 also.1 torn torn_too first.1 in
    (λ i. first.0 i ∷ rest.0 i, rest.1)

pub one_log : (text : List ℕ) (one other : List Block) (tail end : List ℕ) → IsLog text one tail → IsLog text other end → (one ≡ other) × (tail ≡ end)
one_log text one other tail end is also = one_log_of one other tail end is.are_blocks also.are_blocks is.torn also.torn (sym is.text_is ∙ also.text_is)
