-- A table is read line by line.
use Rattle.std.proofs.Common.{◌≡◌, ℕ, ◌+◌, ◌-◌, ◌<◌, ◌||◌, Bool, true, false, cond, not, ltb, List, [], ◌∷◌, ◌++◌, length, length-append, length-drop, append_assoc, drop, take, map, min, Option, None, Some, option_map, refl, sym, ap, ◌∙◌, arith}
use Rattle.std.specs.List.{cons_option, filter_map, list_any, position, position_or_len}
use Rattle.std.specs.Str.{IsUtf8, is_utf8}
use Rattle.std.proofs.Math.Seq.{take-length}
use Rattle.std.proofs.lemmas.Bool.{false_from_ne_true, lt-ltb, ltb-true, or_parts, or_from, not-true}
use Rattle.std.proofs.lemmas.List.{append-nil}
use Rattle.std.proofs.lemmas.List.Splits.{slice_split_first, slice_split_none}
use Rattle.std.proofs.lemmas.List.Sums.{position_or_len_is}
use Rattle.std.proofs.lemmas.List.Elements.{filter_map-append}
use Rattle.std.proofs.lemmas.Grind.{get_or_default_zero}
use Rattle.bstr.specs.Find.{IsFirstByte, is_byte}
use Rattle.std.proofs.lemmas.List.Folds.{list_any-append}
use Rattle.std.proofs.lemmas.Str.{IsUtf8-from_is_utf8, is_utf8-from_IsUtf8}
use Rattle.switch_names.proofs.Names.{name_turned}
use Rattle.switch_names.specs.Names.{Name, has, is_name}
use Rattle.switch_names.specs.Texts.{is_line_feed}
use Rattle.account_text.specs.Field.{fields, lines}
use Rattle.account_text.specs.Table.{row_in, is_wrong, wrong_line}
use Rattle.account_text.proofs.FirstLemmas.{has_more}

module _ {Row : Type 0} (row_of : List (List ℕ) → Option Row) where
  pub utf8_row : (line text : List ℕ) → text ≡ line → IsUtf8 line → row_of (fields text) ≡ row_in row_of line
  utf8_row line text same good =
      ap (λ t. row_of (fields t)) same ∙ sym (ap (λ b. cond b (row_of (fields line)) None) (is_utf8-from_IsUtf8 line good))

  pub no_row : (line : List ℕ) → (IsUtf8 line → ⊥) → None ≡ row_in row_of line
  no_row line bad =
      sym (ap (λ b. cond b (row_of (fields line)) None) (false_from_ne_true (is_utf8 line) (λ is. bad (IsUtf8-from_is_utf8 line is))))

-- the names of the rows and one more
pub names_more : {Row : Type 0} (name_of : Row → Name) (rows : List Row) (row : Row) (old new : List Name) (name added : Name)
    → has new name ≡ cond (is_name added name) true (has old name) → added ≡ name_of row → has old name ≡ has (map name_of rows) name
    → has new name ≡ has (map name_of (rows ++ row ∷ [])) name
names_more name_of rows row old new name added updated is before =
    updated
    ∙ ap (λ b. cond b true (has old name)) (name_turned added name ∙ ap (λ n. is_name name n) is)
    ∙ turned (is_name name (name_of row)) (has old name)
    ∙ ap (λ b. b || is_name name (name_of row)) before
    ∙ sym (has_more name_of rows row name)
  where
    turned : (b h : Bool) → cond b true h ≡ (h || b)
    turned true true = refl
    turned true false = refl
    turned false true = refl
    turned false false = refl

-- ---- the first place that passes

pub no_place : {X : Type 0} (p : X → Bool) (xs : List X) → list_any p xs ≡ false → position p xs ≡ None
no_place {X} p xs none =
    ap (λ n. cond (ltb n (length xs)) (Some n) None) (len xs none) ∙ ap (λ b. cond b (Some (length xs)) None) (false_from_ne_true (ltb (length xs) (length xs)) (λ is. let less = ltb-true (length xs) (length xs) is in absurd (omega arith)))
  where
    len : (ys : List X) → list_any p ys ≡ false → position_or_len p ys ≡ length ys
    len [] n = refl
    len (y ∷ ys) n =
        let parts = or_parts (p y) (list_any p ys) n in
        let rest = len ys parts.1 in
        ap (λ b. cond (not b) (1 + position_or_len p ys) 0) parts.0 ∙ omega arith

pub first_place : {X : Type 0} (p : X → Bool) (before : List X) (x : X) (after : List X) → list_any p before ≡ false → p x ≡ true → position p (before ++ x ∷ after) ≡ Some (length before)
first_place {X} p before x after none passes =
    ap (λ n. cond (ltb n (length (before ++ x ∷ after))) (Some n) None) (len before none)
    ∙ ap (λ b. cond b (Some (length before)) None) (lt-ltb (length before) (length (before ++ x ∷ after)) (omega (arith, length-append before (x ∷ after))))
  where
    len : (ys : List X) → list_any p ys ≡ false → position_or_len p (ys ++ x ∷ after) ≡ length ys
    len [] n = ap (λ b. cond (not b) (1 + position_or_len p after) 0) passes
    len (y ∷ ys) n =
        let parts = or_parts (p y) (list_any p ys) n in
        let rest = len ys parts.1 in
        ap (λ b. cond (not b) (1 + position_or_len p (ys ++ x ∷ after)) 0) parts.0 ∙ omega arith

-- ---- the lines so far

module _ {Row : Type 0} (row_of : List (List ℕ) → Option Row) (text : List ℕ) where
  -- these lines are left, and those before them are fine and their rows are read
  pub record IsReadUpTo (rows : List Row) (number : ℕ) (left : List (List ℕ)) : Type 0 where
    pub before : List (List ℕ)
    pub split : before ++ left ≡ lines text
    pub read : rows ≡ filter_map (row_in row_of) before
    pub fine : list_any (is_wrong row_of) before ≡ false
    pub counted : number ≡ min (length before) 4294967295

  pub nothing_read : IsReadUpTo [] 0 (lines text)
  nothing_read = record { before = []; split = refl; read = refl; fine = refl; counted = refl }

  wrong_is : (b : Bool) → false ≡ not b → b ≡ true
  wrong_is true w = refl
  wrong_is false w = w

  -- one line more
  pub line_read : (rows new : List Row) (number next : ℕ) (line : List ℕ) (left rest : List (List ℕ)) → IsReadUpTo rows number left → left ≡ line ∷ rest
      → true ≡ not (is_wrong row_of line) → new ≡ rows ++ cons_option (row_in row_of line) [] → next ≡ min (number + 1) 4294967295 → IsReadUpTo new next rest
  line_read rows new number next line left rest is cut fine read counted = record {
    before = is.before ++ line ∷ [];
    split = append_assoc is.before (line ∷ []) rest ∙ ap (λ ls. is.before ++ ls) (sym cut) ∙ is.split;
    read = read ∙ ap (λ rs. rs ++ cons_option (row_in row_of line) []) is.read ∙ sym (filter_map-append (row_in row_of) is.before (line ∷ []));
    fine = list_any-append (is_wrong row_of) is.before (line ∷ []) ∙ or_from _ _ is.fine (or_from _ _ (not-true (is_wrong row_of line) (sym fine)) refl);
    counted = let before = is.counted in omega (arith, length-append is.before (line ∷ []));
  }

  -- no line is left
  pub all_read : (rows : List Row) (number : ℕ) → IsReadUpTo rows number [] → (rows ≡ filter_map (row_in row_of) (lines text)) × (wrong_line row_of text ≡ None)
  all_read rows number is =
      let all : is.before ≡ lines text = sym (append-nil is.before) ∙ is.split in (
        is.read ∙ ap (filter_map (row_in row_of)) all,
        ap (option_map (λ at. min (at + 1) 4294967295)) (no_place (is_wrong row_of) (lines text) (ap (list_any (is_wrong row_of)) (sym all) ∙ is.fine)),
      )

  -- the line after those so far is the first that is wrong
  pub wrong_here : (rows : List Row) (number next : ℕ) (line : List ℕ) (left rest : List (List ℕ)) → IsReadUpTo rows number left → left ≡ line ∷ rest
      → false ≡ not (is_wrong row_of line) → next ≡ min (number + 1) 4294967295 → wrong_line row_of text ≡ Some next
  wrong_here rows number next line left rest is cut wrong counted =
      let before = is.counted in
      let same : min (length is.before + 1) 4294967295 ≡ next = omega arith in
      ap (λ ls. option_map (λ at. min (at + 1) 4294967295) (position (is_wrong row_of) ls)) (sym is.split ∙ ap (λ ls. is.before ++ ls) cut)
      ∙ ap (option_map (λ at. min (at + 1) 4294967295)) (first_place (is_wrong row_of) is.before line rest is.fine (wrong_is (is_wrong row_of line) wrong))
      ∙ ap Some same

-- ---- cutting a line off

cut_off : (text : List ℕ) (at : ℕ) → at < length text → position_or_len is_line_feed text ≡ at → lines text ≡ take at text ∷ lines (drop (at + 1) text)
cut_off text at within place =
    slice_split_first is_line_feed text 0 (omega (arith, place)) ∙ ap (λ n. take n text ∷ lines (drop (n + 1) text)) place

pub cut_at : (text : List ℕ) (at : ℕ) → IsFirstByte (is_byte 10) text (Some at) → lines text ≡ take at text ∷ lines (take (length text - (at + 1)) (drop (at + 1) text))
cut_at text at is =
    let within : at < length text = is.0.high in
    let place = position_or_len_is is_line_feed text at 0 (omega arith) (λ k below. false_from_ne_true _ (is.0.before k (omega arith) below)) (λ _. is.1) in
    let len : length (drop (at + 1) text) ≡ length text - (at + 1) = length-drop (at + 1) text in
    cut_off text at within place
    ∙ ap (λ rest. take at text ∷ lines rest) (sym (ap (λ n. take n (drop (at + 1) text)) (sym len) ∙ take-length (drop (at + 1) text)))

pub uncut : (text : List ℕ) → IsFirstByte (is_byte 10) text None → lines text ≡ text ∷ []
uncut text none =
    slice_split_none is_line_feed text (λ k d within. ap is_line_feed (get_or_default_zero text k d within) ∙ false_from_ne_true _ (none k (omega arith) within))
