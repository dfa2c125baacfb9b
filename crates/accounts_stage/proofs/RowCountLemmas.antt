-- How many rows are written, and that no more shadow rows are than users.
use Rattle.std.proofs.Common.{◌≡◌, ℕ, ◌+◌, ◌≤◌, Bool, true, false, not, cond, count_by, List, [], ◌∷◌, append_assoc, length, nat_lt, Option, None, Some, refl, sym, ap, ◌∙◌, arith}
use Rattle.std.proofs.lemmas.Bool.{and_parts, lt-ltb, ltb-true, ne_eqb}
use Rattle.std.proofs.lemmas.List.Splits.{slice_split_at}
use Rattle.std.proofs.lemmas.List.Sums.{sum_by-cons}
use Rattle.std.specs.List.{cons_option, filter_map, list_all}
use Rattle.switch_names.specs.Texts.{is_empty, is_line_feed}
use Rattle.account_text.specs.Field.{fields, lines}
use Rattle.account_text.specs.Table.{table_text}
use Rattle.account_text.proofs.FieldLemmas.{none_none}
use Rattle.account_text.proofs.SoundLemmas.{WritesBack}
use Rattle.leaf_limits.specs.Counts.{past}
use Rattle.accounts_stage.specs.Rows.{lines_of}

-- ---- the lines of rows that are written

-- a line isn't empty
abbrev is_filled : List ℕ → Bool
is_filled line = not (is_empty line)

module _ {Row : Type 0} (row_of : List (List ℕ) → Option Row) (is_sound : Row → Bool) (line_of : Row → List ℕ) (back : WritesBack row_of is_sound line_of) where
  -- the line of a row that can be written isn't empty, since an empty line is no row
  line_filled : (row : Row) → is_sound row ≡ true → is_filled (line_of row) ≡ true
  line_filled row sound = by (line_of row) (back.again row sound)
    where
      by : (line : List ℕ) → row_of (fields line) ≡ Some row → is_filled line ≡ true
      by [] is = absurd (let none = back.blank in cc)
      by (byte ∷ line) is = ap not (ne_eqb (length (byte ∷ line)) 0 (λ e. omega arith))

  -- each row has a line, and after the last line feed nothing stands
  pub written_lines : (rows : List Row) → list_all is_sound rows ≡ true → lines_of (table_text line_of rows) ≡ length rows
  written_lines [] all = refl
  written_lines (row ∷ rows) all =
      let parts = and_parts (is_sound row) (list_all is_sound rows) all in
      let rest : lines_of (table_text line_of rows) ≡ length rows = written_lines rows parts.1 in
      ap lines_of (append_assoc (line_of row) (10 ∷ []) (table_text line_of rows))
      ∙ ap (count_by is_filled) (slice_split_at is_line_feed (line_of row) 10 (table_text line_of rows) (none_none is_line_feed (line_of row) (back.one row parts.0)) refl)
      ∙ sum_by-cons (λ line. cond (is_filled line) 1 0) (line_of row) (lines (table_text line_of rows))
      ∙ ap (λ b. cond b 1 0 + lines_of (table_text line_of rows)) (line_filled row parts.0) ∙ omega (arith, rest)

-- ---- fewer

-- fewer than what isn't past the greatest aren't past it
pub fewer_past : (most few many : ℕ) → few ≤ many → past most many ≡ None → past most few ≡ None
fewer_past most few many less none = by (nat_lt most few) refl
  where
    by : (b : Bool) → nat_lt most few ≡ b → past most few ≡ None
    by false is = ap (λ b. cond b (Some few) None) is
    by true is =
        let below = ltb-true most few is in
        absurd (let over : Some many ≡ None = sym (ap (λ b. cond b (Some many) None) (lt-ltb most many (omega arith))) ∙ none in cc)

pub fewer_made : {X Y : Type 0} (f : X → Option Y) (xs : List X) → length (filter_map f xs) ≤ length xs
fewer_made f [] = omega arith
fewer_made {X} {Y} f (x ∷ xs) = by (f x) (fewer_made f xs)
  where
    by : (o : Option Y) → length (filter_map f xs) ≤ length xs → length (cons_option o (filter_map f xs)) ≤ length (x ∷ xs)
    by None rest = omega arith
    by (Some y) rest = omega arith
