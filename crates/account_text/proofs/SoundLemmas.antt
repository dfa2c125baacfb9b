-- What is read is sound, and what is written of sound rows is read as those.
use Rattle.std.proofs.Common.{◌≡◌, ℕ, ◌+◌, ◌<◌, ◌&&◌, Bool, true, false, cond, not, List, [], ◌∷◌, ◌++◌, get_or, length, map, min, take, Option, None, Some, option_map, is_none, refl, sym, ap, ◌∙◌, append_assoc, Result, Ok, Err, IfOk, OnOk}
use Rattle.std.specs.List.{filter_map, cons_option, list_any, list_all, position}
use Rattle.std.specs.Str.{is_utf8}
use Rattle.std.proofs.lemmas.Bool.{and_parts, and_from, or_from, not-true}
use Rattle.std.proofs.lemmas.List.{append-nil, take_more}
use Rattle.std.proofs.lemmas.List.Concat.{flat_map-append}
use Rattle.std.proofs.lemmas.List.Folds.{list_all_more}
use Rattle.std.proofs.lemmas.List.Splits.{slice_split_at}
use Rattle.std.proofs.Math.Bool.{and-false}
use Rattle.switch_names.specs.Names.{Name}
use Rattle.switch_names.specs.Texts.{is_empty, is_line_feed}
use Rattle.account_text.specs.Field.{fields, is_colon, is_plain, lines}
use Rattle.account_text.specs.Table.{row_in, rows_of, firsts, is_wrong, are_distinct, table_text, IsTableOf, IsSound}
use Rattle.account_text.proofs.FirstLemmas.{all_firsts, distinct_firsts, firsts_distinct}
use Rattle.account_text.proofs.FieldLemmas.{none_none, parts_lack, parts_uncut}
use Rattle.account_text.proofs.LineLemmas.{no_place}

-- ---- what is read

-- the fields of a line have neither line feeds nor colons
pub plain_fields : (line : List ℕ) → list_any is_line_feed line ≡ false → list_all is_plain (fields line) ≡ true
plain_fields line none = both (fields line) (parts_lack is_colon is_line_feed line none) (parts_uncut is_colon line)
  where
    both : (parts : List (List ℕ)) → list_all (λ part. not (list_any is_line_feed part)) parts ≡ true → list_all (λ part. not (list_any is_colon part)) parts ≡ true → list_all is_plain parts ≡ true
    both [] feeds colons = refl
    both (part ∷ parts) feeds colons =
        let f = and_parts (not (list_any is_line_feed part)) (list_all (λ t. not (list_any is_line_feed t)) parts) feeds in
        let k = and_parts (not (list_any is_colon part)) (list_all (λ t. not (list_any is_colon t)) parts) colons in
        and_from _ _ (and_from _ _ f.0 k.0) (both parts f.1 k.1)

module _ {Row : Type 0} (row_of : List (List ℕ) → Option Row) (is_sound : Row → Bool) (name_of : Row → Name) where
  -- a row of plain fields is sound
  abbrev pub ReadsSound : Type 0
  ReadsSound = (parts : List (List ℕ)) (row : Row) → list_all is_plain parts ≡ true → row_of parts ≡ Some row → is_sound row ≡ true

  sound_line : ReadsSound → (line : List ℕ) (row : Row) → list_any is_line_feed line ≡ false → row_in row_of line ≡ Some row → is_sound row ≡ true
  sound_line reads line row none is = by (is_utf8 line) is
    where
      by : (b : Bool) → cond b (row_of (fields line)) None ≡ Some row → is_sound row ≡ true
      by true e = reads (fields line) row (plain_fields line none) e
      by false e = absurd cc

  sound_lines : ReadsSound → (ls : List (List ℕ)) → list_all (λ line. not (list_any is_line_feed line)) ls ≡ true → list_all is_sound (filter_map (row_in row_of) ls) ≡ true
  sound_lines reads [] all = refl
  sound_lines reads (line ∷ ls) all =
      let parts = and_parts (not (list_any is_line_feed line)) (list_all (λ l. not (list_any is_line_feed l)) ls) all in
      by (row_in row_of line) refl (not-true _ parts.0) (sound_lines reads ls parts.1)
    where
      by : (o : Option Row) → row_in row_of line ≡ o → list_any is_line_feed line ≡ false → list_all is_sound (filter_map (row_in row_of) ls) ≡ true → list_all is_sound (cons_option o (filter_map (row_in row_of) ls)) ≡ true
      by None e none rest = rest
      by (Some row) e none rest = and_from _ _ (sound_line reads line row none e) rest

  pub read_sound : ReadsSound → (text : List ℕ) (rows : List Row) → rows ≡ rows_of row_of name_of text → IsSound is_sound name_of rows
  read_sound reads text rows is = record {
    each = ap (list_all is_sound) is ∙ all_firsts name_of is_sound (filter_map (row_in row_of) (lines text)) (sound_lines reads (lines text) (parts_uncut is_line_feed text));
    names = ap (λ rs. are_distinct (map name_of rs)) is ∙ distinct_firsts name_of (filter_map (row_in row_of) (lines text));
  }

-- ---- what is written

-- the line of a sound row is one line, and its fields are that row's
pub record WritesBack {Row : Type 0} (row_of : List (List ℕ) → Option Row) (is_sound : Row → Bool) (line_of : Row → List ℕ) : Type 0 where
  pub one : (row : Row) → is_sound row ≡ true → list_any is_line_feed (line_of row) ≡ false
  pub again : (row : Row) → is_sound row ≡ true → row_of (fields (line_of row)) ≡ Some row
  pub blank : row_of ([] ∷ []) ≡ None

module _ {Row : Type 0} (row_of : List (List ℕ) → Option Row) (is_sound : Row → Bool) (name_of : Row → Name) (line_of : Row → List ℕ) where
  module _ (back : WritesBack row_of is_sound line_of) where
    lines_again : (rows : List Row) → list_all is_sound rows ≡ true → lines (table_text line_of rows) ≡ map line_of rows ++ [] ∷ []
    lines_again [] all = refl
    lines_again (row ∷ rows) all =
        let parts = and_parts (is_sound row) (list_all is_sound rows) all in
        ap lines (append_assoc (line_of row) (10 ∷ []) (table_text line_of rows))
        ∙ slice_split_at is_line_feed (line_of row) 10 (table_text line_of rows) (none_none is_line_feed (line_of row) (back.one row parts.0)) refl
        ∙ ap (λ ls. line_of row ∷ ls) (lines_again rows parts.1)

    row_again : (row : Row) → is_sound row ≡ true → is_utf8 (line_of row) ≡ true → row_in row_of (line_of row) ≡ Some row
    row_again row sound utf8 = ap (λ b. cond b (row_of (fields (line_of row))) None) utf8 ∙ back.again row sound

    blank_line : row_in row_of [] ≡ None
    blank_line = by (is_utf8 [])
      where
        by : (b : Bool) → cond b (row_of ([] ∷ [])) None ≡ None
        by true = back.blank
        by false = refl

    rows_again : (rows : List Row) → list_all is_sound rows ≡ true → list_all (λ row. is_utf8 (line_of row)) rows ≡ true → filter_map (row_in row_of) (map line_of rows ++ [] ∷ []) ≡ rows
    rows_again [] all utf8 = ap (λ o. cons_option o []) blank_line
    rows_again (row ∷ rows) all utf8 =
        let sound = and_parts (is_sound row) (list_all is_sound rows) all in
        let good = and_parts (is_utf8 (line_of row)) (list_all (λ r. is_utf8 (line_of r)) rows) utf8 in
        ap (λ o. cons_option o (filter_map (row_in row_of) (map line_of rows ++ [] ∷ []))) (row_again row sound.0 good.0)
        ∙ ap (λ rs. row ∷ rs) (rows_again rows sound.1 good.1)

    none_wrong : (rows : List Row) → list_all is_sound rows ≡ true → list_all (λ row. is_utf8 (line_of row)) rows ≡ true → list_any (is_wrong row_of) (map line_of rows ++ [] ∷ []) ≡ false
    none_wrong [] all utf8 = refl
    none_wrong (row ∷ rows) all utf8 =
        let sound = and_parts (is_sound row) (list_all is_sound rows) all in
        let good = and_parts (is_utf8 (line_of row)) (list_all (λ r. is_utf8 (line_of r)) rows) utf8 in
        or_from _ _ (ap (λ o. not (is_empty (line_of row)) && is_none o) (row_again row sound.0 good.0) ∙ and-false (not (is_empty (line_of row)))) (none_wrong rows sound.1 good.1)

    pub written_table : (rows : List Row) → IsSound is_sound name_of rows → list_all (λ row. is_utf8 (line_of row)) rows ≡ true → IsTableOf row_of name_of (table_text line_of rows) rows
    written_table rows sound utf8 = record {
      complete = ap (λ ls. option_map (λ at. min (at + 1) 4294967295) (position (is_wrong row_of) ls)) (lines_again rows sound.each) ∙ ap (option_map (λ at. min (at + 1) 4294967295)) (no_place (is_wrong row_of) (map line_of rows ++ [] ∷ []) (none_wrong rows sound.each utf8));
      exact = sym (ap (λ ls. firsts name_of (filter_map (row_in row_of) ls)) (lines_again rows sound.each) ∙ ap (firsts name_of) (rows_again rows sound.each utf8) ∙ firsts_distinct name_of rows sound.names);
    }

-- what is known of a value where there is one, and beside it
pub both_ok : {T E : Type 0} (r : Result T E) (P R : T → Type 0) (Q : Type 0) → IfOk r P → OnOk r Q → ((x : T) → P x → Q → R x) → IfOk r R
both_ok (Ok x) P R Q first second join = join x first second
both_ok (Err e) P R Q first second join = tt

-- ---- one row more is written

pub written_more : {Row : Type 0} (line_of : Row → List ℕ) (rows : List Row) (i : ℕ) (row : Row) (text new : List ℕ) → i < length rows → row ≡ get_or rows i row
    → text ≡ table_text line_of (take i rows) → new ≡ text ++ line_of row ++ 10 ∷ [] → new ≡ table_text line_of (take (i + 1) rows)
written_more line_of rows i row text new within is before after =
    after
    ∙ ap (λ t. t ++ line_of row ++ 10 ∷ []) before
    ∙ append_assoc (table_text line_of (take i rows)) (line_of row) (10 ∷ [])
    ∙ ap (λ t. table_text line_of (take i rows) ++ t) (sym (append-nil (line_of row ++ 10 ∷ [])))
    ∙ sym (flat_map-append (λ r. line_of r ++ 10 ∷ []) (take i rows) (row ∷ []))
    ∙ ap (table_text line_of) (ap (λ r. take i rows ++ r ∷ []) is ∙ sym (take_more rows i row within))

pub utf8_more : {Row : Type 0} (line_of : Row → List ℕ) (rows : List Row) (i : ℕ) (row : Row) → i < length rows → row ≡ get_or rows i row
    → list_all (λ r. is_utf8 (line_of r)) (take i rows) ≡ true → is_utf8 (line_of row) ≡ true → list_all (λ r. is_utf8 (line_of r)) (take (i + 1) rows) ≡ true
utf8_more line_of rows i row within is before good =
    list_all_more (λ r. is_utf8 (line_of r)) rows i row within ∙ and_from _ _ before (ap (λ r. is_utf8 (line_of r)) (sym is) ∙ good)
