-- Fields of a line, cut and joined.
use Rattle.std.proofs.Common.{◌≡◌, ℕ, ◌-◌, ◌<◌, ◌≤◌, ◌&&◌, ◌||◌, Bool, true, false, cond, not, eqb, ltb, leb, List, [], ◌∷◌, ◌++◌, length, get_or, drop, take, Option, None, Some, MatchOption, Bor, refl, sym, ap, ◌∙◌, Err, nat_le, arith}
use Rattle.std.specs.List.{All, slice_split, onto_first, join_with_byte, flat_map, list_any, list_all, position_or_len, before_first, after_first}
use Rattle.std.specs.Char.{is_ascii_digit}
use Rattle.std.specs.Fmt.{decimal}
use Rattle.std.specs.Str.{all_ascii_digits}
use Rattle.std.specs.Str.Parse.{digits_value, ParsesUnsigned}
use Rattle.std.proofs.Math.Seq.{take-length}
use Rattle.std.proofs.lemmas.Bool.{and_parts, and_from, or_parts, or_from, eq-eqb, ne_eqb, ltb-true, lt-ltb, leb-true, le-leb, false_from_ne_true, not-true}
use Rattle.std.proofs.lemmas.Fmt.{digits_decimal, digits_value-decimal, decimal_nonempty, length-decimal-le}
use Rattle.std.proofs.lemmas.List.{append-nil}
use Rattle.std.proofs.lemmas.Str.Parse.{IsNumeralModel, numerals_by_value, tells_all_ascii_digits, parse_digits}
use Rattle.std.proofs.lemmas.List.Elements.{All-cons}
use Rattle.std.proofs.lemmas.List.Folds.{list_any-append}
use Rattle.std.proofs.lemmas.List.Splits.{slice_split_none, slice_split_at, slice_split_first, length-slice_split}
use Rattle.std.proofs.lemmas.List.Sums.{fails_before_first}
use Rattle.switch_names.specs.Texts.{is_line_feed}
use Rattle.switch_names.specs.Ids.{id_max}
use Rattle.account_text.specs.Field.{fields, is_colon, id_of, is_id, is_plain}

-- ---- cutting

pub none_none : {X : Type 0} (p : X → Bool) (xs : List X) → list_any p xs ≡ false → All (λ x. p x ≡ false) xs
none_none p [] none = λ k d l. absurd (omega arith)
none_none p (x ∷ xs) none =
    let parts = or_parts (p x) (list_any p xs) none in
    All-cons (λ y. p y ≡ false) x xs parts.0 (none_none p xs parts.1)

one_field : (text : List ℕ) → position_or_len is_colon text ≡ length text → fields text ≡ text ∷ []
one_field text none = slice_split_none is_colon text (λ k d l. fails_before_first is_colon text k d (omega (arith, none)))

pub cut : (text : List ℕ) (r : Option (Bor (List ℕ) × Bor (List ℕ)))
    → MatchOption r (position_or_len is_colon text ≡ length text) (λ x. (position_or_len is_colon text < length text) × (x.0.now ≡ before_first is_colon text) × (x.1.now ≡ after_first is_colon text))
    → MatchOption r (fields text ≡ text ∷ []) (λ x. fields text ≡ x.0.now ∷ fields x.1.now)
cut text None none = one_field text none
cut text (Some x) is =
    slice_split_first is_colon text 0 is.0 ∙ ap (λ t. t ∷ fields (after_first is_colon text)) (sym is.1) ∙ ap (λ t. x.0.now ∷ fields t) (sym is.2)

pub more_fields : (text first rest : List ℕ) → fields text ≡ first ∷ fields rest → 1 < length (fields text)
more_fields text first rest is = omega (arith, ap length is, length-slice_split is_colon rest)

pub digits_all : (text : List ℕ) → list_all is_ascii_digit text ≡ all_ascii_digits text
digits_all [] = refl
digits_all (byte ∷ bytes) = ap (λ b. is_ascii_digit byte && b) (digits_all bytes)

-- ---- parts of a list hold what the list holds

module _ {X : Type 0} (p q : X → Bool) where
  abbrev has_none : List X → Bool
  has_none xs = not (list_any q xs)

  all_onto : (x : X) (parts : List (List X)) → q x ≡ false → list_all has_none parts ≡ true → list_all has_none (onto_first x parts) ≡ true
  all_onto x [] here all = ap (λ b. not (b || false) && true) here
  all_onto x (part ∷ parts) here all =
      let both = and_parts (has_none part) (list_all has_none parts) all in
      and_from _ _ (ap (λ b. not (b || list_any q part)) here ∙ both.0) both.1

  -- the parts lack what the whole lacks
  pub parts_lack : (xs : List X) → list_any q xs ≡ false → list_all has_none (slice_split p xs) ≡ true
  parts_lack [] none = refl
  parts_lack (x ∷ xs) none = let parts = or_parts (q x) (list_any q xs) none in by (p x) parts.0 (parts_lack xs parts.1)
    where
      by : (b : Bool) → q x ≡ false → list_all has_none (slice_split p xs) ≡ true → list_all has_none (cond b ([] ∷ slice_split p xs) (onto_first x (slice_split p xs))) ≡ true
      by true here all = all
      by false here all = all_onto x (slice_split p xs) here all

-- the parts lack what they are cut at
pub parts_uncut : {X : Type 0} (p : X → Bool) (xs : List X) → list_all (λ part. not (list_any p part)) (slice_split p xs) ≡ true
parts_uncut p [] = refl
parts_uncut {X} p (x ∷ xs) = by (p x) refl (parts_uncut p xs)
  where
    by : (b : Bool) → p x ≡ b → list_all (λ part. not (list_any p part)) (slice_split p xs) ≡ true → list_all (λ part. not (list_any p part)) (cond b ([] ∷ slice_split p xs) (onto_first x (slice_split p xs))) ≡ true
    by true is all = all
    by false is all = all_onto p p x (slice_split p xs) is all

-- ---- joining

-- joined parts that lack what joins them are the parts again
pub split_joined : (c : ℕ) (part : List ℕ) (parts : List (List ℕ)) → list_all (λ t. not (list_any (λ b. eqb b c) t)) (part ∷ parts) ≡ true
    → slice_split (λ b. eqb b c) (join_with_byte c (part ∷ parts)) ≡ part ∷ parts
split_joined c part [] all =
    let both = and_parts (not (list_any (λ b. eqb b c) part)) true all in
    slice_split_none (λ b. eqb b c) part (none_none (λ b. eqb b c) part (not-true _ both.0))
split_joined c part (next ∷ parts) all =
    let both = and_parts (not (list_any (λ b. eqb b c) part)) (list_all (λ t. not (list_any (λ b. eqb b c) t)) (next ∷ parts)) all in
    slice_split_at (λ b. eqb b c) part c (join_with_byte c (next ∷ parts)) (none_none (λ b. eqb b c) part (not-true _ both.0)) (eq-eqb c c refl)
    ∙ ap (λ ts. part ∷ ts) (split_joined c next parts both.1)

-- what no part has and the byte between isn't, the joined parts lack
pub joined_lacks : (c : ℕ) (q : ℕ → Bool) (parts : List (List ℕ)) → q c ≡ false → list_all (λ t. not (list_any q t)) parts ≡ true → list_any q (join_with_byte c parts) ≡ false
joined_lacks c q [] other all = refl
joined_lacks c q (part ∷ []) other all = not-true _ (and_parts (not (list_any q part)) true all).0
joined_lacks c q (part ∷ (next ∷ parts)) other all =
    let both = and_parts (not (list_any q part)) (list_all (λ t. not (list_any q t)) (next ∷ parts)) all in
    list_any-append q part (c ∷ join_with_byte c (next ∷ parts))
    ∙ or_from _ _ (not-true _ both.0) (or_from _ _ other (joined_lacks c q (next ∷ parts) other both.1))

-- parts are joined one by one
pub joined_is : (c : ℕ) (part : List ℕ) (parts : List (List ℕ)) → join_with_byte c (part ∷ parts) ≡ part ++ flat_map (λ next. c ∷ next) parts
joined_is c part [] = sym (append-nil part)
joined_is c part (next ∷ parts) = ap (λ t. part ++ (c ∷ t)) (joined_is c next parts)

-- ---- ids

pub numerals : IsNumeralModel (λ ds. all_ascii_digits ds ≡ true) (digits_value 10)
numerals = numerals_by_value (λ ds. all_ascii_digits ds ≡ true) tells_all_ascii_digits

record IsIdText (field : List ℕ) : Type 0 where
  digits : all_ascii_digits field ≡ true
  some : 0 < length field
  short : length field ≤ 10
  low : digits_value 10 field ≤ id_max

id_text : (field : List ℕ) → is_id field ≡ true → IsIdText field
id_text field is =
    let low = and_parts (all_ascii_digits field && ltb 0 (length field) && leb (length field) 10) (leb (digits_value 10 field) id_max) is in
    let short = and_parts (all_ascii_digits field && ltb 0 (length field)) (leb (length field) 10) low.0 in
    let some = and_parts (all_ascii_digits field) (ltb 0 (length field)) short.0 in
    record { digits = some.0; some = ltb-true 0 _ some.1; short = leb-true _ 10 short.1; low = leb-true _ id_max low.1 }

text_id : (field : List ℕ) → IsIdText field → is_id field ≡ true
text_id field is =
    and_from _ _ (and_from _ _ (and_from _ _ is.digits (lt-ltb 0 _ is.some)) (le-leb _ 10 is.short)) (le-leb _ id_max is.low)

-- what `parse` refuses is no id
pub refused : {E : Type 0} (field : List ℕ) (e : E) → ParsesUnsigned 32 10 field (Err e) → all_ascii_digits field ≡ true → None ≡ id_of field
refused {E} field e read digits =
    let refusal = parse_digits numerals 32 field (Err e) read digits in
    sym (ap (λ b. cond b (Some (digits_value 10 field)) None) (false_from_ne_true (is_id field) (λ is. let id = id_text field is in refusal (id.some, let low = id.low in omega arith))))

-- an id as it is written is that id
pub written_id : (id : ℕ) → id ≤ id_max → id_of (decimal id) ≡ Some id
written_id id low =
    let value = digits_value-decimal numerals id (omega arith) in
    let is = text_id (decimal id) (record {
      digits = digits_decimal numerals id (omega arith);
      some = decimal_nonempty id (omega arith);
      short = length-decimal-le 10 id (omega arith) (omega arith) (omega arith);
      low = omega arith;
    }) in
    ap (λ b. cond b (Some (digits_value 10 (decimal id))) None) is ∙ ap Some value

plain_digits : (field : List ℕ) → all_ascii_digits field ≡ true → is_plain field ≡ true
plain_digits [] digits = refl
plain_digits (byte ∷ bytes) digits =
    let parts = and_parts (is_ascii_digit byte) (all_ascii_digits bytes) digits in
    by byte bytes parts.0 (plain_digits bytes parts.1)
  where
    by : (byte : ℕ) (bytes : List ℕ) → is_ascii_digit byte ≡ true → is_plain bytes ≡ true → is_plain (byte ∷ bytes) ≡ true
    by byte bytes digit plain =
        let range = and_parts (leb 48 byte) (leb byte 57) digit in
        let low = leb-true 48 byte range.0 in
        let high = leb-true byte 57 range.1 in
        let rest = and_parts (not (list_any is_line_feed bytes)) (not (list_any is_colon bytes)) plain in
        and_from _ _
        (ap (λ b. not (b || list_any is_line_feed bytes)) (ne_eqb byte 10 (λ is. omega arith)) ∙ rest.0)
        (ap (λ b. not (b || list_any is_colon bytes)) (ne_eqb byte 58 (λ is. omega arith)) ∙ rest.1)

pub plain_id : (id : ℕ) → id ≤ id_max → is_plain (decimal id) ≡ true
plain_id id low = plain_digits (decimal id) (digits_decimal numerals id (omega arith))

pub low_id : (field : List ℕ) (id : ℕ) → id_of field ≡ Some id → nat_le id id_max ≡ true
low_id field id is = by (is_id field) refl is
  where
    by : (b : Bool) → is_id field ≡ b → cond b (Some (digits_value 10 field)) None ≡ Some id → leb id id_max ≡ true
    by true is same = let value : digits_value 10 field ≡ id = cc in let low = (id_text field is).low in le-leb id id_max (omega arith)
    by false is same = absurd cc

-- members of which the first is known, as a field
pub joined_from : (members : List (List ℕ)) (first : List ℕ) → 0 < length members → first ≡ get_or members 0 first
    → first ++ flat_map (λ member. 44 ∷ member) (take (length members - 1) (drop 1 members)) ≡ join_with_byte 44 members
joined_from [] first some is = absurd (omega arith)
joined_from (member ∷ members) first some is =
    let rest : length (member ∷ members) - 1 ≡ length members = omega arith in
    ap (λ t. t ++ flat_map (λ next. 44 ∷ next) (take (length (member ∷ members) - 1) members)) is
    ∙ ap (λ n. member ++ flat_map (λ next. 44 ∷ next) (take n members)) rest
    ∙ ap (λ ms. member ++ flat_map (λ next. 44 ∷ next) ms) (take-length members)
    ∙ sym (joined_is 44 member members)
