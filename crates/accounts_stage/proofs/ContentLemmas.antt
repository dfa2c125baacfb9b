-- The content of a JSON string in a text that is UTF-8 is UTF-8: RFC 8259, section 7.
use Rattle.std.proofs.Common.{◌≡◌, ℕ, zero, suc, ◌+◌, ◌*◌, ◌<◌, ◌≤◌, ◌&&◌, ◌==◌, Bool, true, false, cond, List, [], ◌∷◌, ◌++◌, length, nat_le, nat_lt, length-append, append_assoc, Option, None, Some, option_and_then, IsUtf8, refl, sym, ap, subst, ◌∙◌, inl, inr, arith}
use Rattle.std.proofs.lemmas.Bool.{and_parts, cases_lt, eqb-true, leb-true, ltb-true, ne_eqb}
use Rattle.std.proofs.lemmas.Str.{IsUtf8-append, IsUtf8-encode, IsUtf8-nil, IsUtf8-past_char, encode_ascii, len_utf8_bounds, length-encode}
use Rattle.std.specs.Char.{digit_value, encode_utf8, is_digit}
use Rattle.json.specs.Text.{after_backslash, after_high, after_u, code_unit, content, is_high_surrogate, is_low_surrogate, plain, prepend, short_escape, surrogate_pair}
use lib.Utf8.{encode, encodes, scalar, scalars}
use Rattle.accounts_stage.proofs.TextLemmas.{AreHigh, ascii_then, encoded_high}

-- what follows a byte of ASCII
pub ascii_tail : (x : ℕ) (rest : List ℕ) → x < 128 → IsUtf8 (x ∷ rest) → IsUtf8 rest
ascii_tail x rest small u = IsUtf8-past_char (x ∷ rest) rest x u (sym (ap (λ l. l ++ rest) (encode_ascii x small)))

hex_low : (x : ℕ) → is_digit x 16 ≡ true → x < 128
hex_low x is = grind arith

hex_small : (x : ℕ) → is_digit x 16 ≡ true → digit_value x < 16
hex_small x is = ltb-true (digit_value x) 16 is

-- four hex digits, and the code unit that they spell
record IsUnit (a b c d u : ℕ) : Type 0 where
  first : a < 128
  second : b < 128
  third : c < 128
  fourth : d < 128
  fits : u < 65536

is_unit : (a b c d u : ℕ) → code_unit a b c d ≡ Some u → IsUnit a b c d u
unfolding code_unit
is_unit a b c d u is = by (is_digit a 16 && is_digit b 16 && is_digit c 16 && is_digit d 16) refl is
  where
    by : (t : Bool) → (is_digit a 16 && is_digit b 16 && is_digit c 16 && is_digit d 16) ≡ t →
        cond t (Some (digit_value a * 4096 + digit_value b * 256 + digit_value c * 16 + digit_value d)) None ≡ Some u → IsUnit a b c d u
    by false test is = absurd (cc)
    by true test is =
        let p3 = and_parts (is_digit a 16 && is_digit b 16 && is_digit c 16) (is_digit d 16) test in
        let p2 = and_parts (is_digit a 16 && is_digit b 16) (is_digit c 16) p3.0 in
        let p1 = and_parts (is_digit a 16) (is_digit b 16) p2.0 in
        let same : digit_value a * 4096 + digit_value b * 256 + digit_value c * 16 + digit_value d ≡ u = cc in
        record {
          first = hex_low a p1.0;
          second = hex_low b p1.1;
          third = hex_low c p2.1;
          fourth = hex_low d p3.1;
          fits = omega (arith, hex_small a p1.0, hex_small b p1.1, hex_small c p2.1, hex_small d p3.1);
        }

-- what a short escape stands for, and its letter
record IsShort (x c : ℕ) : Type 0 where
  letter : x < 128
  means : c < 128

is_short : (x c : ℕ) → short_escape x ≡ Some c → IsShort x c
unfolding short_escape
is_short x c is = record { letter = grind arith; means = grind arith }

high_scalar : (c : ℕ) → 57344 ≤ c → c < 1114112 → scalar c ≡ true
high_scalar c from to = grind arith

unit_scalar : (u : ℕ) → u < 65536 → is_high_surrogate u ≡ false → is_low_surrogate u ≡ false → scalar u ≡ true
unit_scalar u fits high low = grind arith

pair_scalar : (h l : ℕ) → is_high_surrogate h ≡ true → is_low_surrogate l ≡ true → scalar (surrogate_pair h l) ≡ true
pair_scalar h l high low =
    let h1 = and_parts (nat_le 0xd800 h) (nat_lt h 0xdc00) high in
    let l1 = and_parts (nat_le 0xdc00 l) (nat_lt l 0xe000) low in
    let h2 = ltb-true h 0xdc00 h1.1 in
    let h3 = leb-true 0xd800 h h1.0 in
    let l2 = ltb-true l 0xe000 l1.1 in
    let l3 = leb-true 0xdc00 l l1.0 in
    high_scalar (surrogate_pair h l) (omega arith) (omega arith)

-- ---- a text, character by character

prepended : (xs : List ℕ) (o : Option (List ℕ)) (s : List ℕ) → prepend xs o ≡ Some s → IsUtf8 xs → ((t : List ℕ) → o ≡ Some t → IsUtf8 t) → IsUtf8 s
prepended xs None s is u rest = absurd (cc)
prepended xs (Some t) s is u rest = subst IsUtf8 (let same : xs ++ t ≡ s = cc in same) (IsUtf8-append xs t u (rest t refl))

prepend_twice : (xs ys : List ℕ) (o : Option (List ℕ)) → prepend xs (prepend ys o) ≡ prepend (xs ++ ys) o
prepend_twice xs ys None = refl
prepend_twice xs ys (Some t) = ap Some (sym (append_assoc xs ys t))

-- bytes beyond ASCII stand for themselves
high_bytes : (xs rest : List ℕ) → AreHigh xs → content plain (xs ++ rest) ≡ prepend xs (content plain rest)
unfolding content
high_bytes [] rest high = same (content plain rest)
  where
    same : (o : Option (List ℕ)) → o ≡ prepend [] o
    same None = refl
    same (Some t) = refl
high_bytes (x ∷ xs) rest high =
    let big = high.0 in
    ap (λ b. cond b (Some []) (cond (x == 92) (content after_backslash (xs ++ rest)) (cond (nat_lt x 32) None (prepend (x ∷ []) (content plain (xs ++ rest)))))) (ne_eqb x 34 (λ e. omega arith))
    ∙ ap (λ b. cond b (content after_backslash (xs ++ rest)) (cond (nat_lt x 32) None (prepend (x ∷ []) (content plain (xs ++ rest))))) (ne_eqb x 92 (λ e. omega arith))
    ∙ ap (λ b. cond b None (prepend (x ∷ []) (content plain (xs ++ rest)))) (not_small x big)
    ∙ ap (prepend (x ∷ [])) (high_bytes xs rest high.1) ∙ prepend_twice (x ∷ []) xs (content plain rest)
  where
    not_small : (n : ℕ) → 128 ≤ n → nat_lt n 32 ≡ false
    not_small n big = grind arith

-- shorter texts have a content that is UTF-8
abbrev Reads : ℕ → Type 0
Reads n = (ys : List ℕ) → length ys ≤ n → IsUtf8 ys → (s : List ℕ) → content plain ys ≡ Some s → IsUtf8 s

four_tail : (a b c d u : ℕ) (more : List ℕ) → IsUnit a b c d u → IsUtf8 (a ∷ b ∷ c ∷ d ∷ more) → IsUtf8 more
four_tail a b c d u more unit utf8 =
    ascii_tail d more unit.fourth (ascii_tail c (d ∷ more) unit.third (ascii_tail b (c ∷ d ∷ more) unit.second (ascii_tail a (b ∷ c ∷ d ∷ more) unit.first utf8)))

module _ (n : ℕ) (rec : Reads n) (s : List ℕ) where
  high_text : (h : ℕ) → is_high_surrogate h ≡ true → (ys : List ℕ) → length ys ≤ n → IsUtf8 ys → content (after_high h) ys ≡ Some s → IsUtf8 s
  unfolding content
  high_text h high [] fits utf8 is = absurd (cc)
  high_text h high (x ∷ []) fits utf8 is = absurd (cc)
  high_text h high (x ∷ v ∷ []) fits utf8 is = absurd (cc)
  high_text h high (x ∷ v ∷ a ∷ []) fits utf8 is = absurd (cc)
  high_text h high (x ∷ v ∷ a ∷ b ∷ []) fits utf8 is = absurd (cc)
  high_text h high (x ∷ v ∷ a ∷ b ∷ c ∷ []) fits utf8 is = absurd (cc)
  high_text h high (x ∷ v ∷ a ∷ b ∷ c ∷ d ∷ more) fits utf8 is = by ((x == 92) && (v == 117)) refl is
    where
      low : (l : ℕ) → IsUtf8 more → (t : Bool) → is_low_surrogate l ≡ t → cond t (prepend (encode_utf8 (surrogate_pair h l)) (content plain more)) None ≡ Some s → IsUtf8 s
      low l rest false test is = absurd (cc)
      low l rest true test is =
          prepended (encode_utf8 (surrogate_pair h l)) (content plain more) s is (IsUtf8-encode (surrogate_pair h l) (pair_scalar h l high test)) (λ t there. rec more (omega arith) rest t there)

      unit : IsUtf8 (a ∷ b ∷ c ∷ d ∷ more) → (o : Option ℕ) → code_unit a b c d ≡ o → option_and_then (λ l. cond (is_low_surrogate l) (prepend (encode_utf8 (surrogate_pair h l)) (content plain more)) None) o ≡ Some s → IsUtf8 s
      unit rest None test is = absurd (cc)
      unit rest (Some l) test is = low l (four_tail a b c d l more (is_unit a b c d l test) rest) (is_low_surrogate l) refl is

      by : (t : Bool) → ((x == 92) && (v == 117)) ≡ t →
          cond t (option_and_then (λ l. cond (is_low_surrogate l) (prepend (encode_utf8 (surrogate_pair h l)) (content plain more)) None) (code_unit a b c d)) None ≡ Some s → IsUtf8 s
      by false test is = absurd (cc)
      by true test is =
          let parts = and_parts (x == 92) (v == 117) test in
          let first = eqb-true x 92 parts.0 in
          let second = eqb-true v 117 parts.1 in
          unit (ascii_tail v (a ∷ b ∷ c ∷ d ∷ more) (omega arith) (ascii_tail x (v ∷ a ∷ b ∷ c ∷ d ∷ more) (omega arith) utf8)) (code_unit a b c d) refl is

  unit_text : (ys : List ℕ) → length ys ≤ n → IsUtf8 ys → content after_u ys ≡ Some s → IsUtf8 s
  unfolding content
  unit_text [] fits utf8 is = absurd (cc)
  unit_text (a ∷ []) fits utf8 is = absurd (cc)
  unit_text (a ∷ b ∷ []) fits utf8 is = absurd (cc)
  unit_text (a ∷ b ∷ c ∷ []) fits utf8 is = absurd (cc)
  unit_text (a ∷ b ∷ c ∷ d ∷ more) fits utf8 is = by (code_unit a b c d) refl is
    where
      other : (u : ℕ) → IsUnit a b c d u → is_high_surrogate u ≡ false → (t : Bool) → is_low_surrogate u ≡ t → cond t None (prepend (encode_utf8 u) (content plain more)) ≡ Some s → IsUtf8 s
      other u unit high true test is = absurd (cc)
      other u unit high false test is =
          prepended (encode_utf8 u) (content plain more) s is (IsUtf8-encode u (unit_scalar u unit.fits high test)) (λ t there. rec more (omega arith) (four_tail a b c d u more unit utf8) t there)

      either : (u : ℕ) → IsUnit a b c d u → (t : Bool) → is_high_surrogate u ≡ t →
          cond t (content (after_high u) more) (cond (is_low_surrogate u) None (prepend (encode_utf8 u) (content plain more))) ≡ Some s → IsUtf8 s
      either u unit true test is = high_text u test more (omega arith) (four_tail a b c d u more unit utf8) is
      either u unit false test is = other u unit test (is_low_surrogate u) refl is

      by : (o : Option ℕ) → code_unit a b c d ≡ o →
          option_and_then (λ u. cond (is_high_surrogate u) (content (after_high u) more) (cond (is_low_surrogate u) None (prepend (encode_utf8 u) (content plain more)))) o ≡ Some s → IsUtf8 s
      by None test is = absurd (cc)
      by (Some u) test is = either u (is_unit a b c d u test) (is_high_surrogate u) refl is

  escape_text : (ys : List ℕ) → length ys ≤ n → IsUtf8 ys → content after_backslash ys ≡ Some s → IsUtf8 s
  unfolding content
  escape_text [] fits utf8 is = absurd (cc)
  escape_text (x ∷ more) fits utf8 is = by (x == 117) refl is
    where
      short : (o : Option ℕ) → short_escape x ≡ o → option_and_then (λ c. prepend (c ∷ []) (content plain more)) o ≡ Some s → IsUtf8 s
      short None test is = absurd (cc)
      short (Some c) test is =
          let known = is_short x c test in
          prepended (c ∷ []) (content plain more) s is (ascii_then c [] known.means IsUtf8-nil) (λ t there. rec more (omega arith) (ascii_tail x more known.letter utf8) t there)

      by : (t : Bool) → (x == 117) ≡ t → cond t (content after_u more) (option_and_then (λ c. prepend (c ∷ []) (content plain more)) (short_escape x)) ≡ Some s → IsUtf8 s
      by true test is = let same = eqb-true x 117 test in unit_text more (omega arith) (ascii_tail x more (omega arith) utf8) is
      by false test is = short (short_escape x) refl is

  -- a byte of ASCII, and what follows
  ascii_text : (x : ℕ) (more : List ℕ) → x < 128 → length more ≤ n → IsUtf8 more → content plain (x ∷ more) ≡ Some s → IsUtf8 s
  unfolding content
  ascii_text x more small fits utf8 is = by (x == 34) (x == 92) (nat_lt x 32) is
    where
      by : (quote back control : Bool) → cond quote (Some []) (cond back (content after_backslash more) (cond control None (prepend (x ∷ []) (content plain more)))) ≡ Some s → IsUtf8 s
      by true back control is = subst IsUtf8 (let same : [] ≡ s = cc in same) IsUtf8-nil
      by false true control is = escape_text more fits utf8 is
      by false false true is = absurd (cc)
      by false false false is = prepended (x ∷ []) (content plain more) s is (ascii_then x [] small IsUtf8-nil) (λ t there. rec more fits utf8 t there)

  chars_text : (cs : List ℕ) → scalars cs ≡ true → length (encodes cs) ≤ suc n → content plain (encodes cs) ≡ Some s → IsUtf8 s
  unfolding content
  chars_text [] good fits is = absurd (cc)
  chars_text (c ∷ cs) good fits is =
      let parts = and_parts (scalar c) (scalars cs) good in
      let rest : IsUtf8 (encodes cs) = (cs, (parts.1, refl)) in
      let long = len_utf8_bounds c in
      let shorter : length (encodes cs) ≤ n = omega (arith, length-append (encode c) (encodes cs), length-encode c) in
      elim (cases_lt c 128) [
        | inl small ↦ ascii_text c (encodes cs) small shorter rest (sym (ap (λ l. content plain (l ++ encodes cs)) (encode_ascii c small)) ∙ is)
        | inr big ↦
            prepended (encode c) (content plain (encodes cs)) s (sym (high_bytes (encode c) (encodes cs) (encoded_high c big)) ∙ is) (IsUtf8-encode c parts.0)
            (λ t there. rec (encodes cs) shorter rest t there)
      ]

nothing : (s : List ℕ) → content plain [] ≡ Some s → IsUtf8 s
unfolding content
nothing s is = absurd (cc)

reads_text : (n : ℕ) → Reads n
reads_text zero [] fits utf8 s is = nothing s is
reads_text zero (x ∷ ys) fits utf8 s is = absurd (omega arith)
reads_text (suc n) ys fits utf8 s is = chars_text n (reads_text n) s utf8.0 utf8.1.0 (subst (λ l. length l ≤ suc n) (sym utf8.1.1) fits) (ap (content plain) utf8.1.1 ∙ is)

-- the content of a string in a text that is UTF-8 is UTF-8
pub content_text : (xs s : List ℕ) → IsUtf8 xs → content plain xs ≡ Some s → IsUtf8 s
content_text xs s utf8 is = reads_text (length xs) xs (omega arith) utf8 s is
