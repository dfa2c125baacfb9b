-- The tokens of a JSON text that is UTF-8 have texts that are: RFC 8259, section 8.1.
use Rattle.std.proofs.Common.{◌≡◌, ℕ, ◌<◌, ◌==◌, Bool, true, false, cond, List, [], ◌∷◌, ◌++◌, Option, None, Some, IsUtf8, refl, sym, subst, inl, inr, arith}
use Rattle.std.proofs.lemmas.Bool.{and_from, and_parts, cases_lt, eqb-true}
use Rattle.std.proofs.lemmas.Str.{encode_ascii, is_utf8-from_IsUtf8}
use Rattle.std.specs.List.{list_all}
use Rattle.std.specs.Str.{is_utf8}
use Rattle.json.specs.Ascii as ascii
use Rattle.json.specs.Lex.{Class, Lexeme, Mode, Place, backslash, begins_colon, between, class, comma, colon, if_allowed, in_escape, in_string, in_word, lex, lex_byte, may_begin, may_close, operator, operator_lexeme, other, place_token, punctuate, quote, space, string_token, token, tokens}
use Rattle.json.specs.Text.{content, plain}
use Rattle.json.specs.Token.{Token}
use Rattle.json.specs.Word.{after_number, ends_word, head, is_operator, is_space, literal, number_before, word}
use lib.Utf8.{encode, encodes, scalar, scalars}
use Rattle.accounts_stage.proofs.ContentLemmas.{content_text}
use Rattle.accounts_stage.proofs.TextLemmas.{AreHigh, encoded_high}

-- the text of a token is UTF-8
abbrev pub is_text_token : Token → Bool
is_text_token Token.begin_object = true
is_text_token Token.end_object = true
is_text_token Token.begin_array = true
is_text_token Token.end_array = true
is_text_token (Token.key s) = is_utf8 s
is_text_token (Token.string s) = is_utf8 s
is_text_token (Token.number s) = true
is_text_token (Token.boolean b) = true
is_text_token Token.null = true
is_text_token Token.bad = true

abbrev is_text_lexeme : Lexeme → Bool
is_text_lexeme (token t) = is_text_token t
is_text_lexeme comma = true
is_text_lexeme colon = true

-- ---- what follows a byte of ASCII

-- after each byte of ASCII the text is UTF-8
abbrev AreCut : List ℕ → Type 0
AreCut [] = Unit {0}
AreCut (x ∷ xs) = (x < 128 → IsUtf8 xs) × AreCut xs

high_cut : (xs rest : List ℕ) → AreHigh xs → AreCut rest → AreCut (xs ++ rest)
high_cut [] rest high cut = cut
high_cut (x ∷ xs) rest high cut = ((λ small. absurd (let big = high.0 in let no : ⊥ = omega arith in no)), high_cut xs rest high.1 cut)

chars_cut : (cs : List ℕ) → scalars cs ≡ true → AreCut (encodes cs)
chars_cut [] good = tt
chars_cut (c ∷ cs) good =
    let parts = and_parts (scalar c) (scalars cs) good in
    let rest = chars_cut cs parts.1 in
    elim (cases_lt c 128) [
      | inl small ↦ subst (λ l. AreCut (l ++ encodes cs)) (sym (encode_ascii c small)) ((λ _. (cs, (parts.1, refl))), rest)
      | inr big ↦ high_cut (encode c) (encodes cs) (encoded_high c big) rest
    ]

text_cut : (xs : List ℕ) → IsUtf8 xs → AreCut xs
text_cut xs utf8 = subst AreCut utf8.1.1 (chars_cut utf8.0 utf8.1.0)

-- ---- lexemes

either : (b : Bool) (t u : Token) → is_text_token t ≡ true → is_text_token u ≡ true → is_text_token (cond b t u) ≡ true
either true t u one two = one
either false t u one two = two

literal_text : (name : List ℕ) (t : Token) (text : List ℕ) → is_text_token t ≡ true → is_text_token (literal name t text) ≡ true
literal_text name t text is = either _ t Token.bad is refl

number_text : (text : List ℕ) (o : Option (List ℕ)) → is_text_token (number_before text o) ≡ true
number_text text None = refl
number_text text (Some rest) = either (ends_word rest) (Token.number _) Token.bad refl refl

word_text : (text : List ℕ) → is_text_token (word text) ≡ true
unfolding word
word_text text = by (head text == ascii.lower_t) (head text == ascii.lower_f) (head text == ascii.lower_n)
  where
    by : (a b c : Bool) →
        is_text_token (cond a (literal ascii.true_text (Token.boolean true) text) (cond b (literal ascii.false_text (Token.boolean false) text) (cond c (literal ascii.null_text Token.null text) (number_before text (after_number text))))) ≡ true
    by true b c = literal_text ascii.true_text (Token.boolean true) text refl
    by false true c = literal_text ascii.false_text (Token.boolean false) text refl
    by false false true = literal_text ascii.null_text Token.null text refl
    by false false false = number_text text (after_number text)

string_text : (xs : List ℕ) → IsUtf8 xs → is_text_token (string_token (content plain xs)) ≡ true
string_text xs utf8 = by (content plain xs) refl
  where
    by : (o : Option (List ℕ)) → content plain xs ≡ o → is_text_token (string_token o) ≡ true
    by None is = refl
    by (Some s) is = is_utf8-from_IsUtf8 s (content_text xs s utf8 is)

operator_text : (x : ℕ) → is_text_lexeme (operator_lexeme x) ≡ true
operator_text x = by (x == ascii.open_brace) (x == ascii.close_brace) (x == ascii.open_bracket) (x == ascii.close_bracket) (x == ascii.comma)
  where
    by : (a b c d e : Bool) →
        is_text_lexeme (cond a (token Token.begin_object) (cond b (token Token.end_object) (cond c (token Token.begin_array) (cond d (token Token.end_array) (cond e comma colon))))) ≡ true
    by true b c d e = refl
    by false true c d e = refl
    by false false true d e = refl
    by false false false true e = refl
    by false false false false true = refl
    by false false false false false = refl

quote_low : (x : ℕ) → class x ≡ quote → x < 128
quote_low x is = by (x == ascii.quote) refl is
  where
    not_quote : (a b c : Bool) → cond a backslash (cond b operator (cond c space other)) ≡ quote → ⊥
    not_quote true b c is = cc
    not_quote false true c is = cc
    not_quote false false true is = cc
    not_quote false false false is = cc

    by : (t : Bool) → (x == ascii.quote) ≡ t → cond t quote (cond (x == ascii.backslash) backslash (cond (is_operator x) operator (cond (is_space x) space other))) ≡ quote → x < 128
    by true test is = let same = eqb-true x 34 test in omega arith
    by false test is = absurd (not_quote (x == ascii.backslash) (is_operator x) (is_space x) is)

lex_text : (m : Mode) (xs : List ℕ) → AreCut xs → list_all is_text_lexeme (lex m xs) ≡ true
unfolding lex
lex_text m [] cut = refl
lex_text m (x ∷ xs) cut = by m (class x) (λ is. cut.0 (quote_low x is)) (λ next. lex_text next xs cut.1)
  where
    by : (m : Mode) (c : Class) → (c ≡ quote → IsUtf8 xs) → ((next : Mode) → list_all is_text_lexeme (lex next xs) ≡ true) → list_all is_text_lexeme (lex_byte m c x xs (λ next. lex next xs)) ≡ true
    by between quote utf8 rest = and_from _ _ (string_text xs (utf8 refl)) (rest in_string)
    by between backslash utf8 rest = rest in_word
    by between operator utf8 rest = and_from _ _ (operator_text x) (rest between)
    by between space utf8 rest = rest between
    by between other utf8 rest = and_from _ _ (word_text (x ∷ xs)) (rest in_word)
    by in_word quote utf8 rest = rest in_word
    by in_word backslash utf8 rest = rest in_word
    by in_word operator utf8 rest = and_from _ _ (operator_text x) (rest between)
    by in_word space utf8 rest = rest between
    by in_word other utf8 rest = rest in_word
    by in_string quote utf8 rest = rest between
    by in_string backslash utf8 rest = rest in_escape
    by in_string operator utf8 rest = rest in_string
    by in_string space utf8 rest = rest in_string
    by in_string other utf8 rest = rest in_string
    by in_escape c utf8 rest = rest in_string

-- ---- tokens

allowed : (b : Bool) (t : Token) (k : Place → List Token) (next : Place) → is_text_token t ≡ true → list_all is_text_token (k next) ≡ true → list_all is_text_token (if_allowed b t k next) ≡ true
allowed true t k next is rest = and_from _ _ is rest
allowed false t k next is rest = refl

place_text : (p : Place) (t : Token) (before : Bool) (k : Place → List Token) → is_text_token t ≡ true → ((next : Place) → list_all is_text_token (k next) ≡ true) → list_all is_text_token (place_token p t before k) ≡ true
place_text p Token.begin_object before k is rest = allowed (may_begin p) Token.begin_object k Place.fresh refl (rest Place.fresh)
place_text p Token.end_object before k is rest = allowed (may_close p) Token.end_object k Place.after_value refl (rest Place.after_value)
place_text p Token.begin_array before k is rest = allowed (may_begin p) Token.begin_array k Place.fresh refl (rest Place.fresh)
place_text p Token.end_array before k is rest = allowed (may_close p) Token.end_array k Place.after_value refl (rest Place.after_value)
place_text p (Token.key s) before k is rest = refl
place_text p (Token.string s) true k is rest = allowed (may_begin p) (Token.key s) k Place.after_key is (rest Place.after_key)
place_text p (Token.string s) false k is rest = allowed (may_begin p) (Token.string s) k Place.after_value is (rest Place.after_value)
place_text p (Token.number s) before k is rest = allowed (may_begin p) (Token.number s) k Place.after_value refl (rest Place.after_value)
place_text p (Token.boolean b) before k is rest = allowed (may_begin p) (Token.boolean b) k Place.after_value refl (rest Place.after_value)
place_text p Token.null before k is rest = allowed (may_begin p) Token.null k Place.after_value refl (rest Place.after_value)
place_text p Token.bad before k is rest = refl

punctuate_text : (p : Place) (ls : List Lexeme) → list_all is_text_lexeme ls ≡ true → list_all is_text_token (punctuate p ls) ≡ true
unfolding punctuate
punctuate_text Place.fresh [] all = refl
punctuate_text Place.after_value [] all = refl
punctuate_text Place.after_comma [] all = refl
punctuate_text Place.after_key [] all = refl
punctuate_text Place.fresh (token t ∷ ls) all =
    let parts = and_parts (is_text_token t) (list_all is_text_lexeme ls) all in place_text Place.fresh t (begins_colon ls) (λ next. punctuate next ls) parts.0 (λ next. punctuate_text next ls parts.1)
punctuate_text Place.after_value (token t ∷ ls) all =
    let parts = and_parts (is_text_token t) (list_all is_text_lexeme ls) all in place_text Place.after_value t (begins_colon ls) (λ next. punctuate next ls) parts.0 (λ next. punctuate_text next ls parts.1)
punctuate_text Place.after_comma (token t ∷ ls) all =
    let parts = and_parts (is_text_token t) (list_all is_text_lexeme ls) all in place_text Place.after_comma t (begins_colon ls) (λ next. punctuate next ls) parts.0 (λ next. punctuate_text next ls parts.1)
punctuate_text Place.after_key (token t ∷ ls) all =
    let parts = and_parts (is_text_token t) (list_all is_text_lexeme ls) all in place_text Place.after_key t (begins_colon ls) (λ next. punctuate next ls) parts.0 (λ next. punctuate_text next ls parts.1)
punctuate_text Place.fresh (comma ∷ ls) all = refl
punctuate_text Place.after_value (comma ∷ ls) all = punctuate_text Place.after_comma ls all
punctuate_text Place.after_comma (comma ∷ ls) all = refl
punctuate_text Place.after_key (comma ∷ ls) all = refl
punctuate_text Place.fresh (colon ∷ ls) all = refl
punctuate_text Place.after_value (colon ∷ ls) all = refl
punctuate_text Place.after_comma (colon ∷ ls) all = refl
punctuate_text Place.after_key (colon ∷ ls) all = punctuate_text Place.fresh ls all

-- the tokens of a text that is UTF-8 have such texts
pub tokens_text : (text : List ℕ) → IsUtf8 text → list_all is_text_token (tokens text) ≡ true
tokens_text text utf8 = punctuate_text Place.fresh (lex between text) (lex_text between text (text_cut text utf8))
