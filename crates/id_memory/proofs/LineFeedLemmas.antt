-- A line feed after JSON makes no difference to its tokens.
use Rattle.std.proofs.Common.{◌≡◌, ℕ, Bool, true, false, cond, ◌&&◌, List, [], ◌∷◌, ◌++◌, refl, sym, ap, ap₂, ◌∙◌, append_assoc}
use Rattle.json.specs.Token.{Token, begin_object, end_object, begin_array, end_array, key, string, number, boolean, null, bad}
use Rattle.json.specs.Word.{ends_word, word}
use Rattle.json.specs.Lex.{Lexeme, token, comma, colon, string_token, lex, between, fresh, punctuate, tokens}
use Rattle.json.specs.Print.{escape, quoted, token_text, begins, ends, separator, print_from, print, IsPrintableOrBad, ArePrintableOrBad}
use Rattle.json.proofs.Numbered.{ArePrintableOrBad-tokens}
use Rattle.json.proofs.Printed.Strings.{content-escape, lex-escape}
use Rattle.json.proofs.Printed.Numbers.{lex-number, in_word-ended}

abbrev line_feed : List ℕ
line_feed = 10 ∷ []

abbrev token_lexemes : Token → List Lexeme
token_lexemes begin_object = token begin_object ∷ []
token_lexemes end_object = token end_object ∷ []
token_lexemes begin_array = token begin_array ∷ []
token_lexemes end_array = token end_array ∷ []
token_lexemes (key s) = token (string s) ∷ colon ∷ []
token_lexemes (string s) = token (string s) ∷ []
token_lexemes (number s) = token (number s) ∷ []
token_lexemes (boolean b) = token (boolean b) ∷ []
token_lexemes null = token null ∷ []
token_lexemes bad = []

-- after a value a word ends
value_ends : (ts : List Token) → ends_word (print_from true ts) ≡ true
unfolding print_from
value_ends [] = refl
value_ends (begin_object ∷ ts) = refl
value_ends (end_object ∷ ts) = refl
value_ends (begin_array ∷ ts) = refl
value_ends (end_array ∷ ts) = refl
value_ends (key s ∷ ts) = refl
value_ends (string s ∷ ts) = refl
value_ends (number s ∷ ts) = refl
value_ends (boolean b ∷ ts) = refl
value_ends (null ∷ ts) = refl
value_ends (bad ∷ ts) = refl

value_ends_fed : (ts : List Token) → ends_word (print_from true ts ++ line_feed) ≡ true
unfolding print_from
value_ends_fed [] = refl
value_ends_fed (begin_object ∷ ts) = refl
value_ends_fed (end_object ∷ ts) = refl
value_ends_fed (begin_array ∷ ts) = refl
value_ends_fed (end_array ∷ ts) = refl
value_ends_fed (key s ∷ ts) = refl
value_ends_fed (string s ∷ ts) = refl
value_ends_fed (number s ∷ ts) = refl
value_ends_fed (boolean b ∷ ts) = refl
value_ends_fed (null ∷ ts) = refl
value_ends_fed (bad ∷ ts) = refl

lex-quoted : (s r : List ℕ) → lex between (quoted s ++ r) ≡ token (string s) ∷ lex between r
unfolding lex
lex-quoted s r =
    let e = append_assoc (escape s) (34 ∷ []) r in
    ap (λ l. lex between (34 ∷ l)) e ∙ ap₂ (λ o l. token (string_token o) ∷ l) (content-escape s r) (lex-escape s r)

-- the text of a token before another text
lex-token_text : (t : Token) (r : List ℕ) → IsPrintableOrBad t → (ends t ≡ true → ends_word r ≡ true) → lex between (token_text t ++ r) ≡ token_lexemes t ++ lex between r
unfolding lex word
lex-token_text begin_object r h ended = refl
lex-token_text end_object r h ended = refl
lex-token_text begin_array r h ended = refl
lex-token_text end_array r h ended = refl
lex-token_text (key s) r h ended = ap (lex between) (append_assoc (quoted s) (58 ∷ []) r) ∙ lex-quoted s (58 ∷ r)
lex-token_text (string s) r h ended = lex-quoted s r
lex-token_text (number s) r h ended = lex-number s r h (ended refl)
lex-token_text (boolean true) r h ended = ap₂ (λ b l. token (cond b (boolean true) bad) ∷ l) (ended refl) (in_word-ended r (ended refl))
lex-token_text (boolean false) r h ended = ap₂ (λ b l. token (cond b (boolean false) bad) ∷ l) (ended refl) (in_word-ended r (ended refl))
lex-token_text null r h ended = ap₂ (λ b l. token (cond b null bad) ∷ l) (ended refl) (in_word-ended r (ended refl))
lex-token_text bad r h ended = refl

lex-separator : (b : Bool) (r : List ℕ) → lex between (cond b (44 ∷ []) [] ++ r) ≡ cond b (comma ∷ []) [] ++ lex between r
unfolding lex
lex-separator true r = refl
lex-separator false r = refl

lex-fed : (c : Bool) (ts : List Token) → ArePrintableOrBad ts → lex between (print_from c ts ++ line_feed) ≡ lex between (print_from c ts)
unfolding lex print_from
lex-fed c [] h = refl
lex-fed c (t ∷ ts) h =
    let rest = print_from (ends t) ts in
    ap (lex between) (append_assoc (separator c t) (token_text t ++ rest) line_feed ∙ ap (λ l. separator c t ++ l) (append_assoc (token_text t) rest line_feed))
    ∙ lex-separator (c && begins t) (token_text t ++ (rest ++ line_feed))
    ∙ ap (λ l. cond (c && begins t) (comma ∷ []) [] ++ l)
    (lex-token_text t (rest ++ line_feed) h.0 (λ e. ap (λ b. ends_word (print_from b ts ++ line_feed)) e ∙ value_ends_fed ts)
    ∙ ap (λ l. token_lexemes t ++ l) (lex-fed (ends t) ts h.1)
    ∙ sym (lex-token_text t rest h.0 (λ e. ap (λ b. ends_word (print_from b ts)) e ∙ value_ends ts)))
    ∙ sym (lex-separator (c && begins t) (token_text t ++ rest))

-- a line feed after a text without blanks
pub tokens-fed : (s : List ℕ) → s ≡ print (tokens s) → tokens (s ++ line_feed) ≡ tokens s
tokens-fed s is =
    ap (punctuate fresh)
    (ap (λ l. lex between (l ++ line_feed)) is ∙ lex-fed false (tokens s) (ArePrintableOrBad-tokens s) ∙ ap (lex between) (sym is))
