-- The strings of a JSON value that is read of a text that is UTF-8 are UTF-8.
use Rattle.std.proofs.Common.{◌≡◌, ℕ, zero, suc, ◌&&◌, Bool, true, List, [], ◌∷◌, length, Option, None, Some, IfSome, option_map, option_and_then, IsUtf8, refl}
use Rattle.std.proofs.lemmas.Bool.{and_from, and_parts}
use Rattle.std.specs.Cmp.Lexicographic.{slice_cmp}
use Rattle.std.specs.List.{list_all}
use Rattle.std.specs.Ordering.{match_ordering, nat_cmp}
use Rattle.std.specs.Str.{is_utf8}
use Rattle.std.specs.declared.cmp.Ordering.{Ordering}
use Rattle.std.specs.declared.cmp.Ordering.TheVariants.{Equal, Greater, Less}
use Rattle.json.specs.Json as json
use Rattle.json.specs.Json.{Parse, after_end_array, items_step, members_step, parse_map, read_key, value_with}
use Rattle.json.specs.Lex.{tokens}
use Rattle.json.specs.Token.{Token}
use Rattle.serde_json.specs.Data as values
use Rattle.serde_json.specs.Data.{Data, Items, Members, put}
use Rattle.serde_json.specs.Read.{max_depth, number_of, of_items, of_json, of_members, read}
use Rattle.accounts_stage.proofs.LexTextLemmas.{is_text_token, tokens_text}

-- ---- JSON

abbrev mutual
  is_text : json.Json → Bool
  is_text json.null = true
  is_text (json.boolean b) = true
  is_text (json.number s) = true
  is_text (json.string s) = is_utf8 s
  is_text (json.array js) = are_texts js
  is_text (json.object ms) = are_named_texts ms

  are_texts : json.Items → Bool
  are_texts json.no_items = true
  are_texts (json.item j js) = is_text j && are_texts js

  are_named_texts : json.Members → Bool
  are_named_texts json.no_members = true
  are_named_texts (json.member k j ms) = is_utf8 k && (is_text j && are_named_texts ms)

abbrev AreTokens : List Token → Type 0
AreTokens ts = list_all is_text_token ts ≡ true

-- what is parsed passes a test, and the tokens that are left have such texts
abbrev IsParsed : {A : Type 0} → (A → Bool) → Option (A × List Token) → Type 0
IsParsed test o = IfSome o (λ p. (test p.0 ≡ true) × AreTokens p.1)

abbrev Parses : {A : Type 0} → (A → Bool) → Parse A → Type 0
Parses test parse = (ts : List Token) → AreTokens ts → IsParsed test (parse ts)

mapped : {A B : Type 0} (test : A → Bool) (other : B → Bool) (f : A → B) (o : Option (A × List Token)) → ((a : A) → test a ≡ true → other (f a) ≡ true) → IsParsed test o → IsParsed other (parse_map f o)
mapped test other f None more is = tt
mapped test other f (Some p) more is = (more p.0 is.0, is.1)

then_parsed : {A B : Type 0} (test : A → Bool) (other : B → Bool) (o : Option (A × List Token)) (f : A × List Token → Option (B × List Token)) → IsParsed test o →
    ((p : A × List Token) → test p.0 ≡ true → AreTokens p.1 → IsParsed other (f p)) → IsParsed other (option_and_then f o)
then_parsed test other None f is more = tt
then_parsed test other (Some p) f is more = more p is.0 is.1

after_end : (ts : List Token) → AreTokens ts → IfSome (after_end_array ts) AreTokens
after_end [] all = tt
after_end (Token.begin_object ∷ ts) all = tt
after_end (Token.end_object ∷ ts) all = tt
after_end (Token.begin_array ∷ ts) all = tt
after_end (Token.end_array ∷ ts) all = all
after_end (Token.key s ∷ ts) all = tt
after_end (Token.string s ∷ ts) all = tt
after_end (Token.number s ∷ ts) all = tt
after_end (Token.boolean b ∷ ts) all = tt
after_end (Token.null ∷ ts) all = tt
after_end (Token.bad ∷ ts) all = tt

abbrev is_key : Option (List ℕ) → Bool
is_key None = true
is_key (Some k) = is_utf8 k

key_parsed : Parses is_key read_key
key_parsed [] all = tt
key_parsed (Token.begin_object ∷ ts) all = tt
key_parsed (Token.end_object ∷ ts) all = (refl, all)
key_parsed (Token.begin_array ∷ ts) all = tt
key_parsed (Token.end_array ∷ ts) all = tt
key_parsed (Token.key s ∷ ts) all = and_parts (is_utf8 s) (list_all is_text_token ts) all
key_parsed (Token.string s ∷ ts) all = tt
key_parsed (Token.number s ∷ ts) all = tt
key_parsed (Token.boolean b ∷ ts) all = tt
key_parsed (Token.null ∷ ts) all = tt
key_parsed (Token.bad ∷ ts) all = tt

module _ (value : Parse json.Json) (parses : Parses is_text value) where
  items_parsed : (n : ℕ) → Parses are_texts (json.items value n)
  unfolding json.items
  items_parsed zero ts all = tt
  items_parsed (suc n) ts all = by (after_end_array ts) (after_end ts all) (items_parsed n)
    where
      by : (o : Option (List Token)) → IfSome o AreTokens → Parses are_texts (json.items value n) → IsParsed are_texts (items_step value (json.items value n) ts o)
      by (Some rest) is more = (refl, is)
      by None is more = then_parsed is_text are_texts (value ts) (λ p. parse_map (json.item p.0) (json.items value n p.1)) (parses ts all)
          (λ p one left. mapped are_texts are_texts (json.item p.0) (json.items value n p.1) (λ js rest. and_from _ _ one rest) (more p.1 left))

  members_parsed : (n : ℕ) → Parses are_named_texts (json.members value n)
  unfolding json.members
  members_parsed zero ts all = tt
  members_parsed (suc n) ts all = then_parsed is_key are_named_texts (read_key ts) (λ p. members_step value (json.members value n) p.0 p.1) (key_parsed ts all) (λ p key left. by p.0 p.1 key left (members_parsed n))
    where
      by : (o : Option (List ℕ)) (left : List Token) → is_key o ≡ true → AreTokens left → Parses are_named_texts (json.members value n) → IsParsed are_named_texts (members_step value (json.members value n) o left)
      by None left key all others = (refl, all)
      by (Some k) left key all others = then_parsed is_text are_named_texts (value left) (λ p. parse_map (json.member k p.0) (json.members value n p.1)) (parses left all)
          (λ p one rest. mapped are_named_texts are_named_texts (json.member k p.0) (json.members value n p.1) (λ ms more. and_from _ _ key (and_from _ _ one more)) (others p.1 rest))

with_parsed : (a : Parse json.Items) (o : Parse json.Members) → Parses are_texts a → Parses are_named_texts o → Parses is_text (value_with a o)
with_parsed a o items members [] all = tt
with_parsed a o items members (Token.begin_object ∷ ts) all = mapped are_named_texts is_text json.object (o ts) (λ ms is. is) (members ts all)
with_parsed a o items members (Token.end_object ∷ ts) all = tt
with_parsed a o items members (Token.begin_array ∷ ts) all = mapped are_texts is_text json.array (a ts) (λ js is. is) (items ts all)
with_parsed a o items members (Token.end_array ∷ ts) all = tt
with_parsed a o items members (Token.key s ∷ ts) all = tt
with_parsed a o items members (Token.string s ∷ ts) all = and_parts (is_utf8 s) (list_all is_text_token ts) all
with_parsed a o items members (Token.number s ∷ ts) all = (refl, all)
with_parsed a o items members (Token.boolean b ∷ ts) all = (refl, all)
with_parsed a o items members (Token.null ∷ ts) all = (refl, all)
with_parsed a o items members (Token.bad ∷ ts) all = tt

value_parsed : (n : ℕ) → Parses is_text (json.value n)
unfolding json.value
value_parsed zero ts all = with_parsed (λ ts. None) (λ ts. None) (λ ts all. tt) (λ ts all. tt) ts all
value_parsed (suc n) ts all =
    with_parsed (λ ts. json.items (json.value n) (length ts) ts) (λ ts. json.members (json.value n) (length ts) ts) (λ ts all. items_parsed (json.value n) (value_parsed n) (length ts) ts all)
    (λ ts all. members_parsed (json.value n) (value_parsed n) (length ts) ts all) ts all

-- ---- values

abbrev mutual
  pub is_data_text : Data → Bool
  is_data_text values.null = true
  is_data_text (values.boolean b) = true
  is_data_text (values.number n) = true
  is_data_text (values.string s) = is_utf8 s
  is_data_text (values.array ds) = are_item_texts ds
  is_data_text (values.object ms) = are_member_texts ms

  pub are_item_texts : Items → Bool
  are_item_texts values.no_items = true
  are_item_texts (values.item d ds) = is_data_text d && are_item_texts ds

  pub are_member_texts : Members → Bool
  are_member_texts values.no_members = true
  are_member_texts (values.member k d ms) = is_utf8 k && (is_data_text d && are_member_texts ms)

put_texts : (k : List ℕ) (d : Data) (ms : Members) → is_utf8 k ≡ true → is_data_text d ≡ true → are_member_texts ms ≡ true → are_member_texts (put k d ms) ≡ true
put_texts k d values.no_members key is all = and_from _ _ key (and_from _ _ is refl)
put_texts k d (values.member l e ms) key is all =
    let first = and_parts (is_utf8 l) (is_data_text e && are_member_texts ms) all in
    let second = and_parts (is_data_text e) (are_member_texts ms) first.1 in
    by (slice_cmp nat_cmp k l) first.0 second.0 second.1 (put_texts k d ms key is second.1)
  where
    by : (o : Ordering) → is_utf8 l ≡ true → is_data_text e ≡ true → are_member_texts ms ≡ true → are_member_texts (put k d ms) ≡ true →
        are_member_texts (match_ordering o (values.member k d (values.member l e ms)) (values.member l d ms) (values.member l e (put k d ms))) ≡ true
    by Less name value rest later = and_from _ _ key (and_from _ _ is (and_from _ _ name (and_from _ _ value rest)))
    by Equal name value rest later = and_from _ _ name (and_from _ _ is rest)
    by Greater name value rest later = and_from _ _ name (and_from _ _ value later)

map_some : {A B : Type 0} (p : A → Bool) (q : B → Bool) (f : A → B) (o : Option A) → ((a : A) → p a ≡ true → q (f a) ≡ true) → IfSome o (λ a. p a ≡ true) → IfSome (option_map f o) (λ b. q b ≡ true)
map_some p q f None more is = tt
map_some p q f (Some a) more is = more a is

then_some : {A B : Type 0} (p : A → Bool) (q : B → Bool) (f : A → Option B) (o : Option A) → ((a : A) → p a ≡ true → IfSome (f a) (λ b. q b ≡ true)) → IfSome o (λ a. p a ≡ true) → IfSome (option_and_then f o) (λ b. q b ≡ true)
then_some p q f None more is = tt
then_some p q f (Some a) more is = more a is

any : {A : Type 0} (o : Option A) → IfSome o (λ a. true ≡ true)
any None = tt
any (Some a) = refl

mutual
  json_texts : (j : json.Json) → is_text j ≡ true → IfSome (of_json j) (λ d. is_data_text d ≡ true)
  json_texts json.null is = refl
  json_texts (json.boolean b) is = refl
  json_texts (json.number s) is = map_some (λ n. true) is_data_text values.number (number_of s) (λ n _. refl) (any (number_of s))
  json_texts (json.string s) is = is
  json_texts (json.array js) is = map_some are_item_texts is_data_text values.array (of_items js) (λ ds all. all) (items_texts js is)
  json_texts (json.object ms) is = map_some are_member_texts is_data_text values.object (of_members ms values.no_members) (λ found all. all) (members_texts ms values.no_members is refl)

  items_texts : (js : json.Items) → are_texts js ≡ true → IfSome (of_items js) (λ ds. are_item_texts ds ≡ true)
  items_texts json.no_items all = refl
  items_texts (json.item j js) all =
      let parts = and_parts (is_text j) (are_texts js) all in
      then_some is_data_text are_item_texts (λ d. option_map (values.item d) (of_items js)) (of_json j)
      (λ d one. map_some are_item_texts are_item_texts (values.item d) (of_items js) (λ ds rest. and_from _ _ one rest) (items_texts js parts.1)) (json_texts j parts.0)

  members_texts : (ms : json.Members) (found : Members) → are_named_texts ms ≡ true → are_member_texts found ≡ true → IfSome (of_members ms found) (λ all. are_member_texts all ≡ true)
  members_texts json.no_members found all before = before
  members_texts (json.member k j ms) found all before =
      let key = and_parts (is_utf8 k) (is_text j && are_named_texts ms) all in
      let parts = and_parts (is_text j) (are_named_texts ms) key.1 in
      then_some is_data_text are_member_texts (λ d. of_members ms (put k d found)) (of_json j) (λ d one. members_texts ms (put k d found) parts.1 (put_texts k d found key.0 one before)) (json_texts j parts.0)

-- the strings of a value that is read
pub read_texts : (bytes : List ℕ) → IsUtf8 bytes → IfSome (read bytes) (λ d. is_data_text d ≡ true)
read_texts bytes utf8 = whole (json.value max_depth (tokens bytes)) (value_parsed max_depth (tokens bytes) (tokens_text bytes utf8))
  where
    last : (j : json.Json) (ts : List Token) → is_text j ≡ true → IfSome (option_and_then of_json (json.if_last j ts)) (λ d. is_data_text d ≡ true)
    last j [] is = json_texts j is
    last j (t ∷ ts) is = tt

    whole : (o : Option (json.Json × List Token)) → IsParsed is_text o → IfSome (option_and_then of_json (option_and_then (λ p. json.if_last p.0 p.1) o)) (λ d. is_data_text d ≡ true)
    whole None is = tt
    whole (Some p) is = last p.0 p.1 is.0
