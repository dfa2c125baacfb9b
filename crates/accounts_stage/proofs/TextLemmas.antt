-- Texts that are UTF-8, cut and joined at bytes of ASCII.
use Rattle.std.proofs.Common.{◌≡◌, ℕ, suc, ◌<◌, ◌≤◌, Bool, true, false, cond, List, [], ◌∷◌, ◌++◌, length, get_or, IsUtf8, append-nil, inl, inr, refl, sym, ap, subst, ◌∙◌, arith}
use Rattle.std.proofs.lemmas.Bool.{and_from, and_parts, cases_Bool, cases_lt}
use Rattle.std.proofs.lemmas.Str.{IsUtf8-append, IsUtf8-encode, IsUtf8-from_is_utf8, IsUtf8-nil, encode_ascii, inside_one, is_utf8-from_IsUtf8}
use Rattle.std.specs.List.{AllByRecursion, join_with_byte, list_all, onto_first, slice_split}
use Rattle.std.specs.Str.{is_utf8}
use lib.Utf8.{encode, encodes, low_scalar, scalar, scalars}

-- ---- bytes of ASCII, and the others

pub ascii_then : (x : ℕ) (xs : List ℕ) → x < 128 → IsUtf8 xs → IsUtf8 (x ∷ xs)
ascii_then x xs small u = IsUtf8-append (x ∷ []) xs (subst IsUtf8 (encode_ascii x small) (IsUtf8-encode x (low_scalar x (omega arith)))) u

abbrev pub AreHigh : List ℕ → Type 0
AreHigh xs = AllByRecursion (λ x. 128 ≤ x) xs

all_high : (xs : List ℕ) → ((k : ℕ) → k < length xs → 128 ≤ get_or xs k 0) → AreHigh xs
all_high [] high = tt
all_high (x ∷ xs) high = (high 0 (omega arith), all_high xs (λ k within. high (suc k) (omega arith)))

-- no byte of a character beyond ASCII is ASCII
pub encoded_high : (c : ℕ) → 128 ≤ c → AreHigh (encode c)
encoded_high c big = all_high (encode c) (λ k below. elim (cases_lt (get_or (encode c) k 0) 128) [
  | inl low ↦ absurd (omega (arith, inside_one c [] (encode c) k (sym (append-nil (encode c))) below low))
  | inr high ↦ high
])

-- ---- cut

module _ (p : ℕ → Bool) (ascii : (x : ℕ) → p x ≡ true → x < 128) where
  abbrev AreTexts : List (List ℕ) → Type 0
  AreTexts parts = AllByRecursion IsUtf8 parts

  onto : List ℕ → List (List ℕ) → List (List ℕ)
  onto xs [] = xs ∷ []
  onto xs (part ∷ parts) = (xs ++ part) ∷ parts

  onto_one : (x : ℕ) (xs : List ℕ) (parts : List (List ℕ)) → onto_first x (onto xs parts) ≡ onto (x ∷ xs) parts
  unfolding onto
  onto_one x xs [] = refl
  onto_one x xs (part ∷ parts) = refl

  onto_none : (rest : List ℕ) → onto [] (slice_split p rest) ≡ slice_split p rest
  unfolding onto
  onto_none [] = refl
  onto_none (y ∷ rest) = by (p y) (slice_split p rest)
    where
      by : (b : Bool) (parts : List (List ℕ)) → onto [] (cond b ([] ∷ parts) (onto_first y parts)) ≡ cond b ([] ∷ parts) (onto_first y parts)
      by true parts = refl
      by false [] = refl
      by false (part ∷ parts) = refl

  -- what isn't cut goes before the first part
  split_high : (xs rest : List ℕ) → AreHigh xs → slice_split p (xs ++ rest) ≡ onto xs (slice_split p rest)
  split_high [] rest high = sym (onto_none rest)
  split_high (x ∷ xs) rest high = elim (cases_Bool (p x)) [
    | inl is ↦ absurd (let low = ascii x is in let big = high.0 in let no : ⊥ = omega arith in no)
    | inr other ↦
        ap (λ b. cond b ([] ∷ slice_split p (xs ++ rest)) (onto_first x (slice_split p (xs ++ rest)))) other
        ∙ ap (onto_first x) (split_high xs rest high.1) ∙ onto_one x xs (slice_split p rest)
  ]

  onto_texts : (xs : List ℕ) (parts : List (List ℕ)) → IsUtf8 xs → AreTexts parts → AreTexts (onto xs parts)
  unfolding onto
  onto_texts xs [] u all = (u, tt)
  onto_texts xs (part ∷ parts) u all = (IsUtf8-append xs part u all.0, all.1)

  first_texts : (x : ℕ) (parts : List (List ℕ)) → x < 128 → AreTexts parts → AreTexts (onto_first x parts)
  first_texts x [] small all = (ascii_then x [] small IsUtf8-nil, tt)
  first_texts x (part ∷ parts) small all = (ascii_then x part small all.0, all.1)

  split_chars : (cs : List ℕ) → scalars cs ≡ true → AreTexts (slice_split p (encodes cs))
  split_chars [] is = (IsUtf8-nil, tt)
  split_chars (c ∷ cs) is =
      let parts = and_parts (scalar c) (scalars cs) is in
      elim (cases_lt c 128) [
        | inl small ↦ subst (λ l. AreTexts (slice_split p (l ++ encodes cs))) (sym (encode_ascii c small)) (by (p c) small (split_chars cs parts.1))
        | inr big ↦
            subst AreTexts (sym (split_high (encode c) (encodes cs) (encoded_high c big)))
            (onto_texts (encode c) (slice_split p (encodes cs)) (IsUtf8-encode c parts.0) (split_chars cs parts.1))
      ]
    where
      by : (b : Bool) → c < 128 → AreTexts (slice_split p (encodes cs)) → AreTexts (cond b ([] ∷ slice_split p (encodes cs)) (onto_first c (slice_split p (encodes cs))))
      by true small all = (IsUtf8-nil, all)
      by false small all = first_texts c (slice_split p (encodes cs)) small all

  -- the parts of a text that is UTF-8 are
  pub split_texts : (text : List ℕ) → is_utf8 text ≡ true → list_all is_utf8 (slice_split p text) ≡ true
  split_texts text is =
      let u = IsUtf8-from_is_utf8 text is in
      all (slice_split p text) (subst (λ t. AreTexts (slice_split p t)) u.1.1 (split_chars u.0 u.1.0))
    where
      all : (parts : List (List ℕ)) → AreTexts parts → list_all is_utf8 parts ≡ true
      all [] texts = refl
      all (part ∷ parts) texts = and_from _ _ (is_utf8-from_IsUtf8 part texts.0) (all parts texts.1)

-- ---- joined

pub append_texts : (xs ys : List ℕ) → is_utf8 xs ≡ true → is_utf8 ys ≡ true → is_utf8 (xs ++ ys) ≡ true
append_texts xs ys one other = is_utf8-from_IsUtf8 (xs ++ ys) (IsUtf8-append xs ys (IsUtf8-from_is_utf8 xs one) (IsUtf8-from_is_utf8 ys other))

pub then_text : (x : ℕ) (xs : List ℕ) → x < 128 → is_utf8 xs ≡ true → is_utf8 (x ∷ xs) ≡ true
then_text x xs small is = is_utf8-from_IsUtf8 (x ∷ xs) (ascii_then x xs small (IsUtf8-from_is_utf8 xs is))

pub empty_text : is_utf8 [] ≡ true
empty_text = is_utf8-from_IsUtf8 [] IsUtf8-nil

-- texts that are UTF-8 are, joined by a byte of ASCII
pub join_texts : (c : ℕ) → c < 128 → (parts : List (List ℕ)) → list_all is_utf8 parts ≡ true → is_utf8 (join_with_byte c parts) ≡ true
join_texts c small [] all = empty_text
join_texts c small (part ∷ []) all = (and_parts (is_utf8 part) true all).0
join_texts c small (part ∷ (next ∷ parts)) all =
    let both = and_parts (is_utf8 part) (list_all is_utf8 (next ∷ parts)) all in
    append_texts part (c ∷ join_with_byte c (next ∷ parts)) both.0 (then_text c (join_with_byte c (next ∷ parts)) small (join_texts c small (next ∷ parts) both.1))
