-- A text by its first and its last byte.
use Rattle.std.proofs.Common.{◌≡◌, ◌≢◌, ℕ, ◌+◌, ◌-◌, ◌<◌, Bool, true, false, eqb, cond, not, ◌&&◌, ◌||◌, List, [], ◌∷◌, ◌++◌, length, get_or, take, drop, refl, sym, ap, ◌∙◌, suc, arith, Option, None, Some, MatchOption}
use Rattle.std.specs.Borrow.{Bor}
use Rattle.std.specs.List.{before_first, list_any, position_or_len}
use Rattle.std.proofs.lemmas.Bool.{and_right, ne_eqb, eq-eqb}
use Rattle.std.proofs.lemmas.List.{take_more, take_all, take_at, get_or_push, length_push}
use Rattle.unit_text.specs.Lines.{IsSplitAtBackslash}
use Rattle.switch_names.specs.Texts.{is_empty}
use Rattle.unit_text.specs.Statement.{begins_section, ends_section, between_ends, is_assignment, is_equals, key_part, trimmed}

last_split : (text : List ℕ) → 0 < length text → text ≡ take (length text - 1) text ++ get_or text (length text - 1) 0 ∷ []
last_split text some =
    let whole : length text - 1 + 1 ≡ length text = omega arith in
    sym (ap (λ n. take n text) whole ∙ take_all (length text) text (omega arith)) ∙ take_more text (length text - 1) 0 (omega arith)

-- a text that does not end with this byte has another last byte
pub last_other : (byte : ℕ) (text : List ℕ) → 0 < byte → ((front : List ℕ) → text ≢ front ++ byte ∷ []) → eqb (get_or text (length text - 1) 0) byte ≡ false
last_other byte text pos lacks = ne_eqb _ byte (λ e. by text pos lacks e)
  where
    by : (xs : List ℕ) → 0 < byte → ((front : List ℕ) → xs ≢ front ++ byte ∷ []) → get_or xs (length xs - 1) 0 ≡ byte → ⊥
    by [] pos lacks e = absurd (omega arith)
    by (x ∷ xs) pos lacks e =
        lacks (take (length (x ∷ xs) - 1) (x ∷ xs)) (last_split (x ∷ xs) (omega arith) ∙ ap (λ b. take (length (x ∷ xs) - 1) (x ∷ xs) ++ b ∷ []) e)

pub last_same : (byte : ℕ) (text front : List ℕ) → text ≡ front ++ byte ∷ [] → (get_or text (length text - 1) 0 ≡ byte) × (take (length text - 1) text ≡ front)
last_same byte text front e =
    let long = ap length e ∙ length_push front byte in
    let n : length text - 1 ≡ length front = omega arith in (
      ap (λ i. get_or text i 0) n ∙ (ap (λ t. get_or t (length front) 0) e ∙ get_or_push front byte 0 (length front) refl),
      ap (λ i. take i text) n ∙ (ap (take (length front)) e ∙ take_at front (byte ∷ []) (length front) refl),
    )

-- the clause of `strip_suffix` at a backslash
pub split_at_backslash : (line : List ℕ) (r : Option (Bor (List ℕ))) → MatchOption r ((front : List ℕ) → line ≢ front ++ (92 ∷ [])) (λ x. line ≡ x.now ++ (92 ∷ [])) → IsSplitAtBackslash line r
split_at_backslash line None lacks = last_other 92 line (omega arith) lacks
split_at_backslash line (Some x) e =
    let same = last_same 92 line x.now e in
    (eq-eqb _ 92 same.0, ap (λ t. t ++ 32 ∷ []) (sym same.1))

pub begins_other : (text : List ℕ) → ((rest : List ℕ) → text ≢ 91 ∷ rest) → begins_section text ≡ false
begins_other [] lacks = refl
begins_other (b ∷ text) lacks = ne_eqb b 91 (λ e. lacks text (ap (λ x. x ∷ text) e))

-- the clauses of `strip_prefix` and `strip_suffix` at brackets
pub brackets_missing : (text rest : List ℕ) → text ≡ 91 ∷ rest → ((front : List ℕ) → rest ≢ front ++ (93 ∷ [])) → ends_section text ≡ false
brackets_missing text rest e lacks = ap ends_section e ∙ by rest lacks
  where
    by : (xs : List ℕ) → ((front : List ℕ) → xs ≢ front ++ (93 ∷ [])) → ends_section (91 ∷ xs) ≡ false
    by [] lacks = refl
    by (x ∷ xs) lacks =
        let n : length (91 ∷ (x ∷ xs)) - 1 ≡ suc (length xs) = omega arith in
        let m : length (x ∷ xs) - 1 ≡ length xs = omega arith in
        ap (λ i. eqb (get_or (91 ∷ (x ∷ xs)) i 0) 93) n ∙ (ap (λ i. eqb (get_or (x ∷ xs) i 0) 93) (sym m) ∙ last_other 93 (x ∷ xs) (omega arith) lacks)

pub brackets_found : (text rest name : List ℕ) → text ≡ 91 ∷ rest → rest ≡ name ++ (93 ∷ []) → (begins_section text && ends_section text ≡ true) × (name ≡ between_ends text)
brackets_found text rest name e f =
    let whole = e ∙ ap (λ t. 91 ∷ t) f in
    let last = last_same 93 text (91 ∷ name) whole in
    let long = ap length whole in
    let size = length_push name 93 in
    let n : length text - 2 ≡ length name = omega arith in (
      ap (λ t. begins_section t && ends_section text) whole ∙ eq-eqb _ 93 last.0,
      sym (ap (λ i. take i (drop 1 text)) n ∙ (ap (λ t. take (length name) (drop 1 t)) whole ∙ take_at name (93 ∷ []) (length name) refl)),
    )

-- nothing passes where the first place that passes is the end
pub none_passes : {X : Type 0} (p : X → Bool) (xs : List X) → position_or_len p xs ≡ length xs → list_any p xs ≡ false
none_passes p [] e = refl
none_passes p (x ∷ xs) e = by (p x) refl (none_passes p xs)
  where
    by : (b : Bool) → p x ≡ b → (position_or_len p xs ≡ length xs → list_any p xs ≡ false) → p x || list_any p xs ≡ false
    by true t rest = absurd (omega (arith, sym e ∙ ap (λ b. cond (not b) (1 + position_or_len p xs) 0) t))
    by false f rest = ap (λ b. b || list_any p xs) f ∙ rest (omega (arith, sym (ap (λ b. cond (not b) (1 + position_or_len p xs) 0) f) ∙ e))

-- one passes where the first place that passes is before the end
pub one_passes : {X : Type 0} (p : X → Bool) (xs : List X) → position_or_len p xs < length xs → list_any p xs ≡ true
one_passes p [] lt = absurd (omega arith)
one_passes p (x ∷ xs) lt = by (p x) refl (one_passes p xs)
  where
    by : (b : Bool) → p x ≡ b → (position_or_len p xs < length xs → list_any p xs ≡ true) → p x || list_any p xs ≡ true
    by true t rest = ap (λ b. b || list_any p xs) t
    by false f rest = ap (λ b. b || list_any p xs) f ∙ rest (omega (arith, ap (λ b. cond (not b) (1 + position_or_len p xs) 0) f))

-- the key before the first `=` is empty
pub no_key : (text before key : List ℕ) → before ≡ before_first is_equals text → key ≡ trimmed before → true ≡ is_empty key → is_assignment text ≡ false
no_key text before key front is none =
    and_right (not (begins_section text) && list_any is_equals text) _ (ap not (ap (λ k. is_empty (trimmed k)) (sym front) ∙ ap is_empty (sym is) ∙ sym none))

-- the key before the first `=` isn't empty
pub some_key : (text before key : List ℕ) → begins_section text ≡ false → position_or_len is_equals text < length text → before ≡ before_first is_equals text → key ≡ trimmed before → false ≡ is_empty key
    → is_assignment text ≡ true
some_key text before key other within front is some =
    let passes = one_passes is_equals text within in
    let named : is_empty (key_part text) ≡ false = ap (λ k. is_empty (trimmed k)) (sym front) ∙ ap is_empty (sym is) ∙ sym some in
    λ i. not (other i) && passes i && not (named i)

either_first : (a b c d : Bool) → ((a || b) || (c || d)) ≡ ((a || c) || (b || d))
either_first true b c d = refl
either_first false true true d = refl
either_first false true false d = refl
either_first false false c d = refl

-- where one of two tests passes, one passes by the first or by the second
pub any_either : {X : Type 0} (p q : X → Bool) (xs : List X) → list_any (λ x. p x || q x) xs ≡ (list_any p xs || list_any q xs)
any_either p q [] = refl
any_either p q (x ∷ xs) = ap (λ rest. (p x || q x) || rest) (any_either p q xs) ∙ either_first (p x) (q x) (list_any p xs) (list_any q xs)
