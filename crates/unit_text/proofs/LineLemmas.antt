-- The lines that `bstr` gives, without their line feeds, are the lines of the bytes.
use Rattle.std.proofs.Common.{◌≡◌, ℕ, ◌-◌, ◌≤◌, Bool, true, false, eqb, cond, List, [], ◌∷◌, length, get_or, take, drop, map, refl, sym, ap, ◌∙◌, subst, zero, suc, arith}
use Rattle.std.specs.List.{onto_first}
use Rattle.std.proofs.lemmas.List.{length-drop}
use Rattle.bstr.specs.Text.{line_len, lines_from, lines_of}
use Rattle.unit_text.specs.Lines.{lines, without_line_feed}

-- a byte before a line that isn't empty is no end of it
without-cons : (byte b : ℕ) (line : List ℕ) → without_line_feed (byte ∷ (b ∷ line)) ≡ byte ∷ without_line_feed (b ∷ line)
without-cons byte b line =
    let n : length (byte ∷ (b ∷ line)) - 1 ≡ suc (length line) = omega arith in
    let m : length (b ∷ line) - 1 ≡ length line = omega arith in
    ap (λ i. cond (eqb (get_or (byte ∷ (b ∷ line)) i 0) 10) (take i (byte ∷ (b ∷ line))) (byte ∷ (b ∷ line))) n
    ∙ by (eqb (get_or (b ∷ line) (length line) 0) 10)
    ∙ ap (λ i. byte ∷ cond (eqb (get_or (b ∷ line) i 0) 10) (take i (b ∷ line)) (b ∷ line)) (sym m)
  where
    by : (t : Bool) → cond t (byte ∷ take (length line) (b ∷ line)) (byte ∷ (b ∷ line)) ≡ byte ∷ cond t (take (length line) (b ∷ line)) (b ∷ line)
    by true = refl
    by false = refl

some_len : (b : ℕ) (rest : List ℕ) → (m : ℕ) × (line_len (b ∷ rest) ≡ suc m)
unfolding line_len
some_len b rest = by (eqb b 10)
  where
    by : (t : Bool) → (m : ℕ) × (cond t 1 (suc (line_len rest)) ≡ suc m)
    by true = (0, refl)
    by false = (line_len rest, refl)

abbrev IsFirstLine : ℕ → List ℕ → ℕ → Type 0
IsFirstLine byte bytes len = lines (byte ∷ bytes) ≡ without_line_feed (take len (byte ∷ bytes)) ∷ lines (drop len (byte ∷ bytes))

ends_at_feed : (byte : ℕ) (bytes : List ℕ) → eqb byte 10 ≡ true → IsFirstLine byte bytes 1
ends_at_feed byte bytes e =
    ap (λ t. cond t ([] ∷ lines bytes) (onto_first byte (lines bytes))) e ∙ ap (λ t. cond t [] (byte ∷ []) ∷ lines bytes) (sym e)

ends_at_end : (byte : ℕ) → eqb byte 10 ≡ false → IsFirstLine byte [] 1
ends_at_end byte e =
    ap (λ t. cond t ([] ∷ []) ((byte ∷ []) ∷ [])) e ∙ ap (λ t. cond t [] (byte ∷ []) ∷ []) (sym e)

goes_on : (byte b : ℕ) (rest : List ℕ) (m : ℕ) → eqb byte 10 ≡ false → IsFirstLine b rest (suc m) → IsFirstLine byte (b ∷ rest) (suc (suc m))
goes_on byte b rest m e h =
    ap (λ t. cond t ([] ∷ lines (b ∷ rest)) (onto_first byte (lines (b ∷ rest)))) e
    ∙ ap (onto_first byte) h
    ∙ ap (λ line. line ∷ lines (drop m rest)) (sym (without-cons byte b (take m rest)))

-- the first line, and those of what follows it
first_line : (byte : ℕ) (bytes : List ℕ) → IsFirstLine byte bytes (line_len (byte ∷ bytes))
unfolding line_len
first_line byte [] = by (eqb byte 10) refl
  where
    by : (t : Bool) → eqb byte 10 ≡ t → IsFirstLine byte [] (line_len (byte ∷ []))
    by true e = subst (λ (t : Bool). IsFirstLine byte [] (cond t 1 (suc (line_len [])))) (sym e) (ends_at_feed byte [] e)
    by false e = subst (λ (t : Bool). IsFirstLine byte [] (cond t 1 (suc (line_len [])))) (sym e) (ends_at_end byte e)
first_line byte (b ∷ rest) = by (eqb byte 10) refl (first_line b rest)
  where
    by : (t : Bool) → eqb byte 10 ≡ t → IsFirstLine b rest (line_len (b ∷ rest)) → IsFirstLine byte (b ∷ rest) (line_len (byte ∷ (b ∷ rest)))
    by true e h = subst (λ (t : Bool). IsFirstLine byte (b ∷ rest) (cond t 1 (suc (line_len (b ∷ rest))))) (sym e) (ends_at_feed byte (b ∷ rest) e)
    by false e h =
        let some = some_len b rest in
        subst (λ (t : Bool). IsFirstLine byte (b ∷ rest) (cond t 1 (suc (line_len (b ∷ rest))))) (sym e)
        (subst (λ (n : ℕ). IsFirstLine byte (b ∷ rest) (suc n)) (sym some.1) (goes_on byte b rest some.0 e (subst (IsFirstLine b rest) some.1 h)))

shorter : (b : ℕ) (rest : List ℕ) (n : ℕ) → length (b ∷ rest) ≤ suc n → length (drop (line_len (b ∷ rest)) (b ∷ rest)) ≤ n
shorter b rest n h = let some = some_len b rest in omega (arith, length-drop (line_len (b ∷ rest)) (b ∷ rest), some.1)

from_is : (n : ℕ) (bytes : List ℕ) → length bytes ≤ n → map without_line_feed (lines_from n bytes) ≡ lines bytes
unfolding lines_from
from_is zero [] h = refl
from_is zero (b ∷ rest) h = absurd (omega arith)
from_is (suc n) [] h = refl
from_is (suc n) (b ∷ rest) h =
    ap (λ ls. without_line_feed (take (line_len (b ∷ rest)) (b ∷ rest)) ∷ ls) (from_is n (drop (line_len (b ∷ rest)) (b ∷ rest)) (shorter b rest n h))
    ∙ sym (first_line b rest)

pub lines_are : (bytes : List ℕ) → map without_line_feed (lines_of bytes) ≡ lines bytes
lines_are bytes = from_is (length bytes) bytes (omega arith)
