-- Bytes that are cut at the first of a kind.
use Rattle.std.proofs.Common.{◌≡◌, ℕ, ◌+◌, ◌==◌, Bool, true, false, cond, List, [], ◌∷◌, ◌++◌, take, drop, position, Option, None, Some, option_map, suc, refl, sym, ap, ◌∙◌, subst, arith}
use Rattle.std.proofs.lemmas.Bool.{eqb-true}
use Rattle.std.proofs.lemmas.Grind.{common_steps}
use Rattle.std.proofs.lemmas.Option.{same_Some}
use Rattle.manager_core.specs.Reading.{parted}
use Rattle.manager_core.proofs.Names.{HasNo}

abbrev pub with_first : ℕ → List ℕ × List ℕ → List ℕ × List ℕ
with_first byte parts = (byte ∷ parts.0, parts.1)

-- the same, byte by byte
abbrev pub cut : ℕ → List ℕ → Option (List ℕ × List ℕ)
cut mark [] = None
cut mark (byte ∷ bytes) = cond (byte == mark) (Some ([], bytes)) (option_map (with_first byte) (cut mark bytes))

position_step : (p : ℕ → Bool) (x : ℕ) (xs : List ℕ) → position p (x ∷ xs) ≡ cond (p x) (Some 0) (option_map suc (position p xs))
position_step p x xs = elim (p x) as (λ b. p x ≡ b → position p (x ∷ xs) ≡ cond b (Some 0) (option_map suc (position p xs))) [
  | true ↦ λ e. grind (arith, common_steps)
  | false ↦ λ e. grind (arith, common_steps)
] refl

abbrev pub cut_at : List ℕ → ℕ → List ℕ × List ℕ
cut_at bytes at = (take at bytes, drop (at + 1) bytes)

one_later : (byte : ℕ) (bytes : List ℕ) (place : Option ℕ) → option_map (cut_at (byte ∷ bytes)) (option_map suc place) ≡ option_map (with_first byte) (option_map (cut_at bytes) place)
one_later byte bytes None = refl
one_later byte bytes (Some at) = let next : suc at + 1 ≡ suc (at + 1) = omega arith in ap (λ n. Some (byte ∷ take at bytes, drop n (byte ∷ bytes))) next

pub parted_is_cut : (mark : ℕ) (bytes : List ℕ) → parted mark bytes ≡ cut mark bytes
parted_is_cut mark [] = refl
parted_is_cut mark (byte ∷ bytes) =
    ap (option_map (cut_at (byte ∷ bytes))) (position_step (λ b. b == mark) byte bytes)
    ∙ elim (byte == mark) as (λ b. option_map (cut_at (byte ∷ bytes)) (cond b (Some 0) (option_map suc (position (λ b. b == mark) bytes)))
    ≡ cond b (Some ([], bytes)) (option_map (with_first byte) (cut mark bytes))) [
      | true ↦ refl
      | false ↦ one_later byte bytes (position (λ b. b == mark) bytes) ∙ ap (option_map (with_first byte)) (parted_is_cut mark bytes)
    ]

cut_parts : (mark : ℕ) (bytes : List ℕ) (parts : List ℕ × List ℕ) → cut mark bytes ≡ Some parts → (bytes ≡ parts.0 ++ mark ∷ parts.1) × HasNo mark parts.0
cut_parts mark [] parts is = absurd (let n : None ≡ Some parts = is in cc)
cut_parts mark (byte ∷ bytes) parts is =
    elim (byte == mark) as (λ b. (byte == mark) ≡ b → cond b (Some ([], bytes)) (option_map (with_first byte) (cut mark bytes)) ≡ Some parts
    → (byte ∷ bytes ≡ parts.0 ++ mark ∷ parts.1) × HasNo mark parts.0) [
      | true ↦ λ e i.
          let same : ([], bytes) ≡ parts = cc in
          subst (λ p. (byte ∷ bytes ≡ p.0 ++ mark ∷ p.1) × HasNo mark p.0) same (ap (λ b. b ∷ bytes) (eqb-true byte mark e), tt)
      | false ↦ λ e i. elim (cut mark bytes) as (λ o. cut mark bytes ≡ o → option_map (with_first byte) o ≡ Some parts → (byte ∷ bytes ≡ parts.0 ++ mark ∷ parts.1) × HasNo mark parts.0) [
        | None ↦ λ f j. absurd (let n : None ≡ Some parts = j in cc)
        | Some rest ↦ λ f j.
            let same : with_first byte rest ≡ parts = cc in
            let later = cut_parts mark bytes rest f in
            subst (λ p. (byte ∷ bytes ≡ p.0 ++ mark ∷ p.1) × HasNo mark p.0) same (ap (λ bs. byte ∷ bs) later.0, (e, later.1))
      ] refl i
    ] refl is

-- what stands before and after the first such byte
pub parted_parts : (mark : ℕ) (bytes : List ℕ) (parts : List ℕ × List ℕ) → parted mark bytes ≡ Some parts → (bytes ≡ parts.0 ++ mark ∷ parts.1) × HasNo mark parts.0
parted_parts mark bytes parts is = cut_parts mark bytes parts (sym (parted_is_cut mark bytes) ∙ is)

same_is : (mark : ℕ) → (mark == mark) ≡ true
same_is mark = grind arith

cut_joined : (mark : ℕ) (front back : List ℕ) → HasNo mark front → cut mark (front ++ mark ∷ back) ≡ Some (front, back)
cut_joined mark [] back none = ap (λ b. cond b (Some ([], back)) (option_map (with_first mark) (cut mark back))) (same_is mark)
cut_joined mark (byte ∷ front) back none =
    ap (λ b. cond b (Some ([], front ++ mark ∷ back)) (option_map (with_first byte) (cut mark (front ++ mark ∷ back)))) none.0
    ∙ ap (option_map (with_first byte)) (cut_joined mark front back none.1)

pub parted_joined : (mark : ℕ) (front back : List ℕ) → HasNo mark front → parted mark (front ++ mark ∷ back) ≡ Some (front, back)
parted_joined mark front back none = parted_is_cut mark (front ++ mark ∷ back) ∙ cut_joined mark front back none

cut_none : (mark : ℕ) (bytes : List ℕ) → cut mark bytes ≡ None → HasNo mark bytes
cut_none mark [] is = tt
cut_none mark (byte ∷ bytes) is =
    elim (byte == mark) as (λ b. (byte == mark) ≡ b → cond b (Some ([], bytes)) (option_map (with_first byte) (cut mark bytes)) ≡ None → HasNo mark (byte ∷ bytes)) [
      | true ↦ λ e i. absurd (let n : Some ([], bytes) ≡ None = i in cc)
      | false ↦ λ e i. elim (cut mark bytes) as (λ o. cut mark bytes ≡ o → option_map (with_first byte) o ≡ None → HasNo mark (byte ∷ bytes)) [
        | None ↦ λ f j. (e, cut_none mark bytes f)
        | Some rest ↦ λ f j. absurd (let n : Some (with_first byte rest) ≡ None = j in cc)
      ] refl i
    ] refl is

pub parted_none : (mark : ℕ) (bytes : List ℕ) → parted mark bytes ≡ None → HasNo mark bytes
parted_none mark bytes is = cut_none mark bytes (sym (parted_is_cut mark bytes) ∙ is)

-- bytes are cut in one way
pub cut_once : (mark : ℕ) (x xs y ys : List ℕ) → HasNo mark x → HasNo mark y → x ++ mark ∷ xs ≡ y ++ mark ∷ ys → (x ≡ y) × (xs ≡ ys)
cut_once mark x xs y ys no_x no_y same =
    let both = same_Some (x, xs) (y, ys) (sym (parted_joined mark x xs no_x) ∙ ap (parted mark) same ∙ parted_joined mark y ys no_y) in
    (ap (λ p. p.0) both, ap (λ p. p.1) both)
