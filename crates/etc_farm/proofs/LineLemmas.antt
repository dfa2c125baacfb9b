-- Names in line with others have the same first name, and what is in line with a place in etc.
use Rattle.std.proofs.Common.{◌≡◌, ◌⊎◌, ℕ, ◌+◌, ◌||◌, not, Bool, true, false, cond, List, [], ◌∷◌, ◌++◌, get_or, take, refl, sym, ap, subst, ◌∙◌, inl, inr, ⊎_elim, arith}
use Rattle.std.proofs.lemmas.Bool.{both_ways, cases_Bool, or_cases}
use Rattle.std.proofs.Math.Numerals.{one-add}
use Rattle.std.specs.List.{before_first, position_or_len}
use Rattle.std.specs.Cmp.{both_ways as same_test}
use Rattle.switch_names.specs.Names.{Name, has}
use Rattle.switch_names.specs.Path.{is_below, slash, is_slash}
use Rattle.switch_names.proofs.Below.{below_front, rest_below}
use Rattle.host_trait.specs.World.{is_in_line}
use Rattle.etc_manifest.specs.Place.{is_reserved, reserved_names}
use Rattle.etc_clean.specs.CleanList.{clean_name}
use Rattle.etc_clean.specs.Etc.{static_name}
use Rattle.etc_clean.specs.Names.{etc_folder, is_in_etc, name_of, place}
use Rattle.etc_clean.proofs.NameLemmas.{place_in_etc}
use Rattle.etc_farm.proofs.PlaceLemmas.{name_of_place}

-- ---- first names

cut : (b : Bool) (n : ℕ) (x : ℕ) (text : List ℕ) → take (cond (not b) (1 + n) 0) (x ∷ text) ≡ cond b [] (x ∷ take n text)
cut true n x text = refl
cut false n x text = ap (λ k. take k (x ∷ text)) (one-add n)

first_kept : (q rest : List ℕ) → before_first is_slash (q ++ slash ∷ rest) ≡ before_first is_slash q
first_kept [] rest = refl
first_kept (x ∷ q) rest =
    cut (is_slash x) (position_or_len is_slash (q ++ slash ∷ rest)) x (q ++ slash ∷ rest)
    ∙ ap (λ text. cond (is_slash x) [] (x ∷ text)) (first_kept q rest)
    ∙ sym (cut (is_slash x) (position_or_len is_slash q) x q)

below_reserved : (p q : Name) → is_below p q ≡ true → is_reserved p ≡ is_reserved q
below_reserved p q line =
    let cut = rest_below p q line in
    ap is_reserved cut.1 ∙ ap (λ (first : Name). has reserved_names first) (first_kept q cut.0)

-- names in line are both reserved or neither is
pub line_reserved : (p q : Name) → is_in_line p q ≡ true → is_reserved p ≡ is_reserved q
line_reserved p q line = ⊎_elim (below_reserved p q) (λ above. sym (below_reserved q p above)) (or_cases (is_below p q) (is_below q p) line)

-- ---- places in etc

place_longer : (q rest : List ℕ) → place q ++ slash ∷ rest ≡ place (q ++ slash ∷ rest)
unfolding place
place_longer q rest = refl

pub below_place : (p q : Name) → is_below (place p) (place q) ≡ is_below p q
below_place p q = same_test (is_below (place p) (place q)) (is_below p q)
    (λ is.
    let cut = rest_below (place p) (place q) is in
    let same : p ≡ q ++ slash ∷ cut.0 = sym (name_of_place p) ∙ ap name_of (cut.1 ∙ place_longer q cut.0) ∙ name_of_place (q ++ slash ∷ cut.0) in
    subst (λ x. is_below x q ≡ true) (sym same) (below_front q cut.0))
    (λ is.
    let cut = rest_below p q is in
    subst (λ x. is_below x (place q) ≡ true) (sym (ap place cut.1 ∙ sym (place_longer q cut.0))) (below_front (place q) cut.0))

pub line_place : (p q : Name) → is_in_line (place p) (place q) ≡ is_in_line p q
line_place p q = ap (λ b. b || is_below (place q) (place p)) (below_place p q) ∙ ap (λ b. is_below p q || b) (below_place q p)

-- a name that isn't reserved is in line with none that is
pub free_line : (p q : Name) → is_reserved p ≡ false → is_reserved q ≡ true → is_in_line (place p) (place q) ≡ false
free_line p q free reserved = elim (cases_Bool (is_in_line (place p) (place q))) [
  | inl line ↦ absurd (both_ways _ free (line_reserved p q (sym (line_place p q) ∙ line) ∙ reserved))
  | inr none ↦ none
]

pub static_clean : is_in_line (place static_name) (place clean_name) ≡ false
unfolding place static_name clean_name
static_clean = refl

pub clean_static : is_in_line (place clean_name) (place static_name) ≡ false
unfolding place static_name clean_name
clean_static = refl

etc_begins : (k : List ℕ) → is_in_etc (101 ∷ 116 ∷ 99 ∷ 47 ∷ k) ≡ true
unfolding place
etc_begins k = place_in_etc k

begins : (a b c d : ℕ) (k : List ℕ) → a ≡ 101 → b ≡ 116 → c ≡ 99 → d ≡ 47 → is_in_etc (a ∷ b ∷ c ∷ d ∷ k) ≡ true
begins a b c d k p q r s = ap is_in_etc (λ i. p i ∷ q i ∷ r i ∷ s i ∷ k) ∙ etc_begins k

-- what a place in etc lies below is etc, or a place in it
byte_at : (i : ℕ) (xs ys : List ℕ) → xs ≡ ys → get_or xs i 0 ≡ get_or ys i 0
byte_at i xs ys is = ap (λ (t : List ℕ). get_or t i 0) is

folder_is : (a b c : ℕ) → a ≡ 101 → b ≡ 116 → c ≡ 99 → a ∷ b ∷ c ∷ [] ≡ etc_folder
unfolding etc_folder
folder_is a b c p q r = λ i. p i ∷ q i ∷ r i ∷ []

first_byte : (q : Name) → get_or (place q) 0 0 ≡ 101
unfolding place
first_byte q = refl

second_byte : (q : Name) → get_or (place q) 1 0 ≡ 116
unfolding place
second_byte q = refl

third_byte : (q : Name) → get_or (place q) 2 0 ≡ 99
unfolding place
third_byte q = refl

fourth_byte : (q : Name) → get_or (place q) 3 0 ≡ 47
unfolding place
fourth_byte q = refl

above_place : (q : Name) (k : List ℕ) (rest : List ℕ) → place q ≡ k ++ slash ∷ rest → (k ≡ etc_folder) ⊎ (is_in_etc k ≡ true)
above_place q [] rest is = absurd (let same = sym (first_byte q) ∙ byte_at 0 (place q) (slash ∷ rest) is in omega arith)
above_place q (a ∷ []) rest is = absurd (let same = sym (second_byte q) ∙ byte_at 1 (place q) (a ∷ slash ∷ rest) is in omega arith)
above_place q (a ∷ b ∷ []) rest is = absurd (let same = sym (third_byte q) ∙ byte_at 2 (place q) (a ∷ b ∷ slash ∷ rest) is in omega arith)
above_place q (a ∷ b ∷ c ∷ []) rest is = inl (folder_is a b c
    (sym (byte_at 0 (place q) (a ∷ b ∷ c ∷ slash ∷ rest) is) ∙ first_byte q)
    (sym (byte_at 1 (place q) (a ∷ b ∷ c ∷ slash ∷ rest) is) ∙ second_byte q)
    (sym (byte_at 2 (place q) (a ∷ b ∷ c ∷ slash ∷ rest) is) ∙ third_byte q))
above_place q (a ∷ b ∷ c ∷ d ∷ k) rest is = inr (begins a b c d k
    (sym (byte_at 0 (place q) (a ∷ b ∷ c ∷ d ∷ (k ++ slash ∷ rest)) is) ∙ first_byte q)
    (sym (byte_at 1 (place q) (a ∷ b ∷ c ∷ d ∷ (k ++ slash ∷ rest)) is) ∙ second_byte q)
    (sym (byte_at 2 (place q) (a ∷ b ∷ c ∷ d ∷ (k ++ slash ∷ rest)) is) ∙ third_byte q)
    (sym (byte_at 3 (place q) (a ∷ b ∷ c ∷ d ∷ (k ++ slash ∷ rest)) is) ∙ fourth_byte q))

below_in_etc : (q : Name) (k : List ℕ) → is_below k (place q) ≡ true → is_in_etc k ≡ true
below_in_etc q k below = let cut = rest_below k (place q) below in subst (λ x. is_in_etc x ≡ true) (sym (cut.1 ∙ place_longer q cut.0)) (place_in_etc (q ++ slash ∷ cut.0))

-- what is in line with a place in etc is etc, or a place in it
pub line_in_etc : (q : Name) (k : List ℕ) → is_in_line k (place q) ≡ true → (k ≡ etc_folder) ⊎ (is_in_etc k ≡ true)
line_in_etc q k line = ⊎_elim
    (λ below. inr (below_in_etc q k below))
    (λ above. let cut = rest_below (place q) k above in above_place q k cut.0 cut.1)
    (or_cases (is_below k (place q)) (is_below (place q) k) line)
