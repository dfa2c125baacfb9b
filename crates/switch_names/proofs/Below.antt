-- Paths below one another, as texts that are cut at a slash.
use Rattle.std.proofs.Common.{suc, ◌≡◌, ◌⊎◌, ℕ, ◌<◌, ◌&&◌, ◌==◌, ◌+◌, Bool, true, false, cond, nat_lt, nat_eq, slice_index, List, [], ◌∷◌, ◌++◌, length, take, drop, Bor, Option, None, Some, IfSome, MatchOption, option_copied, ◌≢◌, arith, refl, sym, ap, ◌∙◌, inl, inr, ⊎_elim, lit<, length-append, append_assoc}
use Rattle.std.proofs.Math.Seq.{drop-cons, get_or-append_seam}
use Rattle.std.proofs.lemmas.Bool.{cases_Bool, both_ways, and_parts}
use Rattle.std.proofs.lemmas.Bool.Decides.{Decides-eqb}
use Rattle.std.proofs.lemmas.List.Folds.{list_any-append}
use Rattle.std.proofs.lemmas.Slice.Eq.{starts_is}
use Rattle.std.proofs.lemmas.Bool.{ne_eqb}
use Rattle.std.proofs.lemmas.List.{drop_at, get_or_default, take-append-drop}
use Rattle.std.proofs.lemmas.List.Folds.{list_any_none}
use Rattle.std.proofs.lemmas.Str.Pattern.{NoCharPasses-char, drop_at_char}
use Rattle.std.proofs.Math.Bool.{or-true}
use Rattle.std.specs.List.{list_any, starts_with}
use Rattle.std.specs.Str.{NoCharPasses}
use Rattle.std.specs.Str.Pattern.{RFindsChar}
use Rattle.switch_names.specs.Path.{IsParentOf, is_below, name_below, slash, is_slash}
use Rattle.switch_names.proofs.Joined.{drop_joined}

pub less_from_test : (m n : ℕ) → nat_lt m n ≡ true → m < n
less_from_test m n is = grind arith

test_from_less : (m n : ℕ) → m < n → nat_lt m n ≡ true
test_from_less m n is = grind arith

all_three : (a b c : Bool) → a ≡ true → b ≡ true → c ≡ true → (a && (b && c)) ≡ true
all_three a b c first second third = ap (λ x. x && (b && c)) first ∙ ap (λ x. x && c) second ∙ third

-- a text that is cut at a slash lies below what stands before it
pub below_front : (front rest : List ℕ) → is_below (front ++ slash ∷ rest) front ≡ true
below_front front rest =
    let text : List ℕ = front ++ slash ∷ rest in
    all_three (nat_lt (length front) (length text)) (starts_with nat_eq text front) (slice_index text (length front) == slash)
    (test_from_less (length front) (length text) (omega (arith, length-append front (slash ∷ rest))))
    ((starts_is Decides-eqb text front (starts_with nat_eq text front) refl).1 (slash ∷ rest) refl)
    (ap (λ b. b == slash) (get_or-append_seam front slash rest 0))

-- what lies below another begins with it and a slash
pub rest_below : (path q : List ℕ) → is_below path q ≡ true → (rest : List ℕ) × (path ≡ q ++ slash ∷ rest)
rest_below path q is =
    let parts = and_parts (nat_lt (length q) (length path)) (starts_with nat_eq path q && slice_index path (length q) == slash) is in
    let more = and_parts (starts_with nat_eq path q) (slice_index path (length q) == slash) parts.1 in
    let less = less_from_test (length q) (length path) parts.0 in (
      drop (suc (length q)) path,
      (starts_is Decides-eqb path q (starts_with nat_eq path q) refl).0 more.0
          ∙ ap (λ rest. q ++ rest) (drop-cons path (length q) 0 less ∙ ap (λ b. b ∷ drop (suc (length q)) path) ((Decides-eqb (slice_index path (length q)) slash).0 more.1)),
    )

-- what a path lies below, it is longer than
pub shorter_above : (path q : List ℕ) → is_below path q ≡ true → length q < length path
shorter_above path q is =
    less_from_test (length q) (length path) (and_parts (nat_lt (length q) (length path)) (starts_with nat_eq path q && slice_index path (length q) == slash) is).0

-- what lies below a path lies below all that the path lies below
pub below_both : (path middle q : List ℕ) → is_below path middle ≡ true → is_below middle q ≡ true → is_below path q ≡ true
below_both path middle q first second =
    let long = rest_below path middle first in
    let short = rest_below middle q second in
    ap (λ t. is_below t q)
    (long.1 ∙ ap (λ t. t ++ slash ∷ long.0) short.1 ∙ append_assoc q (slash ∷ short.0) (slash ∷ long.0))
    ∙ below_front q (short.0 ++ slash ∷ long.0)

has_slash : (front rest : List ℕ) → list_any is_slash (front ++ slash ∷ rest) ≡ true
has_slash front rest = list_any-append is_slash front (slash ∷ rest) ∙ or-true (list_any is_slash front)

-- a text that is cut at a slash and at its last one: the two are one, or the first lies before the last
two_cuts : (q front rest name : List ℕ) → list_any is_slash name ≡ false → q ++ slash ∷ rest ≡ front ++ slash ∷ name → (q ≡ front) ⊎ ((more : List ℕ) × (front ≡ q ++ slash ∷ more))
two_cuts [] [] rest name free same = inl refl
two_cuts [] (y ∷ front) rest name free same = inr (front, cc)
two_cuts (x ∷ q) [] rest name free same =
    let tail : q ++ slash ∷ rest ≡ name = cc in
    absurd (both_ways _ free (ap (list_any is_slash) (sym tail) ∙ has_slash q rest))
two_cuts (x ∷ q) (y ∷ front) rest name free same =
    let first : x ≡ y = cc in
    elim (two_cuts q front rest name free cc) [
      | inl is ↦ inl cc
      | inr later ↦ inr (later.0, let next : front ≡ q ++ slash ∷ later.0 = later.1 in cc)
    ]

-- the text before the last slash is the parent
pub front_is_parent : (text front name : List ℕ) → text ≡ front ++ slash ∷ name → list_any is_slash name ≡ false → IsParentOf text front
front_is_parent text front name is free = record {
  below = ap (λ t. is_below t front) is ∙ below_front front name;
  above = λ q line. ⊎_elim
      (λ same. inl same)
      (λ later. inr (ap (λ t. is_below t q) later.1 ∙ below_front q later.0))
      (let cut = rest_below text q line in two_cuts q front cut.0 name free (sym cut.1 ∙ is));
}

-- a text without a slash lies below none
pub none_below : (text : List ℕ) → list_any is_slash text ≡ false → (q : List ℕ) → is_below text q ≡ false
none_below text free q = elim (cases_Bool (is_below text q)) [
  | inl is ↦ let cut = rest_below text q is in absurd (both_ways _ free (ap (list_any is_slash) cut.1 ∙ has_slash q cut.0))
  | inr is ↦ is
]

-- a text in which no slash is found has none
pub no_slash : (text : List ℕ) → NoCharPasses (λ byte. byte == slash) text → list_any is_slash text ≡ false
no_slash text none =
    list_any_none is_slash text (λ k d less. ap is_slash (get_or_default text k d 0 less) ∙ ne_eqb _ slash (NoCharPasses-char slash text k none (lit< tt) less))

-- a text is cut at the slash that is found from its end
pub cut_at_last : (text front : List ℕ) (i j : ℕ) → RFindsChar slash text (Some (i, j)) → front ≡ take i text → IsParentOf text front
cut_at_last text front i j last is =
    front_is_parent text front (drop j text)
    (sym (take-append-drop i text) ∙ ap (λ rest. take i text ++ rest) (drop_at_char slash text i j last.1 (lit< tt)) ∙ ap (λ t. t ++ slash ∷ drop j text) (sym is))
    (no_slash (drop j text) last.0)

-- ---- what stands below another text

-- what follows the slash at which a text is cut
pub name_below-cut : (text other name : List ℕ) → text ≡ other ++ slash ∷ name → Some name ≡ name_below other text
name_below-cut text other name is =
    sym (
    ap (λ b. cond b (Some (drop (length other + 1) text)) None) (ap (λ t. is_below t other) is ∙ below_front other name)
    ∙ ap Some (ap (drop (length other + 1)) is ∙ drop_joined other name))

-- a text that isn't cut so lies not below the other
pub name_below-uncut : (text other : List ℕ) → ((name : List ℕ) → text ≡ other ++ slash ∷ name → ⊥) → None ≡ name_below other text
name_below-uncut text other uncut = elim (cases_Bool (is_below text other)) [
  | inl is ↦ let cut = rest_below text other is in absurd (uncut cut.0 cut.1)
  | inr is ↦ sym (ap (λ b. cond b (Some (drop (length other + 1) text)) None) is)
]

-- of a text that begins with another, what follows the slash after that
pub below_stripped : (text other rest : List ℕ) (name : Option (Bor (List ℕ))) → starts_with nat_eq text other ≡ true → rest ≡ drop (length other) text →
    MatchOption name ((more : List ℕ) → rest ≢ slash ∷ more) (λ name. rest ≡ slash ∷ name.now) → (option_copied name ≡ name_below other text) × IfSome name (λ name. text ≡ other ++ slash ∷ name.now)
below_stripped text other rest None begins left uncut =
    (name_below-uncut text other (λ name cut. uncut name (left ∙ ap (drop (length other)) cut ∙ drop_at other (slash ∷ name) (length other) refl)), tt)
below_stripped text other rest (Some name) begins left cut =
    let whole = (starts_is Decides-eqb text other (starts_with nat_eq text other) refl).0 begins ∙ ap (λ r. other ++ r) (sym left ∙ cut) in
    (name_below-cut text other name.now whole, whole)
