-- Texts that begin with another, in the order of bytes.
use Rattle.std.proofs.Common.{◌≡◌, ℕ, Bool, true, false, nat_eq, List, [], ◌∷◌, ◌++◌, length, drop, refl, sym, ap, subst, ◌∙◌, inl, inr, append_assoc}
use Rattle.std.proofs.lemmas.Bool.{cases_Bool}
use Rattle.std.proofs.lemmas.Bool.Decides.{Decides-eqb}
use Rattle.std.proofs.lemmas.Cmp.{nat_cmp_total, tied_itself}
use Rattle.std.proofs.lemmas.Slice.Eq.{starts_is}
use Rattle.std.specs.Cmp.{both_ways as same_test}
use Rattle.std.specs.List.{starts_with}
use Rattle.std.specs.FinMap.{nat_cmp-IsAntisymmetric}
use Rattle.std.specs.Ordering.{nat_cmp, ordering_reverse, ordering_then}
use Rattle.std.specs.declared.cmp.Ordering.{Ordering}
use Rattle.std.specs.declared.cmp.Ordering.TheVariants.{Less, Equal, Greater}
use Rattle.switch_names.specs.Path.{is_below, slash}
use Rattle.switch_names.proofs.Below.{below_front, rest_below}
use Rattle.host_trait.specs.Bytes.{bytes_cmp}

abbrev pub begins : List ℕ → List ℕ → Bool
begins front q = starts_with nat_eq q front

pub begins_with : (front q : List ℕ) → begins front q ≡ true → (rest : List ℕ) × (q ≡ front ++ rest)
begins_with front q is = (drop (length front) q, (starts_is Decides-eqb q front (starts_with nat_eq q front) refl).0 is)

pub begins_there : (front rest : List ℕ) → begins front (front ++ rest) ≡ true
begins_there front rest = (starts_is Decides-eqb (front ++ rest) front (starts_with nat_eq (front ++ rest) front) refl).1 rest refl

-- what begins with a text isn't lower than it
not_lower : (front rest : List ℕ) → bytes_cmp (front ++ rest) front ≡ Less → ⊥
not_lower [] [] less = absurd (cc)
not_lower [] (x ∷ rest) less = absurd (cc)
not_lower (x ∷ front) rest less = not_lower front rest (sym (ap (λ r. ordering_then r (bytes_cmp (front ++ rest) front)) (tied_itself nat_cmp_total x)) ∙ less)

pub lower_begins : (front q : List ℕ) → bytes_cmp q front ≡ Less → begins front q ≡ false
lower_begins front q less = elim (cases_Bool (begins front q)) [
  | inl is ↦ let with = begins_with front q is in absurd (not_lower front with.0 (subst (λ x. bytes_cmp x front ≡ Less) with.1 less))
  | inr other ↦ other
]

greater_not_less : Greater ≡ Less → ⊥
greater_not_less is = absurd (cc)

between_step : (x y : ℕ) (front a rest : List ℕ) (r : Ordering) → nat_cmp x y ≡ r → (bytes_cmp front a ≡ Less → bytes_cmp a (front ++ rest) ≡ Less → begins front a ≡ true) →
    ordering_then r (bytes_cmp front a) ≡ Less → ordering_then (nat_cmp y x) (bytes_cmp a (front ++ rest)) ≡ Less → begins (x ∷ front) (y ∷ a) ≡ true
between_step x y front a rest Less is more low high =
    let greater : nat_cmp y x ≡ Greater = nat_cmp_total.antisymm y x ∙ ap ordering_reverse is in
    absurd (greater_not_less (sym (ap (λ r. ordering_then r (bytes_cmp a (front ++ rest))) greater) ∙ high))
between_step x y front a rest Greater is more low high = absurd (cc)
between_step x y front a rest Equal is more low high =
    let same : x ≡ y = nat_cmp-IsAntisymmetric x y is in
    let tied : nat_cmp y x ≡ Equal = nat_cmp_total.antisymm y x ∙ ap ordering_reverse is in
    let with = begins_with front a (more low (sym (ap (λ r. ordering_then r (bytes_cmp a (front ++ rest))) tied) ∙ high)) in
    subst (λ z. begins (x ∷ front) (z ∷ a) ≡ true) same (subst (λ b. begins (x ∷ front) (x ∷ b) ≡ true) (sym with.1) (begins_there (x ∷ front) with.0))

-- what stands between a text and one that begins with it begins with it too
pub between : (front a rest : List ℕ) → bytes_cmp front a ≡ Less → bytes_cmp a (front ++ rest) ≡ Less → begins front a ≡ true
between [] a rest low high = begins_there [] a
between (x ∷ front) [] rest low high = absurd (cc)
between (x ∷ front) (y ∷ a) rest low high = between_step x y front a rest (nat_cmp x y) refl (between front a rest) low high

-- a path lies below another just where it begins with that one and a slash
pub below_is_front : (name q : List ℕ) → begins (name ++ slash ∷ []) q ≡ is_below q name
below_is_front name q = same_test (begins (name ++ slash ∷ []) q) (is_below q name)
    (λ is. let with = begins_with (name ++ slash ∷ []) q is in subst (λ x. is_below x name ≡ true) (sym (with.1 ∙ append_assoc name (slash ∷ []) with.0)) (below_front name with.0))
    (λ is. let rest = rest_below q name is in subst (λ x. begins (name ++ slash ∷ []) x ≡ true) (sym (rest.1 ∙ sym (append_assoc name (slash ∷ []) rest.0))) (begins_there (name ++ slash ∷ []) rest.0))

-- texts that begin alike are in the order of what follows
pub cmp_after : (front a b : List ℕ) → bytes_cmp (front ++ a) (front ++ b) ≡ bytes_cmp a b
cmp_after [] a b = refl
cmp_after (x ∷ front) a b = ap (λ r. ordering_then r (bytes_cmp (front ++ a) (front ++ b))) (tied_itself nat_cmp_total x) ∙ cmp_after front a b
