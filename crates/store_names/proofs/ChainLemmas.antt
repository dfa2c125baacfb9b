-- The names that a text begins with lie on one chain: each begins with all that are shorter.
use Rattle.std.proofs.Common.{◌≡◌, ◌≢◌, ℕ, zero, suc, ◌+◌, ◌<◌, ◌≤◌, ◌==◌, not, Bool, true, false, List, [], ◌∷◌, ◌++◌, length, take, drop, cond, None, refl, sym, ap, subst, ◌∙◌, inl, inr, arith, length-append, append-nil, append_assoc, take-append-drop}
use Rattle.std.proofs.lemmas.Bool.{both_ways, cases_Bool}
use Rattle.std.proofs.lemmas.Bool.Decides.{Decides-eqb}
use Rattle.std.proofs.lemmas.Cmp.{nat_cmp_total, tied_itself}
use Rattle.std.specs.Ordering.{is_gt, nat_cmp, ordering_reverse, ordering_then}
use Rattle.std.specs.declared.cmp.Ordering.{Ordering}
use Rattle.std.specs.declared.cmp.Ordering.TheVariants.{Less, Equal, Greater}
use Rattle.switch_names.specs.Path.{IsPath, path_fault}
use Rattle.host_trait.specs.World.{bytes_cmp}
use Rattle.host_trait.proofs.Fronts.{begins, begins_there, begins_with, between, lower_begins}
use Rattle.host_trait.proofs.Places.{bytes_exact, bytes_total}
use Rattle.store_names.specs.Beginnings.{common, is_up_to}

pub begins_itself : (p : List ℕ) → begins p p ≡ true
begins_itself p = subst (λ t. begins p t ≡ true) (append-nil p) (begins_there p [])

-- a text isn't above what begins with it
pub front_up_to : (p t : List ℕ) → begins p t ≡ true → is_up_to t p ≡ true
front_up_to p t is = by (bytes_cmp p t) refl
  where
    by : (r : Ordering) → bytes_cmp p t ≡ r → is_up_to t p ≡ true
    by Less low = ap (λ r. not (is_gt r)) low
    by Equal same = ap (λ r. not (is_gt r)) same
    by Greater high = absurd (both_ways _ (lower_begins p t (bytes_total.antisymm t p ∙ ap ordering_reverse high)) is)

-- what a text begins with, another one begins with too that stands in between
pub chain : (p s t : List ℕ) → begins p t ≡ true → is_up_to s p ≡ true → is_up_to t s ≡ true → begins p s ≡ true
chain p s t is low high = by (bytes_cmp p s) (bytes_cmp s t) refl refl low high
  where
    by : (r q : Ordering) → bytes_cmp p s ≡ r → bytes_cmp s t ≡ q → not (is_gt r) ≡ true → not (is_gt q) ≡ true → begins p s ≡ true
    by Equal q same next low high = subst (λ x. begins p x ≡ true) (bytes_exact p s same) (begins_itself p)
    by Less Equal less same low high = subst (λ x. begins p x ≡ true) (sym (bytes_exact s t same)) is
    by Less Less less next low high = let with = begins_with p t is in between p s with.0 less (subst (λ x. bytes_cmp s x ≡ Less) with.1 next)
    by Less Greater less next low high = absurd cc
    by Greater q more next low high = absurd cc

-- ---- what two texts begin with alike

itself : (byte : ℕ) → (byte == byte) ≡ true
itself byte = (Decides-eqb byte byte).1 refl

common_after : (p a b : List ℕ) → common (p ++ a) (p ++ b) ≡ length p + common a b
common_after [] a b = omega arith
common_after (byte ∷ p) a b =
    let more : suc (length p + common a b) ≡ suc (length p) + common a b = omega arith in
    ap (λ t. cond t (suc (common (p ++ a) (p ++ b))) 0) (itself byte) ∙ ap suc (common_after p a b) ∙ more

pub common_none : (s : List ℕ) → common s [] ≡ 0
common_none [] = refl
common_none (x ∷ s) = refl

pub common_within : (s t : List ℕ) → common s t ≤ length s
common_within [] t = omega arith
common_within (x ∷ s) [] = omega arith
common_within (x ∷ s) (y ∷ t) = by (x == y) (common_within s t)
  where
    by : (b : Bool) → common s t ≤ length s → cond b (suc (common s t)) 0 ≤ suc (length s)
    by true less = omega (arith, less)
    by false less = omega arith

-- a path has some bytes
pub path_bytes : (path : List ℕ) → IsPath path → 0 < length path
path_bytes [] is = absurd (let no : path_fault [] ≡ None = is in cc)
path_bytes (x ∷ path) is = omega arith

-- they begin alike with all that both begin with
pub common_least : (p s t : List ℕ) → begins p s ≡ true → begins p t ≡ true → length p ≤ common s t
common_least p s t one other =
    let a = begins_with p s one in
    let b = begins_with p t other in
    subst (λ x. length p ≤ common x t) (sym a.1) (subst (λ y. length p ≤ common (p ++ a.0) y) (sym b.1)
    (subst (λ n. length p ≤ n) (sym (common_after p a.0 b.0)) (omega arith)))

no_suc : {X : Type 0} (n : ℕ) → 0 ≡ suc n → X
no_suc n is = absurd cc

-- the second begins with the first, where they begin alike with all of it
pub common_whole : (s t : List ℕ) → common s t ≡ length s → begins s t ≡ true
common_whole [] t is = begins_there [] t
common_whole (x ∷ s) [] is = no_suc (length s) is
common_whole (x ∷ s) (y ∷ t) is = elim (cases_Bool (x == y)) [
  | inl same ↦
      let next : suc (common s t) ≡ suc (length s) = sym (ap (λ b. cond b (suc (common s t)) 0) same) ∙ is in
      let rest : common s t ≡ length s = cc in
      let with = begins_with s t (common_whole s t rest) in
      subst (λ z. begins (x ∷ s) (z ∷ t) ≡ true) ((Decides-eqb x y).0 same) (subst (λ z. begins (x ∷ s) (x ∷ z) ≡ true) (sym with.1) (begins_there (x ∷ s) with.0))
  | inr other ↦ no_suc (length s) (sym (ap (λ b. cond b (suc (common s t)) 0) other) ∙ is)
]

-- else they part before the end of the second, where the first isn't above it
pub common_less : (s t : List ℕ) → is_up_to t s ≡ true → common s t ≢ length s → common s t < length t
common_less [] t low other = absurd (other refl)
common_less (x ∷ s) [] low other = absurd cc
common_less (x ∷ s) (y ∷ t) low other = elim (cases_Bool (x == y)) [
  | inl same ↦
      let tied : nat_cmp x y ≡ Equal = subst (λ z. nat_cmp x z ≡ Equal) ((Decides-eqb x y).0 same) (tied_itself nat_cmp_total x) in
      let count = ap (λ b. cond b (suc (common s t)) 0) same in
      let less = common_less s t (sym (ap (λ r. not (is_gt (ordering_then r (bytes_cmp s t)))) tied) ∙ low) (λ is. other (count ∙ ap suc is)) in
      subst (λ n. n < suc (length t)) (sym count) (omega (arith, less))
  | inr apart ↦ subst (λ n. n < suc (length t)) (sym (ap (λ b. cond b (suc (common s t)) 0) apart)) (omega arith)
]

-- ---- shorter texts

-- a text begins with all that a longer one begins with, as far as it reaches
pub begins_taken : (p t : List ℕ) (k : ℕ) → begins p t ≡ true → length p ≤ k → begins p (take k t) ≡ true
begins_taken p t k is within = let with = begins_with p t is in subst (λ x. begins p (take k x) ≡ true) (sym with.1) (by p with.0 k within)
  where
    by : (p rest : List ℕ) (k : ℕ) → length p ≤ k → begins p (take k (p ++ rest)) ≡ true
    by [] rest k within = begins_there [] (take k rest)
    by (x ∷ p) rest zero within = absurd (omega arith)
    by (x ∷ p) rest (suc k) within =
        let with = begins_with p (take k (p ++ rest)) (by p rest k (omega arith)) in
        subst (λ y. begins (x ∷ p) (x ∷ y) ≡ true) (sym with.1) (begins_there (x ∷ p) with.0)

-- a text begins with its first bytes
pub take_begins : (t : List ℕ) (k : ℕ) → begins (take k t) t ≡ true
take_begins t k = subst (λ x. begins (take k t) x ≡ true) (take-append-drop k t) (begins_there (take k t) (drop k t))

pub begins_both : (p s t : List ℕ) → begins p s ≡ true → begins s t ≡ true → begins p t ≡ true
begins_both p s t one other =
    let a = begins_with p s one in
    let b = begins_with s t other in
    subst (λ x. begins p x ≡ true) (sym (b.1 ∙ ap (λ y. y ++ b.0) a.1 ∙ append_assoc p a.0 b.0)) (begins_there p (a.0 ++ b.0))

-- another text that one begins with is shorter
pub begins_shorter : (p s : List ℕ) → begins p s ≡ true → p ≢ s → length p < length s
begins_shorter p s is other = let with = begins_with p s is in by with.0 with.1
  where
    by : (rest : List ℕ) → s ≡ p ++ rest → length p < length s
    by [] whole = absurd (other (sym (append-nil p) ∙ sym whole))
    by (x ∷ rest) whole = subst (λ y. length p < length y) (sym whole) (omega (arith, length-append p (x ∷ rest)))
