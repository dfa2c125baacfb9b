-- The highest generation of a world, and the last of a list that rises.
use Rattle.std.proofs.Common.{◌≡◌, ℕ, zero, suc, ◌+◌, ◌-◌, ◌^◌, ◌<◌, Bool, true, false, cond, ◌==◌, nat_lt, List, [], ◌∷◌, length, map, Option, None, Some, IsSome, is_some, option_map, refl, sym, ap, subst, ◌∙◌, inl, inr, arith}
use Rattle.std.proofs.lemmas.Bool.{cases_Bool, cases_order, both_ways, eq-eqb, ne_eqb, lt-ltb}
use Rattle.std.specs.BTreeMap.{is_at}
use Rattle.std.specs.Cmp.{nat_cmp_is}
use Rattle.std.specs.List.{find, slice_get, AllByRecursion}
use Rattle.std.specs.List.Sorted.{IsStrictlySortedBy}
use Rattle.std.specs.Ordering.{is_eq, nat_cmp}
use Rattle.std.specs.declared.cmp.Ordering.TheVariants.{Less, Equal, Greater}
use Rattle.host_trait.specs.World.{Leaves}
use Rattle.generations.specs.declared.gens.Gen.{Gen}
use Rattle.generations.specs.declared.gens.Gens.{Gens}
use Rattle.generations.specs.Gens.{IsGensOf, is_highest_of, listed_at, number_from, number_for_in}
use Rattle.generations.specs.Places.{generation_at, greatest_below, highest, is_number, is_of, number_after}

not_less_equal : Less ≡ Equal → ⊥
not_less_equal e = cc

not_less_greater : Less ≡ Greater → ⊥
not_less_greater e = cc

-- numbers that compare so are so
pub less_of : (x y : ℕ) → nat_cmp x y ≡ Less → x < y
less_of x y e = elim (cases_order x y) [
  | inl same ↦ absurd (not_less_equal (sym e ∙ sym (nat_cmp_is x y Equal same)))
  | inr (inl less) ↦ less
  | inr (inr more) ↦ absurd (not_less_greater (sym e ∙ sym (nat_cmp_is x y Greater more)))
]

apart : (x y : ℕ) → x < y → x ≡ y → ⊥
apart x y less same = absurd (omega arith)

-- a number is found at itself alone
pub found_at : (x y : ℕ) → is_at (nat_cmp x) y ≡ (x == y)
found_at x y = elim (cases_order x y) [
  | inl same ↦ ap is_eq (sym (nat_cmp_is x y Equal same)) ∙ sym (eq-eqb x y same)
  | inr (inl less) ↦ ap is_eq (sym (nat_cmp_is x y Less less)) ∙ sym (ne_eqb x y (apart x y less))
  | inr (inr more) ↦ ap is_eq (sym (nat_cmp_is x y Greater more)) ∙ sym (ne_eqb x y (λ same. apart y x more (sym same)))
]

-- the greatest number below a bound that passes a test
pub greatest_is : (test : ℕ → Bool) (bound k : ℕ) → k < bound → test k ≡ true → ((m : ℕ) → k < m → test m ≡ false) → greatest_below test bound ≡ k
unfolding greatest_below
greatest_is test zero k low is above = absurd (omega arith)
greatest_is test (suc n) k low is above = elim (cases_order k n) [
  | inl same ↦ ap (λ b. cond b n (greatest_below test n)) (ap test (sym same) ∙ is) ∙ sym same
  | inr (inl less) ↦ ap (λ b. cond b n (greatest_below test n)) (above n less) ∙ greatest_is test n k less is above
  | inr (inr more) ↦ absurd (omega arith)
]

pub greatest_none : (test : ℕ → Bool) (bound : ℕ) → ((m : ℕ) → test m ≡ false) → greatest_below test bound ≡ 0
unfolding greatest_below
greatest_none test zero none = refl
greatest_none test (suc n) none = ap (λ b. cond b n (greatest_below test n)) (none n) ∙ greatest_none test n none

pub greatest_same : (test other : ℕ → Bool) (bound : ℕ) → ((m : ℕ) → test m ≡ other m) → greatest_below test bound ≡ greatest_below other bound
unfolding greatest_below
greatest_same test other zero same = refl
greatest_same test other (suc n) same =
    ap (λ b. cond b n (greatest_below test n)) (same n) ∙ ap (λ g. cond (other n) n g) (greatest_same test other n same)

-- a generation stands at numbers alone
pub stands_at_number : (leaves : Leaves) (n : ℕ) → IsSome (generation_at leaves n) → is_number n ≡ true
stands_at_number leaves n is = elim (cases_Bool (is_number n)) [
  | inl is_one ↦ is_one
  | inr is_none_such ↦ absurd (both_ways _ (ap (λ b. is_some (cond b (option_map Rattle.generations.specs.Places.target_of (Rattle.std.specs.FinMap.get leaves (Rattle.generations.specs.Places.link_path n))) None)) is_none_such) is)
]

pub below_bound : (n : ℕ) → is_number n ≡ true → n < 2 ^ 32
below_bound n is = grind arith

pub small_number : (n : ℕ) → is_number n ≡ true → n < 2 ^ 64
small_number n is = let below = below_bound n is in omega arith

pub highest_is : (leaves : Leaves) (k : ℕ) → IsSome (generation_at leaves k) → ((m : ℕ) → k < m → generation_at leaves m ≡ None) → highest leaves ≡ k
unfolding highest
highest_is leaves k is above =
    greatest_is (λ n. is_some (generation_at leaves n)) (2 ^ 32) k (below_bound k (stands_at_number leaves k is)) is (λ m more. ap is_some (above m more))

pub highest_none : (leaves : Leaves) → ((m : ℕ) → generation_at leaves m ≡ None) → highest leaves ≡ 0
unfolding highest
highest_none leaves none = greatest_none (λ n. is_some (generation_at leaves n)) (2 ^ 32) (λ m. ap is_some (none m))

pub highest_same : (m n : Leaves) → ((k : ℕ) → generation_at m k ≡ generation_at n k) → highest m ≡ highest n
unfolding highest
highest_same m n same = greatest_same (λ k. is_some (generation_at m k)) (λ k. is_some (generation_at n k)) (2 ^ 32) (λ k. ap is_some (same k))

-- a generation that is the last of a list that rises
record Lasts (list : List Gen) (last : Gen) : Type 1 where
  found : find (λ gen. gen.number == last.number) list ≡ Some last
  above : (m : ℕ) → last.number < m → find (λ gen. gen.number == m) list ≡ None
  member : (P : ℕ → Type 0) → AllByRecursion P (map (λ gen. gen.number) list) → P last.number

last_of_more : (x : Gen) (rest : List Gen) → 0 < length rest → slice_get (x ∷ rest) (length (x ∷ rest) - 1) ≡ slice_get rest (length rest - 1)
last_of_more x rest more = ap (slice_get (x ∷ rest)) (let e : suc (length rest) - 1 ≡ suc (length rest - 1) = omega arith in e)

itself : (last : Gen) → Lasts (last ∷ []) last
itself last = record {
  found = ap (λ b. cond b (Some last) None) (eq-eqb last.number last.number refl);
  above = λ m more. ap (λ b. cond b (Some last) None) (ne_eqb last.number m (omega arith));
  member = λ P all. all.0;
}

one_more : (x : Gen) (rest : List Gen) (last : Gen) → AllByRecursion (λ y. nat_cmp x.number y ≡ Less) (map (λ gen. gen.number) rest) → Lasts rest last → Lasts (x ∷ rest) last
one_more x rest last below lasts =
    let less : x.number < last.number = less_of _ _ (lasts.member (λ y. nat_cmp x.number y ≡ Less) below) in
    record {
      found = ap (λ b. cond b (Some x) (find (λ gen. gen.number == last.number) rest)) (ne_eqb x.number last.number (omega arith)) ∙ lasts.found;
      above = λ m more. ap (λ b. cond b (Some x) (find (λ gen. gen.number == m) rest)) (ne_eqb x.number m (omega arith)) ∙ lasts.above m more;
      member = λ P all. lasts.member P all.1;
    }

last_is : (list : List Gen) (last : Gen) → IsStrictlySortedBy nat_cmp (map (λ gen. gen.number) list) → slice_get list (length list - 1) ≡ Some last → Lasts list last
unfolding IsStrictlySortedBy
last_is [] last sorted is = absurd (cc)
last_is (x ∷ []) last sorted is = subst (Lasts (x ∷ [])) (let e : x ≡ last = cc in e) (itself x)
last_is (x ∷ y ∷ rest) last sorted is =
    one_more x (y ∷ rest) last sorted.0 (last_is (y ∷ rest) last sorted.1 (sym (last_of_more x (y ∷ rest) (omega arith)) ∙ is))

empty_of_last : (list : List Gen) → slice_get list (length list - 1) ≡ None → list ≡ []
empty_of_last [] is = refl
empty_of_last (x ∷ []) is = absurd (cc)
empty_of_last (x ∷ y ∷ rest) is =
    let none = empty_of_last (y ∷ rest) (sym (last_of_more x (y ∷ rest) (omega arith)) ∙ is) in absurd (omega (arith, ap length none))

-- what the last generation of a world's list says of the world
pub record IsLastOf (leaves : Leaves) (last : Option Gen) : Type 0 where
  pub stands : option_map (λ gen. gen.target) last ≡ generation_at leaves (highest leaves)
  pub none : last ≡ None → highest leaves ≡ 0
  pub number : (gen : Gen) → last ≡ Some gen → highest leaves ≡ gen.number

world_of_last : (leaves : Leaves) (gens : Gens) (last : Gen) → IsGensOf leaves gens → Lasts gens.list last → IsLastOf leaves (Some last)
world_of_last leaves gens last is lasts =
    let here : Some last.target ≡ generation_at leaves last.number = sym (ap (option_map (λ gen. gen.target)) lasts.found) ∙ is.exact last.number in
    let top : highest leaves ≡ last.number =
    highest_is leaves last.number (ap is_some (sym here)) (λ m more. sym (is.exact m) ∙ ap (option_map (λ gen. gen.target)) (lasts.above m more)) in
    record {
      stands = here ∙ ap (generation_at leaves) (sym top);
      none = λ e. absurd (cc);
      number = λ gen e. top ∙ ap (λ (g : Gen). g.number) (let same : last ≡ gen = cc in same);
    }

world_of_none : (leaves : Leaves) (gens : Gens) → IsGensOf leaves gens → gens.list ≡ [] → IsLastOf leaves None
world_of_none leaves gens is empty =
    let absent : (m : ℕ) → generation_at leaves m ≡ None = λ m. sym (is.exact m) ∙ ap (λ list. listed_at list m) empty in
    record {
      stands = sym (absent (highest leaves));
      none = λ e. highest_none leaves absent;
      number = λ gen e. absurd (cc);
    }

pub last_of_world : (leaves : Leaves) (gens : Gens) → IsGensOf leaves gens → IsLastOf leaves (slice_get gens.list (length gens.list - 1))
last_of_world leaves gens is =
    elim (slice_get gens.list (length gens.list - 1)) as (λ o. slice_get gens.list (length gens.list - 1) ≡ o → IsLastOf leaves o) [
      | None ↦ λ e. world_of_none leaves gens is (empty_of_last gens.list e)
      | Some last ↦ λ e. world_of_last leaves gens last is (last_is gens.list last is.rising e)
    ] refl

-- whether the list's highest generation names a system is whether the world's does
pub highest_of_world : (leaves : Leaves) (gens : Gens) (system : List ℕ) → IsGensOf leaves gens → is_highest_of gens.list system ≡ is_of (generation_at leaves (highest leaves)) system
highest_of_world leaves gens system is = ap (λ o. is_of o system) (last_of_world leaves gens is).stands

number_from_last : (leaves : Leaves) (last : Option Gen) (system : List ℕ) (n : ℕ) → IsLastOf leaves last → number_from last system ≡ Some n → n ≡ number_after leaves system
number_from_last leaves None system n is given =
    let zero_is = is.none refl in
    let one : 1 ≡ n = cc in
    sym one ∙ sym (ap (λ o. cond (is_of o system) (highest leaves) (highest leaves + 1)) (sym is.stands) ∙ ap (λ h. h + 1) zero_is)
number_from_last leaves (Some gen) system n is given =
    let top = is.number gen refl in
    elim (is_of (Some gen.target) system) as (λ b. is_of (Some gen.target) system ≡ b → cond b (Some gen.number) (cond (nat_lt (gen.number + 1) (2 ^ 32)) (Some (gen.number + 1)) None) ≡ Some n → n ≡ number_after leaves system) [
      | true ↦ λ b e. (let same : gen.number ≡ n = cc in sym same) ∙ sym top ∙ sym (ap (λ o. cond (is_of o system) (highest leaves) (highest leaves + 1)) (sym is.stands) ∙ ap (λ c. cond c (highest leaves) (highest leaves + 1)) b)
      | false ↦ λ b e. next gen.number n e ∙ ap (λ h. h + 1) (sym top) ∙ sym (ap (λ o. cond (is_of o system) (highest leaves) (highest leaves + 1)) (sym is.stands) ∙ ap (λ c. cond c (highest leaves) (highest leaves + 1)) b)
    ] refl given
  where
    next : (k n : ℕ) → cond (nat_lt (k + 1) (2 ^ 32)) (Some (k + 1)) None ≡ Some n → n ≡ k + 1
    next k n e = elim (nat_lt (k + 1) (2 ^ 32)) as (λ b. cond b (Some (k + 1)) None ≡ Some n → n ≡ k + 1) [
      | true ↦ λ h. let same : k + 1 ≡ n = cc in sym same
      | false ↦ λ h. absurd (cc)
    ] e

-- the number that a list of the world's generations gives is the world's
pub number_of_world : (leaves : Leaves) (gens : Gens) (system : List ℕ) (n : ℕ) → IsGensOf leaves gens → number_for_in gens.list system ≡ Some n → n ≡ number_after leaves system
number_of_world leaves gens system n is given = number_from_last leaves _ system n (last_of_world leaves gens is) given

number_of_none : (leaves : Leaves) (system : List ℕ) → IsLastOf leaves None → number_after leaves system ≡ 1
number_of_none leaves system is = ap (λ o. cond (is_of o system) (highest leaves) (highest leaves + 1)) (sym is.stands) ∙ ap (λ h. h + 1) (is.none refl)

number_of_own : (leaves : Leaves) (gen : Gen) (system : List ℕ) → IsLastOf leaves (Some gen) → is_of (Some gen.target) system ≡ true → number_after leaves system ≡ gen.number
number_of_own leaves gen system is own = ap (λ o. cond (is_of o system) (highest leaves) (highest leaves + 1)) (sym is.stands) ∙ ap (λ b. cond b (highest leaves) (highest leaves + 1)) own ∙ is.number gen refl

number_of_next : (leaves : Leaves) (gen : Gen) (system : List ℕ) → IsLastOf leaves (Some gen) → is_of (Some gen.target) system ≡ false → number_after leaves system ≡ gen.number + 1
number_of_next leaves gen system is other = ap (λ o. cond (is_of o system) (highest leaves) (highest leaves + 1)) (sym is.stands) ∙ ap (λ b. cond b (highest leaves) (highest leaves + 1)) other ∙ ap (λ h. h + 1) (is.number gen refl)

own_small : (leaves : Leaves) (gen : Gen) → IsLastOf leaves (Some gen) → gen.number < 2 ^ 32
own_small leaves gen is =
    let small : highest leaves < 2 ^ 32 = below_bound (highest leaves) (stands_at_number leaves (highest leaves) (ap is_some (sym is.stands))) in
    let same = is.number gen refl in omega arith

number_from_world : (leaves : Leaves) (last : Option Gen) (system : List ℕ) → IsLastOf leaves last →
    number_from last system ≡ cond (nat_lt (number_after leaves system) (2 ^ 32)) (Some (number_after leaves system)) None
number_from_world leaves None system is = sym (ap (λ n. cond (nat_lt n (2 ^ 32)) (Some n) None) (number_of_none leaves system is))
number_from_world leaves (Some gen) system is = elim (cases_Bool (is_of (Some gen.target) system)) [
  | inl own ↦ ap (λ b. cond b (Some gen.number) (cond (nat_lt (gen.number + 1) (2 ^ 32)) (Some (gen.number + 1)) None)) own
      ∙ sym (ap (λ b. cond b (Some gen.number) None) (lt-ltb gen.number (2 ^ 32) (own_small leaves gen is)))
      ∙ sym (ap (λ n. cond (nat_lt n (2 ^ 32)) (Some n) None) (number_of_own leaves gen system is own))
  | inr other ↦ ap (λ b. cond b (Some gen.number) (cond (nat_lt (gen.number + 1) (2 ^ 32)) (Some (gen.number + 1)) None)) other
      ∙ sym (ap (λ n. cond (nat_lt n (2 ^ 32)) (Some n) None) (number_of_next leaves gen system is other))
]

-- the number that a list of the world's generations gives is the world's where there is a further one
pub number_for_world : (leaves : Leaves) (gens : Gens) (system : List ℕ) → IsGensOf leaves gens →
    number_for_in gens.list system ≡ cond (nat_lt (number_after leaves system) (2 ^ 32)) (Some (number_after leaves system)) None
number_for_world leaves gens system is = number_from_world leaves _ system (last_of_world leaves gens is)
