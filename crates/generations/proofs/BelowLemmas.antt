-- Generations below a bound, and lists that rise.
use Rattle.std.proofs.Common.{◌≡◌, ◌⊎◌, ℕ, zero, suc, ◌<◌, ◌≤◌, Bool, true, false, cond, ◌==◌, List, [], ◌∷◌, ◌++◌, map, Option, None, Some, option_map, refl, sym, ap, subst, ◌∙◌, inl, inr, arith}
use Rattle.std.proofs.lemmas.Bool.{cases_eq, cases_lt, cases_order, eq-eqb, ne_eqb}
use Rattle.std.proofs.lemmas.List.{append-nil}
use Rattle.std.specs.Cmp.{nat_cmp_is}
use Rattle.std.specs.List.{find, AllByRecursion}
use Rattle.std.specs.List.Sorted.{IsStrictlySortedBy}
use Rattle.std.specs.Option.{option_or, option_to_list}
use Rattle.std.specs.Ordering.{nat_cmp}
use Rattle.std.specs.declared.cmp.Ordering.TheVariants.{Less}
use Rattle.switch_names.specs.Names.{Name}
use Rattle.generations.specs.declared.gens.Gen.{Gen}
use Rattle.generations.specs.After.{gens_below}
use Rattle.generations.specs.Gens.{listed_at}
use Rattle.generations.proofs.Numbers.{less_of}

-- the generation of a number, where it has a target or names none
abbrev pub gen_of : ℕ → Option Name → Gen
gen_of n target = record { number = n; target = target }

abbrev pub one_of : ℕ → Option (Option Name) → List Gen
one_of n at = option_to_list (option_map (gen_of n) at)

abbrev numbers_of : List Gen → List ℕ
numbers_of list = map (λ (gen : Gen). gen.number) list

-- equal functions have the same generations
pub below_same : (at other : ℕ → Option (Option Name)) (bound : ℕ) → ((n : ℕ) → at n ≡ other n) → gens_below at bound ≡ gens_below other bound
unfolding gens_below
below_same at other zero same = refl
below_same at other (suc n) same = ap (λ o. gens_below at n ++ one_of n o) (same n) ∙ ap (λ l. l ++ one_of n (other n)) (below_same at other n same)

-- what two lists have at a number together
pub listed_joined : (list more : List Gen) (n : ℕ) → listed_at (list ++ more) n ≡ option_or (listed_at list n) (listed_at more n)
listed_joined [] more n = refl
listed_joined (gen ∷ list) more n = either (gen.number == n) (listed_joined list more n)
  where
    either : (b : Bool) → listed_at (list ++ more) n ≡ option_or (listed_at list n) (listed_at more n) →
        option_map (λ (g : Gen). g.target) (cond b (Some gen) (find (λ g. g.number == n) (list ++ more)))
        ≡ option_or (option_map (λ (g : Gen). g.target) (cond b (Some gen) (find (λ g. g.number == n) list))) (listed_at more n)
    either true is = refl
    either false is = is

pub none_after : (o : Option (Option Name)) → option_or o None ≡ o
none_after None = refl
none_after (Some x) = refl

pub listed_here : (n : ℕ) (at : Option (Option Name)) → listed_at (one_of n at) n ≡ at
listed_here n None = refl
listed_here n (Some target) = ap (λ b. option_map (λ (g : Gen). g.target) (cond b (Some (gen_of n target)) None)) (eq-eqb n n refl)

pub listed_elsewhere : (k n : ℕ) (at : Option (Option Name)) → (k ≡ n → ⊥) → listed_at (one_of k at) n ≡ None
listed_elsewhere k n None other = refl
listed_elsewhere k n (Some target) other = ap (λ b. option_map (λ (g : Gen). g.target) (cond b (Some (gen_of k target)) None)) (ne_eqb k n other)

-- from the bound on there is none
pub beyond_at : (at : ℕ → Option (Option Name)) (bound n : ℕ) → bound ≤ n → listed_at (gens_below at bound) n ≡ None
unfolding gens_below
beyond_at at zero n beyond = refl
beyond_at at (suc k) n beyond =
    listed_joined (gens_below at k) (one_of k (at k)) n
    ∙ ap (λ o. option_or o (listed_at (one_of k (at k)) n)) (beyond_at at k n (omega arith))
    ∙ listed_elsewhere k n (at k) (λ same. absurd (omega arith))

-- below it there is what the function has
pub below_at : (at : ℕ → Option (Option Name)) (bound n : ℕ) → n < bound → listed_at (gens_below at bound) n ≡ at n
unfolding gens_below
below_at at zero n below = absurd (omega arith)
below_at at (suc k) n below = listed_joined (gens_below at k) (one_of k (at k)) n ∙ elim (cases_lt n k) [
  | inl less ↦
      ap (λ o. option_or o (listed_at (one_of k (at k)) n)) (below_at at k n less)
      ∙ ap (option_or (at n)) (listed_elsewhere k n (at k) (λ same. absurd (omega arith)))
      ∙ none_after (at n)
  | inr no_less ↦
      let last : k ≡ n = omega arith in
      ap (λ o. option_or o (listed_at (one_of k (at k)) n)) (beyond_at at k n no_less)
      ∙ subst (λ m. listed_at (one_of k (at k)) m ≡ at m) last (listed_here k (at k))
]

-- what holds of two lists holds of both together
all_joined : (P : Gen → Type 0) (list more : List Gen) → AllByRecursion P list → AllByRecursion P more → AllByRecursion P (list ++ more)
all_joined P [] more first second = second
all_joined P (gen ∷ list) more first second = (first.0, all_joined P list more first.1 second)

-- what holds of each generation of the function below the bound
pub all_below : (P : Gen → Type 0) (at : ℕ → Option (Option Name)) (bound : ℕ) → ((n : ℕ) (target : Option Name) → n < bound → at n ≡ Some target → P (gen_of n target)) →
    AllByRecursion P (gens_below at bound)
unfolding gens_below
all_below P at zero each = tt
all_below P at (suc k) each =
    all_joined P (gens_below at k) (one_of k (at k)) (all_below P at k (λ n target below is. each n target (omega arith) is)) (last (at k) refl)
  where
    last : (o : Option (Option Name)) → at k ≡ o → AllByRecursion P (one_of k o)
    last None is = tt
    last (Some target) is = (each k target (omega arith) is, tt)

less_is : (m n : ℕ) → m < n → nat_cmp m n ≡ Less
less_is m n less = sym (nat_cmp_is m n Less less)

before_one : (m n : ℕ) (list : List Gen) → m < n → AllByRecursion (λ y. nat_cmp m y ≡ Less) (numbers_of list) → (target : Option Name) → AllByRecursion (λ y. nat_cmp m y ≡ Less) (numbers_of (list ++ gen_of n target ∷ []))
before_one m n [] less all target = (less_is m n less, tt)
before_one m n (gen ∷ list) less all target = (all.0, before_one m n list less all.1 target)

-- a list that rises and one generation more above it
pub rising_more : (list : List Gen) (n : ℕ) (target : Option Name) → AllByRecursion (λ gen. gen.number < n) list → IsStrictlySortedBy nat_cmp (numbers_of list) →
    IsStrictlySortedBy nat_cmp (numbers_of (list ++ gen_of n target ∷ []))
unfolding IsStrictlySortedBy
rising_more [] n target below rising = (tt, tt)
rising_more (gen ∷ list) n target below rising = (before_one gen.number n list below.0 rising.0 target, rising_more list n target below.1 rising.1)

pub below_rising : (at : ℕ → Option (Option Name)) (bound : ℕ) → IsStrictlySortedBy nat_cmp (numbers_of (gens_below at bound))
unfolding gens_below IsStrictlySortedBy
below_rising at zero = tt
below_rising at (suc k) = last (at k) (below_rising at k)
  where
    last : (o : Option (Option Name)) → IsStrictlySortedBy nat_cmp (numbers_of (gens_below at k)) → IsStrictlySortedBy nat_cmp (numbers_of (gens_below at k ++ one_of k o))
    last None rising = subst (λ l. IsStrictlySortedBy nat_cmp (numbers_of l)) (sym (append-nil (gens_below at k))) rising
    last (Some target) rising = rising_more (gens_below at k) k target (all_below (λ (gen : Gen). gen.number < k) at k (λ n other below is. below)) rising

-- a number below all of a list isn't in it
absent : (list : List Gen) (n : ℕ) → AllByRecursion (λ y. nat_cmp n y ≡ Less) (numbers_of list) → listed_at list n ≡ None
absent [] n all = refl
absent (gen ∷ list) n all =
    let less = less_of n gen.number all.0 in
    ap (λ b. option_map (λ (g : Gen). g.target) (cond b (Some gen) (find (λ g. g.number == n) list))) (ne_eqb gen.number n (omega arith)) ∙ absent list n all.1

below_first : (gen : Gen) (list : List Gen) (n : ℕ) → n < gen.number → AllByRecursion (λ y. nat_cmp gen.number y ≡ Less) (numbers_of list) → AllByRecursion (λ y. nat_cmp n y ≡ Less) (numbers_of list)
below_first gen [] n less all = tt
below_first gen (next ∷ list) n less all =
    let more = less_of gen.number next.number all.0 in
    (less_is n next.number (omega arith), below_first gen list n less all.1)

pub first_at : (gen : Gen) (list : List Gen) → listed_at (gen ∷ list) gen.number ≡ Some gen.target
first_at gen list = ap (λ b. option_map (λ (g : Gen). g.target) (cond b (Some gen) (find (λ g. g.number == gen.number) list))) (eq-eqb gen.number gen.number refl)

pub rest_at : (gen : Gen) (list : List Gen) (n : ℕ) → (gen.number ≡ n → ⊥) → listed_at (gen ∷ list) n ≡ listed_at list n
rest_at gen list n other = ap (λ b. option_map (λ (g : Gen). g.target) (cond b (Some gen) (find (λ g. g.number == n) list))) (ne_eqb gen.number n other)

pub something : {X : Type 0} (x : X) → None ≡ Some x → ⊥
something x e = cc

same_gen : (gen other : Gen) → gen.number ≡ other.number → gen.target ≡ other.target → gen ≡ other
same_gen gen other number target = ap (λ n. gen_of n gen.target) number ∙ ap (gen_of other.number) target

-- where the first of a list is below the first of another, the other has nothing at it
unlike_first : (gen next : Gen) (list more : List Gen) → gen.number < next.number → AllByRecursion (λ y. nat_cmp next.number y ≡ Less) (numbers_of more) →
    listed_at (gen ∷ list) gen.number ≡ listed_at (next ∷ more) gen.number → ⊥
unlike_first gen next list more less rising same =
    something gen.target (sym (absent (next ∷ more) gen.number (less_is gen.number next.number less, below_first next more gen.number less rising)) ∙ sym same ∙ first_at gen list)

-- lists that rise and have the same at each number are equal
pub lists_same : (list other : List Gen) → IsStrictlySortedBy nat_cmp (numbers_of list) → IsStrictlySortedBy nat_cmp (numbers_of other) →
    ((n : ℕ) → listed_at list n ≡ listed_at other n) → list ≡ other
unfolding IsStrictlySortedBy
lists_same [] [] rising upward same = refl
lists_same [] (next ∷ more) rising upward same = absurd (something next.target (same next.number ∙ first_at next more))
lists_same (gen ∷ list) [] rising upward same = absurd (something gen.target (sym (same gen.number) ∙ first_at gen list))
lists_same (gen ∷ list) (next ∷ more) rising upward same = elim (cases_order gen.number next.number) [
  | inl equal ↦
      let first : gen ≡ next = same_gen gen next equal (target (sym (first_at gen list) ∙ same gen.number ∙ subst (λ n. listed_at (next ∷ more) n ≡ Some next.target) (sym equal) (first_at next more))) in
      ap (λ g. g ∷ list) first ∙ ap (λ l. next ∷ l) (lists_same list more rising.1 upward.1 (rest equal))
  | inr (inl less) ↦ absurd (unlike_first gen next list more less upward.0 (same gen.number))
  | inr (inr greater) ↦ absurd (unlike_first next gen more list greater rising.0 (sym (same next.number)))
]
  where
    target : Some gen.target ≡ Some next.target → gen.target ≡ next.target
    target e = cc

    rest : gen.number ≡ next.number → (n : ℕ) → listed_at list n ≡ listed_at more n
    rest equal n = elim (cases_eq gen.number n) [
      | inl here ↦
          subst (λ k. listed_at list k ≡ None) here (absent list gen.number rising.0)
          ∙ sym (subst (λ k. listed_at more k ≡ None) (sym equal ∙ here) (absent more next.number upward.0))
      | inr elsewhere ↦ sym (rest_at gen list n elsewhere) ∙ same n ∙ rest_at next more n (λ there. elsewhere (equal ∙ there))
    ]

-- where a list has nothing from a number on, that is above all of it
pub all_lower : (n : ℕ) (list : List Gen) → ((k : ℕ) → n ≤ k → listed_at list k ≡ None) → AllByRecursion (λ (gen : Gen). gen.number < n) list
all_lower n [] none = tt
all_lower n (gen ∷ list) none = (lower (cases_lt gen.number n), all_lower n list (λ k above. rest k above (cases_eq gen.number k)))
  where
    lower : (gen.number < n) ⊎ (n ≤ gen.number) → gen.number < n
    lower (inl less) = less
    lower (inr above) = absurd (something gen.target (sym (none gen.number above) ∙ first_at gen list))

    rest : (k : ℕ) → n ≤ k → (gen.number ≡ k) ⊎ (gen.number ≡ k → ⊥) → listed_at list k ≡ None
    rest k above (inl here) = absurd (something gen.target (sym (none k above) ∙ subst (λ j. listed_at (gen ∷ list) j ≡ Some gen.target) here (first_at gen list)))
    rest k above (inr elsewhere) = sym (rest_at gen list k elsewhere) ∙ none k above

-- a list that rises and has what a function has below a bound, and nothing from there on
pub list_is_below : (list : List Gen) (at : ℕ → Option (Option Name)) (bound : ℕ) → IsStrictlySortedBy nat_cmp (numbers_of list) →
    ((n : ℕ) → n < bound → listed_at list n ≡ at n) → ((n : ℕ) → bound ≤ n → listed_at list n ≡ None) → list ≡ gens_below at bound
list_is_below list at bound rising below beyond = lists_same list (gens_below at bound) rising (below_rising at bound) (λ n. elim (cases_lt n bound) [
  | inl less ↦ below n less ∙ sym (below_at at bound n less)
  | inr no_less ↦ beyond n no_less ∙ sym (beyond_at at bound n no_less)
])
