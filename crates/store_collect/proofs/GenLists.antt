-- Lists of generations whose numbers rise: which numbers are among those that are kept, and among those that go.
use Rattle.std.proofs.Common.{◌≡◌, ℕ, ◌^◌, ◌<◌, ◌-◌, ◌&&◌, ◌||◌, ◌==◌, not, Bool, true, false, cond, List, [], ◌∷◌, ◌++◌, length, drop, filter, map, Some, IsSome, option_map, refl, sym, ap, subst, ◌∙◌, inl, inr, arith}
use Rattle.std.proofs.lemmas.Bool.{and_parts, both_ways, not-true, or_cases, or_left, or_right}
use Rattle.std.proofs.lemmas.List.{take-append-drop}
use Rattle.std.proofs.lemmas.List.Folds.{list_any-append}
use Rattle.std.proofs.lemmas.Map.Views.{any-filter_same}
use Rattle.std.specs.List.{AllByRecursion, find, list_any}
use Rattle.std.specs.List.Sorted.{IsStrictlySortedBy}
use Rattle.std.specs.Option.{option_map_or}
use Rattle.std.specs.Ordering.{nat_cmp}
use Rattle.std.specs.declared.cmp.Ordering.TheVariants.{Less}
use Rattle.generations.specs.declared.gens.Gen.{Gen}
use Rattle.generations.specs.declared.gens.Gens.{Gens}
use Rattle.generations.specs.Gens.{listed_at}
use Rattle.generations.specs.Places.{is_number, link_path}
use Rattle.generations.proofs.Apart.{one_link_path}
use Rattle.generations.proofs.Numbers.{small_number}
use Rattle.host_trait.proofs.NameOrder.{name_exact}
use Rattle.switch_names.specs.Names.{has, is_name}
use Rattle.tree_put.proofs.SequenceLemmas.{all_take}
use Rattle.store_collect.specs.Kept.{gens_kept, is_current_of, links_gone, older}

-- ---- numbers

pub same_number : (k n : ℕ) → (k == n) ≡ true → k ≡ n
same_number k n is = grind arith

pub itself_number : (n : ℕ) → (n == n) ≡ true
itself_number n = grind arith

other_number : (k n : ℕ) → nat_cmp n k ≡ Less → (k == n) ≡ false
other_number k n less = grind arith

-- a generation of some has this number
abbrev pub is_among : ℕ → List Gen → Bool
is_among n list = list_any (λ gen. gen.number == n) list

-- the numbers of some generations
abbrev pub numbers_of : List Gen → List ℕ
numbers_of list = map (λ gen. gen.number) list

pub found_among : (list : List Gen) (n : ℕ) → IsSome (listed_at list n) → is_among n list ≡ true
found_among [] n some = absurd cc
found_among (gen ∷ list) n some = by (gen.number == n) some (found_among list n)
  where
    by : (b : Bool) → IsSome (option_map (λ (g : Gen). g.target) (cond b (Some gen) (find (λ (g : Gen). g.number == n) list))) → (IsSome (listed_at list n) → is_among n list ≡ true) → (b || is_among n list) ≡ true
    by true some rest = refl
    by false some rest = rest some

-- among those whose numbers pass a test, a number is where it passes and is among all
pub among_passing : (test : ℕ → Bool) (n : ℕ) (list : List Gen) → is_among n (filter (λ gen. test gen.number) list) ≡ (test n && is_among n list)
among_passing test n list = any-filter_same (λ (gen : Gen). gen.number == n) (λ (gen : Gen). test gen.number) (test n) (λ gen same. ap test (same_number gen.number n same)) list

-- a link is among those of some generations where its number is among theirs
pub among_linked : (n : ℕ) → n < 2 ^ 64 → (list : List Gen) → AllByRecursion (λ (gen : Gen). is_number gen.number ≡ true) list → has (map (λ (gen : Gen). link_path gen.number) list) (link_path n) ≡ true → is_among n list ≡ true
among_linked n small [] numbers there = absurd cc
among_linked n small (gen ∷ list) numbers there = elim (or_cases (is_name (link_path n) (link_path gen.number)) _ there) [
  | inl path ↦
      let same = one_link_path n gen.number small (small_number gen.number numbers.0) (name_exact (link_path n) (link_path gen.number) path) in
      or_left (gen.number == n) (is_among n list) (subst (λ k. (k == n) ≡ true) same (itself_number n))
  | inr later ↦ or_right (gen.number == n) (is_among n list) (among_linked n small list numbers.1 later)
]

above_lacks : (n : ℕ) (list : List Gen) → AllByRecursion (λ m. nat_cmp n m ≡ Less) (numbers_of list) → is_among n list ≡ false
above_lacks n [] above = refl
above_lacks n (gen ∷ list) above = ap (λ b. b || is_among n list) (other_number gen.number n above.0) ∙ above_lacks n list above.1

-- of two lists whose numbers rise, one after the other, one alone has a number
pub rising_apart : (n : ℕ) (one other : List Gen) → IsStrictlySortedBy nat_cmp (numbers_of (one ++ other)) → is_among n one ≡ true → is_among n other ≡ true → ⊥
unfolding IsStrictlySortedBy
rising_apart n [] other rising here there = absurd cc
rising_apart n (gen ∷ one) other rising here there = elim (or_cases (gen.number == n) (is_among n one) here) [
  | inl same ↦
      let above = subst (λ k. AllByRecursion (λ m. nat_cmp k m ≡ Less) (numbers_of (one ++ other))) (same_number gen.number n same) rising.0 in
      both_ways _ (above_lacks n (one ++ other) above) (list_any-append (λ (g : Gen). g.number == n) one other ∙ or_right (is_among n one) (is_among n other) there)
  | inr later ↦ rising_apart n one other rising.1 later there
]

-- ---- some of the first, and all of the last

module _ (passes : Gen → Bool) where
  pub all_kept : (P : Gen → Type 0) (one other : List Gen) → AllByRecursion P (one ++ other) → AllByRecursion P (filter passes one ++ other)
  all_kept P [] other all = all
  all_kept P (gen ∷ one) other all = by (passes gen) (all_kept P one other all.1)
    where
      by : (b : Bool) → AllByRecursion P (filter passes one ++ other) → AllByRecursion P (cond b (gen ∷ filter passes one) (filter passes one) ++ other)
      by true rest = (all.0, rest)
      by false rest = rest

  numbers_kept : (P : ℕ → Type 0) (one other : List Gen) → AllByRecursion P (numbers_of (one ++ other)) → AllByRecursion P (numbers_of (filter passes one ++ other))
  numbers_kept P [] other all = all
  numbers_kept P (gen ∷ one) other all = by (passes gen) (numbers_kept P one other all.1)
    where
      by : (b : Bool) → AllByRecursion P (numbers_of (filter passes one ++ other)) → AllByRecursion P (numbers_of (cond b (gen ∷ filter passes one) (filter passes one) ++ other))
      by true rest = (all.0, rest)
      by false rest = rest

  pub rising_kept : (one other : List Gen) → IsStrictlySortedBy nat_cmp (numbers_of (one ++ other)) → IsStrictlySortedBy nat_cmp (numbers_of (filter passes one ++ other))
  unfolding IsStrictlySortedBy
  rising_kept [] other rising = rising
  rising_kept (gen ∷ one) other rising = by (passes gen) (rising_kept one other rising.1)
    where
      by : (b : Bool) → IsStrictlySortedBy nat_cmp (numbers_of (filter passes one ++ other)) → IsStrictlySortedBy nat_cmp (numbers_of (cond b (gen ∷ filter passes one) (filter passes one) ++ other))
      by true rest = (numbers_kept (λ m. nat_cmp gen.number m ≡ Less) one other rising.0, rest)
      by false rest = rest

-- ---- the generations that are kept

module _ (keep : ℕ) (gens : Gens) where
  -- the last so many
  abbrev pub last_of : List Gen
  last_of = drop (length gens.list - keep) gens.list

  pub whole : older keep gens ++ last_of ≡ gens.list
  whole = take-append-drop (length gens.list - keep) gens.list

  pub kept_all : (P : Gen → Type 0) → AllByRecursion P gens.list → AllByRecursion P (gens_kept keep gens).list
  kept_all P all = all_kept (is_current_of gens) P (older keep gens) last_of (subst (AllByRecursion P) (sym whole) all)

  -- a number of those that are kept is one of all
  pub among_kept : (n : ℕ) → is_among n (gens_kept keep gens).list ≡ true → is_among n gens.list ≡ true
  among_kept n kept =
      let is_current : ℕ → Bool = λ k. option_map_or (λ c. k == c) gens.current false in
      let cases = or_cases (is_among n (filter (λ (gen : Gen). is_current gen.number) (older keep gens))) (is_among n last_of)
      (sym (list_any-append (λ (g : Gen). g.number == n) (filter (λ (gen : Gen). is_current gen.number) (older keep gens)) last_of) ∙ kept) in
      let either : (is_among n (older keep gens) || is_among n last_of) ≡ true = elim cases [
        | inl current ↦ or_left (is_among n (older keep gens)) (is_among n last_of) (and_parts (is_current n) (is_among n (older keep gens)) (sym (among_passing is_current n (older keep gens)) ∙ current)).1
        | inr last ↦ or_right (is_among n (older keep gens)) (is_among n last_of) last
      ] in
      subst (λ list. is_among n list ≡ true) whole (list_any-append (λ (g : Gen). g.number == n) (older keep gens) last_of ∙ either)

  module _ (rising : IsStrictlySortedBy nat_cmp (numbers_of gens.list)) where
    pub kept_rising : IsStrictlySortedBy nat_cmp (numbers_of (gens_kept keep gens).list)
    kept_rising = rising_kept (is_current_of gens) (older keep gens) last_of (subst (λ list. IsStrictlySortedBy nat_cmp (numbers_of list)) (sym whole) rising)

    -- the link of a generation that is kept doesn't go
    pub kept_stays : (n : ℕ) → n < 2 ^ 64 → AllByRecursion (λ (gen : Gen). is_number gen.number ≡ true) gens.list → is_among n (gens_kept keep gens).list ≡ true → has (links_gone keep gens) (link_path n) ≡ true → ⊥
    kept_stays n small numbers kept gone =
        let is_current : ℕ → Bool = λ k. option_map_or (λ c. k == c) gens.current false in
        let first = all_take (λ (gen : Gen). is_number gen.number ≡ true) gens.list (length gens.list - keep) numbers in
        let among = among_linked n small (filter (λ (gen : Gen). not (is_current gen.number)) (older keep gens))
        (all_take_filter (λ (gen : Gen). not (is_current gen.number)) (older keep gens) first) gone in
        let goes = and_parts (not (is_current n)) (is_among n (older keep gens)) (sym (among_passing (λ k. not (is_current k)) n (older keep gens)) ∙ among) in
        elim (or_cases (is_among n (filter (λ (gen : Gen). is_current gen.number) (older keep gens))) (is_among n last_of)
        (sym (list_any-append (λ (g : Gen). g.number == n) (filter (λ (gen : Gen). is_current gen.number) (older keep gens)) last_of) ∙ kept)) [
          | inl current ↦ both_ways _ (not-true _ goes.0) (and_parts (is_current n) (is_among n (older keep gens)) (sym (among_passing is_current n (older keep gens)) ∙ current)).0
          | inr last ↦ rising_apart n (older keep gens) last_of (subst (λ list. IsStrictlySortedBy nat_cmp (numbers_of list)) (sym whole) rising) goes.1 last
        ]
      where
        all_take_filter : (test : Gen → Bool) (list : List Gen) → AllByRecursion (λ (gen : Gen). is_number gen.number ≡ true) list → AllByRecursion (λ (gen : Gen). is_number gen.number ≡ true) (filter test list)
        all_take_filter test [] all = tt
        all_take_filter test (gen ∷ list) all = by (test gen) (all_take_filter test list all.1)
          where
            by : (b : Bool) → AllByRecursion (λ (g : Gen). is_number g.number ≡ true) (filter test list) → AllByRecursion (λ (g : Gen). is_number g.number ≡ true) (cond b (gen ∷ filter test list) (filter test list))
            by true rest = (all.0, rest)
            by false rest = rest
