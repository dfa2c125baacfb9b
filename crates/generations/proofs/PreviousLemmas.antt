-- The generation before the current one, in the list of a world's generations.
use Rattle.std.proofs.Common.{◌≡◌, ◌&&◌, ◌||◌, ◌==◌, ◌^◌, ◌<◌, zero, suc, ℕ, Bool, true, false, cond, nat_lt, List, [], ◌∷◌, map, filter, Option, None, Some, is_some, option_and_then, option_map, refl, sym, ap, subst, ◌∙◌, inl, inr, arith}
use Rattle.std.proofs.lemmas.Bool.{both_ways, cases_Bool, cases_order, eq-eqb, lt-ltb, ne_eqb}
use Rattle.std.specs.Bool.{then_some}
use Rattle.std.specs.Cmp.Lexicographic.{nat_list_eq_equiv, same_text}
use Rattle.std.specs.FinMap.{get}
use Rattle.std.specs.List.{AllByRecursion, find, list_any}
use Rattle.std.specs.List.Sorted.{IsStrictlySortedBy}
use Rattle.std.specs.Option.{option_or}
use Rattle.std.specs.Ordering.{nat_cmp}
use Rattle.std.specs.declared.cmp.Ordering.TheVariants.{Less}
use Rattle.host_trait.specs.declared.leaf.LeafKind.{LeafKind}
use Rattle.host_trait.specs.declared.leaf.LeafKind.TheVariants.{File, Link}
use Rattle.host_trait.specs.World.{Leaves, content_of}
use Rattle.generations.specs.declared.gens.Gen.{Gen}
use Rattle.generations.specs.declared.gens.Gens.{Gens}
use Rattle.generations.specs.Gens.{IsGensOf, last_number, listed_at, previous_in}
use Rattle.generations.specs.Goal.{BearsGoal, goal_place, has_target, is_current, is_link, names_system, previous, recorded, some_number}
use Rattle.generations.specs.Places.{IsCurrent, generation_at, greatest_below, link_name, profile}
use Rattle.generations.proofs.GoalLemmas.{not_zero, number_of, unrecorded, with_number, with_target, without_target}
use Rattle.generations.proofs.Numbers.{below_bound, greatest_is, greatest_none, less_of, stands_at_number}

-- ---- the greatest number below a bound, by what passes below it

greatest_within : (test : ℕ → Bool) (bound k : ℕ) → k < bound → test k ≡ true → ((m : ℕ) → k < m → m < bound → test m ≡ false) → greatest_below test bound ≡ k
unfolding greatest_below
greatest_within test zero k low is above = absurd (omega arith)
greatest_within test (suc n) k low is above = elim (cases_order k n) [
  | inl same ↦ ap (λ b. cond b n (greatest_below test n)) (ap test (sym same) ∙ is) ∙ sym same
  | inr (inl less) ↦ ap (λ b. cond b n (greatest_below test n)) (above n less (omega arith)) ∙ greatest_within test n k less is (λ m more under. above m more (omega arith))
  | inr (inr more) ↦ absurd (omega arith)
]

none_within : (test : ℕ → Bool) (bound : ℕ) → ((m : ℕ) → m < bound → test m ≡ false) → greatest_below test bound ≡ 0
unfolding greatest_below
none_within test zero none = refl
none_within test (suc n) none = ap (λ b. cond b n (greatest_below test n)) (none n (omega arith)) ∙ none_within test n (λ m under. none m (omega arith))

-- ---- the last of a list below a number

-- a generation lies below a number and names a system
abbrev is_earlier : ℕ → Gen → Bool
is_earlier c gen = nat_lt gen.number c && is_some gen.target

-- the last generation below a number that names a system, or none
abbrev IsLastBelow : List Gen → ℕ → Option ℕ → Type 0
IsLastBelow list c None = (k : ℕ) → k < c → names_system (listed_at list k) ≡ false
IsLastBelow list c (Some n) = (n < c) × ((names_system (listed_at list n) ≡ true) × ((k : ℕ) → n < k → k < c → names_system (listed_at list k) ≡ false))

last_after : (x : Gen) (rest : List Gen) → last_number (x ∷ rest) ≡ option_or (last_number rest) (Some x.number)
last_after x [] = refl
last_after x (y ∷ rest) = some_last y rest (last_number (y ∷ rest)) refl
  where
    is_last : (y : Gen) (rest : List Gen) → is_some (last_number (y ∷ rest)) ≡ true
    is_last y [] = refl
    is_last y (z ∷ rest) = is_last z rest

    some_last : (y : Gen) (rest : List Gen) (o : Option ℕ) → last_number (y ∷ rest) ≡ o → last_number (y ∷ rest) ≡ option_or (last_number (y ∷ rest)) (Some x.number)
    some_last y rest None is = absurd (both_ways _ (ap is_some is) (is_last y rest))
    some_last y rest (Some n) is = is ∙ sym (ap (λ o. option_or o (Some x.number)) is)

-- another number is sought behind the first generation
behind : (x : Gen) (rest : List Gen) (k : ℕ) → (x.number ≡ k → ⊥) → names_system (listed_at (x ∷ rest) k) ≡ names_system (listed_at rest k)
behind x rest k other = ap (λ b. names_system (option_map (λ (gen : Gen). gen.target) (cond b (Some x) (find (λ gen. gen.number == k) rest)))) (ne_eqb x.number k other)

here : (x : Gen) (rest : List Gen) (k : ℕ) → x.number ≡ k → names_system (listed_at (x ∷ rest) k) ≡ is_some x.target
here x rest k same = ap (λ b. names_system (option_map (λ (gen : Gen). gen.target) (cond b (Some x) (find (λ gen. gen.number == k) rest)))) (eq-eqb x.number k same)

-- what all numbers of a list have, one at which a system is found has
found_has : (P : ℕ → Type 0) (rest : List Gen) → AllByRecursion P (map (λ gen. gen.number) rest) → (k : ℕ) → names_system (listed_at rest k) ≡ true → P k
found_has P [] all k is = absurd (cc)
found_has P (y ∷ rest) all k is = elim (cases_order y.number k) [
  | inl same ↦ subst P same all.0
  | inr (inl less) ↦ found_has P rest all.1 k (sym (behind y rest k (λ same. below y.number k less same)) ∙ is)
  | inr (inr more) ↦ found_has P rest all.1 k (sym (behind y rest k (λ same. below k y.number more (sym same))) ∙ is)
]
  where
    below : (a b : ℕ) → a < b → a ≡ b → ⊥
    below a b less same = absurd (omega arith)

rest_sorted : (x : Gen) (rest : List Gen) → IsStrictlySortedBy nat_cmp (map (λ gen. gen.number) (x ∷ rest)) → IsStrictlySortedBy nat_cmp (map (λ gen. gen.number) rest) × AllByRecursion (λ y. nat_cmp x.number y ≡ Less) (map (λ gen. gen.number) rest)
unfolding IsStrictlySortedBy
rest_sorted x [] sorted = (tt, tt)
rest_sorted x (y ∷ rest) sorted = (sorted.1, sorted.0)

last_below : (c : ℕ) (list : List Gen) → IsStrictlySortedBy nat_cmp (map (λ gen. gen.number) list) → IsLastBelow list c (last_number (filter (is_earlier c) list))
last_below c [] sorted = λ k under. refl
last_below c (x ∷ rest) sorted = elim (cases_Bool (is_earlier c x)) [
  | inl earlier ↦ subst (IsLastBelow (x ∷ rest) c)
      (sym (ap (λ b. last_number (cond b (x ∷ filter (is_earlier c) rest) (filter (is_earlier c) rest))) earlier ∙ last_after x (filter (is_earlier c) rest)))
      (with earlier (last_number (filter (is_earlier c) rest)) (last_below c rest (rest_sorted x rest sorted).0))
  | inr later ↦ subst (IsLastBelow (x ∷ rest) c)
      (sym (ap (λ b. last_number (cond b (x ∷ filter (is_earlier c) rest) (filter (is_earlier c) rest))) later))
      (without later (last_number (filter (is_earlier c) rest)) (last_below c rest (rest_sorted x rest sorted).0))
]
  where
    above : (k : ℕ) → names_system (listed_at rest k) ≡ true → x.number < k
    above k is = less_of x.number k (found_has (λ y. nat_cmp x.number y ≡ Less) rest (rest_sorted x rest sorted).1 k is)

    apart : (k : ℕ) → x.number < k → x.number ≡ k → ⊥
    apart k less same = absurd (omega arith)

    past : (k n : ℕ) → x.number < n → n < k → x.number ≡ k → ⊥
    past k n less more same = absurd (omega arith)

    more : (n : ℕ) → IsLastBelow rest c (Some n) → IsLastBelow (x ∷ rest) c (Some n)
    more n is =
        let over = above n is.1.0 in
        (is.0, (behind x rest n (apart n over) ∙ is.1.0, λ k past_n under. behind x rest k (past k n over past_n) ∙ is.1.1 k past_n under))

    with : is_earlier c x ≡ true → (o : Option ℕ) → IsLastBelow rest c o → IsLastBelow (x ∷ rest) c (option_or o (Some x.number))
    with earlier None none =
        (small (nat_lt x.number c) (is_some x.target) earlier refl, (here x rest x.number refl ∙ named (nat_lt x.number c) (is_some x.target) earlier, λ k less under. behind x rest k (apart k less) ∙ none k under))
      where
        small : (a b : Bool) → (a && b) ≡ true → nat_lt x.number c ≡ a → x.number < c
        small true b both is = let less : nat_lt x.number c ≡ true = is in grind (arith, less)
        small false b both is = absurd (both_ways _ refl both)

        named : (a b : Bool) → (a && b) ≡ true → b ≡ true
        named true b both = both
        named false b both = absurd (both_ways _ refl both)
    with earlier (Some n) is = more n is

    without : is_earlier c x ≡ false → (o : Option ℕ) → IsLastBelow rest c o → IsLastBelow (x ∷ rest) c o
    without later None none = λ k under. elim (cases_order x.number k) [
      | inl same ↦ here x rest k same ∙ unnamed (nat_lt x.number c) (is_some x.target) later (ap (λ n. nat_lt n c) same ∙ lt-ltb k c under)
      | inr (inl less) ↦ behind x rest k (apart k less) ∙ none k under
      | inr (inr over) ↦ behind x rest k (λ same. absurd (omega arith)) ∙ none k under
    ]
      where
        unnamed : (a b : Bool) → (a && b) ≡ false → a ≡ true → b ≡ false
        unnamed true b both is = both
        unnamed false b both is = absurd (both_ways _ refl is)
    without later (Some n) is = more n is

-- ---- a generation in a list that rises

-- none behind the first has its number
none_later : (x : ℕ) (n : ℕ) (rest : List Gen) → x ≡ n → AllByRecursion (λ y. nat_cmp x y ≡ Less) (map (λ gen. gen.number) rest) → list_any (λ gen. gen.number == n && is_some gen.target) rest ≡ false
none_later x n [] same all = refl
none_later x n (y ∷ rest) same all =
    let less : x < y.number = less_of x y.number all.0 in
    ap (λ b. (b && is_some y.target) || list_any (λ gen. gen.number == n && is_some gen.target) rest) (ne_eqb y.number n (λ is. absurd (omega (arith, same, less, is)))) ∙ none_later x n rest same all.1

pub any_listed : (list : List Gen) → IsStrictlySortedBy nat_cmp (map (λ gen. gen.number) list) → (n : ℕ) → list_any (λ gen. gen.number == n && is_some gen.target) list ≡ names_system (listed_at list n)
any_listed [] sorted n = refl
any_listed (x ∷ rest) sorted n = elim (cases_order x.number n) [
  | inl same ↦
      (λ i. (eq-eqb x.number n same i && is_some x.target) || none_later x.number n rest same (rest_sorted x rest sorted).1 i) ∙ or_none (is_some x.target) ∙ sym (here x rest n same)
  | inr (inl less) ↦ another_number (any_listed rest (rest_sorted x rest sorted).0 n) (λ same. absurd (omega arith))
  | inr (inr over) ↦ another_number (any_listed rest (rest_sorted x rest sorted).0 n) (λ same. absurd (omega arith))
]
  where
    or_none : (b : Bool) → (b || false) ≡ b
    or_none true = refl
    or_none false = refl

    another_number : list_any (λ gen. gen.number == n && is_some gen.target) rest ≡ names_system (listed_at rest n) → (x.number ≡ n → ⊥) →
        list_any (λ gen. gen.number == n && is_some gen.target) (x ∷ rest) ≡ names_system (listed_at (x ∷ rest) n)
    another_number more other =
        ap (λ b. (b && is_some x.target) || list_any (λ gen. gen.number == n && is_some gen.target) rest) (ne_eqb x.number n other)
        ∙ more ∙ sym (behind x rest n other)

-- ---- the current generation

link_of : (o : Option LeafKind) (text : List ℕ) → is_link o text ≡ true → o ≡ Some (Link text)
link_of None text is = absurd (both_ways _ refl is)
link_of (Some (File bytes mode uid gid)) text is = absurd (both_ways _ refl is)
link_of (Some (Link target)) text is = ap (λ t. Some (Link t)) (same_text target text (sym is))

both_true : (a b : Bool) → (a && b) ≡ true → (a ≡ true) × (b ≡ true)
both_true true b is = (refl, is)
both_true false b is = absurd (both_ways _ refl is)

module _ (leaves : Leaves) (gens : Gens) (is : IsGensOf leaves gens) where
  another : (n : ℕ) → (gens.current ≡ Some n → ⊥) → is_current leaves n ≡ false
  another n not = elim (cases_Bool (is_current leaves n)) [
    | inl current ↦
        let both = both_true (is_some (generation_at leaves n)) (is_link (get leaves profile) (link_name n)) current in
        absurd (not (is.only_current n (record { linked = link_of (get leaves profile) (link_name n) both.1; stands = both.0 })))
    | inr other ↦ other
  ]

  current_is : (n : ℕ) → IsCurrent leaves n → is_current leaves n ≡ true
  current_is n at =
      (λ i. is_some_of (generation_at leaves n) at.stands i && is_link (at.linked i) (link_name n)) ∙ nat_list_eq_equiv.refl (link_name n)
    where
      is_some_of : (o : Option (Option (List ℕ))) → is_some o ≡ true → is_some o ≡ true
      is_some_of o is = is

  as_listed : (k : ℕ) → has_target leaves k ≡ names_system (listed_at gens.list k)
  as_listed k = ap names_system (sym (is.exact k))

  -- the last below a number is the greatest
  last_is_greatest : (c : ℕ) (o : Option ℕ) → IsLastBelow gens.list c o → o ≡ some_number (greatest_below (has_target leaves) c)
  last_is_greatest c None none = sym (ap some_number (none_within (has_target leaves) c (λ k under. as_listed k ∙ none k under)))
  last_is_greatest c (Some n) last =
      let target : has_target leaves n ≡ true = as_listed n ∙ last.1.0 in
      sym (ap some_number (greatest_within (has_target leaves) c n last.0 target (λ k more under. as_listed k ∙ last.1.1 k more under))
      ∙ ap (λ b. cond b None (Some n)) (not_zero n (number_of leaves n target)))

  by_current : (o : Option ℕ) → gens.current ≡ o → previous_in gens.list o ≡ some_number (previous leaves)
  unfolding previous greatest_below
  by_current None none =
      sym (ap (λ bound. some_number (greatest_below (has_target leaves) bound)) (greatest_none (is_current leaves) (2 ^ 32) (λ m. another m (λ some. absurd (let no : None ≡ Some m = sym none ∙ some in cc)))))
  by_current (Some c) some =
      let at : IsCurrent leaves c = subst (λ o. Rattle.std.specs.Prelude.IfSome o (IsCurrent leaves)) some is.current in
      let bound = greatest_is (is_current leaves) (2 ^ 32) c (below_bound c (stands_at_number leaves c at.stands)) (current_is c at)
      (λ m more. another m (λ other. absurd (let same : c ≡ m = one c m (sym some ∙ other) in omega (arith, same, more)))) in
      last_is_greatest c _ (last_below c gens.list is.rising)
      ∙ sym (ap (λ b. some_number (greatest_below (has_target leaves) b)) bound)
    where
      one : (a b : ℕ) → Some a ≡ Some b → a ≡ b
      one a b same = cc

  pub previous_of_world : previous_in gens.list gens.current ≡ some_number (previous leaves)
  previous_of_world = by_current gens.current refl

  -- what the goal's place says is recorded
  pub recorded_of_world :
      (o : Option (List ℕ)) (number : Option ℕ) → content_of leaves goal_place ≡ o → BearsGoal o number →
      option_and_then (λ n. then_some (list_any (λ gen. gen.number == n && is_some gen.target) gens.list) n) number ≡ some_number (recorded leaves)
  recorded_of_world o None content bears = sym (unrecorded leaves o content bears)
  recorded_of_world o (Some n) content bears =
      let read = with_number leaves o n bears in
      let same : list_any (λ gen. gen.number == n && is_some gen.target) gens.list ≡ has_target leaves n = any_listed gens.list is.rising n ∙ sym (as_listed n) in
      elim (cases_Bool (has_target leaves n)) [
        | inl target ↦ ap (λ b. then_some b n) (same ∙ target) ∙ sym (with_target leaves n (content ∙ read.0) target)
        | inr none ↦ ap (λ b. then_some b n) (same ∙ none) ∙ sym (without_target leaves n read.1 (content ∙ read.0) none)
      ]
