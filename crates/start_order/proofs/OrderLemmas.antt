-- What holds of every order.
use Rattle.std.proofs.Common.{◌≡◌, ◌⊎◌, ◌≤◌, ◌<◌, ◌&&◌, ◌||◌, not, cond, ℕ, zero, suc, Bool, true, false, IsSome, List, [], ◌∷◌, length, ◌++◌, ◌+◌, take, Option, None, Some, is_none, refl, sym, ap, subst, ◌∙◌, inl, inr, ⊎_elim, arith}
use Rattle.std.specs.Option.{option_or}
use Rattle.std.specs.List.{find, slice_get}
use Rattle.std.specs.List.Sorted.{IsStrictlySortedBy}
use Rattle.std.specs.declared.cmp.Ordering.TheVariants.{Less}
use Rattle.std.proofs.lemmas.Bool.{or_cases, or_left, or_right}
use Rattle.host_trait.specs.Bytes.{bytes_cmp}
use Rattle.host_trait.proofs.NameOrder.{above_all, has_filter, name_exact, name_itself}
use Rattle.std.proofs.lemmas.List.Kept.{IsStrictlySortedBy-filter}
use Rattle.start_order.specs.declared.edge.Edge.{Edge}
use Rattle.switch_names.specs.Names.{Name, has, is_name}
use Rattle.start_order.specs.Laws.{EdgeLaw, IsRearranged, OneOrderLaw, RearrangedLaw, RisingLaw}
use Rattle.start_order.specs.Order.{IsBroken, IsOrder, is_before, is_free, is_stuck, left_of, next_of, waits_for}

-- ---- tests

pub same_test : (a b : Bool) → (a ≡ true → b ≡ true) → (b ≡ true → a ≡ true) → a ≡ b
same_test true true to from = refl
same_test true false to from = sym (to refl)
same_test false true to from = from refl
same_test false false to from = refl

pub both_of : (a b : Bool) → a && b ≡ true → (a ≡ true) × (b ≡ true)
both_of true b is = (refl, is)
both_of false b is = absurd (let no : false ≡ true = is in cc)

pub both_from : (a b : Bool) → a ≡ true → b ≡ true → a && b ≡ true
both_from true b one two = two
both_from false b one two = one

pub not_from : (a : Bool) → not a ≡ true → a ≡ false
not_from true is = absurd (let no : false ≡ true = is in cc)
not_from false is = refl

pub never_both : (a : Bool) → a ≡ true → a ≡ false → ⊥
never_both a one two = let no : true ≡ false = sym one ∙ two in cc

-- ---- what is found

find_step : (test : Name → Bool) (one : Name) (names : List Name) (name : Name) (b : Bool) → test one ≡ b →
    (find test names ≡ Some name → (test name ≡ true) × (has names name ≡ true)) → cond b (Some one) (find test names) ≡ Some name → (test name ≡ true) × (is_name name one || has names name ≡ true)
find_step test one names name true holds rest found =
    let same : one ≡ name = cc in
    (subst (λ k. test k ≡ true) same holds, or_left (is_name name one) (has names name) (subst (λ k. is_name name k ≡ true) (sym same) (name_itself name)))
find_step test one names name false holds rest found = let more = rest found in (more.0, or_right (is_name name one) (has names name) more.1)

pub found_is : (test : Name → Bool) (names : List Name) (name : Name) → find test names ≡ Some name → (test name ≡ true) × (has names name ≡ true)
found_is test [] name is = absurd (let no : None ≡ Some name = is in cc)
found_is test (one ∷ names) name is = find_step test one names name (test one) refl (found_is test names name) is

miss_step : (test : Name → Bool) (one : Name) (names : List Name) (name : Name) (b : Bool) → test one ≡ b →
    (find test names ≡ None → has names name ≡ true → test name ≡ false) → cond b (Some one) (find test names) ≡ None → is_name name one || has names name ≡ true → test name ≡ false
miss_step test one names name true holds rest found is = absurd (let no : Some one ≡ None = found in cc)
miss_step test one names name false holds rest found is =
    ⊎_elim (λ same. subst (λ k. test k ≡ false) (sym (name_exact name one same)) holds) (λ more. rest found more) (or_cases (is_name name one) (has names name) is)

pub missed : (test : Name → Bool) (names : List Name) (name : Name) → find test names ≡ None → has names name ≡ true → test name ≡ false
missed test [] name none is = absurd (let no : false ≡ true = is in cc)
missed test (one ∷ names) name none is = miss_step test one names name (test one) refl (missed test names name) none is

pub first_among : (names : List Name) (name : Name) → slice_get names 0 ≡ Some name → has names name ≡ true
first_among [] name is = absurd (let no : None ≡ Some name = is in cc)
first_among (one ∷ names) name is =
    let same : one ≡ name = cc in or_left (is_name name one) (has names name) (subst (λ k. is_name name k ≡ true) (sym same) (name_itself name))

pub either_next : (o first : Option Name) (name : Name) → option_or o first ≡ Some name → (o ≡ Some name) ⊎ ((is_none o ≡ true) × (first ≡ Some name))
either_next None first name is = inr (refl, is)
either_next (Some x) first name is = inl is

pub next_among : (edges : List Edge) (left : List Name) (name : Name) → next_of edges left ≡ Some name → has left name ≡ true
next_among edges left name is =
    ⊎_elim (λ free. (found_is (is_free edges left) left name free).1) (λ stuck. first_among left name stuck.1)
    (either_next (find (is_free edges left) left) (slice_get left 0) name is)

-- ---- what is taken

pub at_place : (names : List Name) (name : Name) → has names name ≡ true → (k : ℕ) × (slice_get names k ≡ Some name)
at_place [] name is = absurd (let no : false ≡ true = is in cc)
at_place (one ∷ names) name is =
    ⊎_elim (λ same. (zero, ap (λ k. Some k) (sym (name_exact name one same)))) (λ more. let there = at_place names name more in (suc there.0, there.1))
    (or_cases (is_name name one) (has names name) is)

pub placed : (names : List Name) (k : ℕ) (name : Name) → slice_get names k ≡ Some name → has names name ≡ true
placed [] k name is = absurd (let no : None ≡ Some name = is in cc)
placed (one ∷ names) zero name is = first_among (one ∷ names) name is
placed (one ∷ names) (suc k) name is = or_right (is_name name one) (has names name) (placed names k name is)

pub taken_before : (names : List Name) (j k : ℕ) (name : Name) → slice_get names j ≡ Some name → j < k → has (take k names) name ≡ true
taken_before [] j k name is less = absurd (let no : None ≡ Some name = is in cc)
taken_before (one ∷ names) j zero name is less = absurd (omega (arith, less))
taken_before (one ∷ names) zero (suc k) name is less = first_among (one ∷ take k names) name is
taken_before (one ∷ names) (suc j) (suc k) name is less = or_right (is_name name one) (has (take k names) name) (taken_before names j k name is (omega (arith, less)))

pub more_taken : (names : List Name) (j k : ℕ) (name : Name) → j ≤ k → has (take j names) name ≡ true → has (take k names) name ≡ true
more_taken names zero k name less is = absurd (let no : false ≡ true = is in cc)
more_taken [] (suc j) k name less is = absurd (let no : false ≡ true = is in cc)
more_taken (one ∷ names) (suc j) zero name less is = absurd (omega (arith, less))
more_taken (one ∷ names) (suc j) (suc k) name less is =
    ⊎_elim (λ same. or_left (is_name name one) (has (take k names) name) same)
    (λ more. or_right (is_name name one) (has (take k names) name) (more_taken names j k name (omega (arith, less)) more))
    (or_cases (is_name name one) (has (take j names) name) is)

module _ (units : List Name) (edges : List Edge) (order : List Name) (is : IsOrder units edges order) where
  -- a unit is left when its turn comes
  turn : (k : ℕ) (unit : Name) → slice_get order k ≡ Some unit → (has (take k order) unit ≡ false) × (has units unit ≡ true)
  turn k unit at =
      let left = next_among edges (left_of units (take k order)) unit (is.each k unit at) in
      let parts = both_of (not (has (take k order) unit)) (has units unit) (sym (has_filter (λ u. not (has (take k order) u)) units unit) ∙ left) in
      (not_from (has (take k order) unit) parts.0, parts.1)

  not_earlier : (j k : ℕ) (unit : Name) → slice_get order j ≡ Some unit → slice_get order k ≡ Some unit → j < k → ⊥
  not_earlier j k unit first second less = never_both (has (take k order) unit) (taken_before order j k unit first less) (turn k unit second).0

  is_left : (k : ℕ) (unit : Name) → has units unit ≡ true → has (take k order) unit ≡ false → has (left_of units (take k order)) unit ≡ true
  is_left k unit there taken = has_filter (λ u. not (has (take k order) u)) units unit ∙ both_from (not (has (take k order) unit)) (has units unit) (ap not taken) there

  -- each unit is taken
  comes : (unit : Name) → has units unit ≡ true → has order unit ≡ true
  comes unit there = by_test (has order unit) refl
    where
      by_test : (b : Bool) → has order unit ≡ b → has order unit ≡ true
      by_test true taken = taken
      by_test false taken =
          let left : has (left_of units order) unit ≡ true = has_filter (λ u. not (has order u)) units unit ∙ both_from (not (has order unit)) (has units unit) (ap not taken) there in
          absurd (never_both (has (left_of units order) unit) left (ap (λ names. has names unit) is.all))

  once : (j k : ℕ) (unit : Name) → slice_get order j ≡ Some unit → slice_get order k ≡ Some unit → j ≡ k
  once j k unit first second = let one = not_earlier j k unit first second in let two = not_earlier k j unit second first in by_order j k one two
    where
      by_order : (j k : ℕ) → (j < k → ⊥) → (k < j → ⊥) → j ≡ k
      by_order zero zero one two = refl
      by_order zero (suc k) one two = absurd (one (omega arith))
      by_order (suc j) zero one two = absurd (two (omega arith))
      by_order (suc j) (suc k) one two = ap suc (by_order j k (λ less. one (omega (arith, less))) (λ less. two (omega (arith, less))))

  rearranged : IsRearranged units order
  rearranged = record {
    same = λ unit. same_test (has order unit) (has units unit) (λ there. let at = at_place order unit there in (turn at.0 unit at.1).1) (comes unit);
    once = once;
  }

  -- an edge is kept, or its unit is broken
  kept : (before after : Name) (k : ℕ) → is_before edges before after ≡ true → has units before ≡ true → slice_get order k ≡ Some after →
      (has (take k order) before ≡ true) ⊎ IsBroken units edges order after
  kept before after k edge there at =
      let left = left_of units (take k order) in
      ⊎_elim
      (λ free. inl (by_test free (has (take k order) before) refl))
      (λ stuck. inr (record { turn = k; taken = at; stuck = stuck.0 }))
      (either_next (find (is_free edges left) left) (slice_get left 0) after (is.each k after at))
    where
      none_waited : (o : Option Name) → is_none o ≡ true → o ≡ None
      none_waited None is = refl
      none_waited (Some x) is = absurd (let no : false ≡ true = is in cc)

      by_test : find (is_free edges (left_of units (take k order))) (left_of units (take k order)) ≡ Some after → (b : Bool) → has (take k order) before ≡ b → has (take k order) before ≡ true
      by_test free true taken = taken
      by_test free false taken =
          let left = left_of units (take k order) in
          let none = none_waited (waits_for edges left after) (found_is (is_free edges left) left after free).0 in
          absurd (never_both (is_before edges before after) edge (missed (λ other. is_before edges other after) left before none (is_left k before there taken)))

pub rearranged_law : RearrangedLaw
rearranged_law units edges order is = rearranged units edges order is

pub edge_law : EdgeLaw
edge_law units edges order before after k is edge there at = kept units edges order is before after k edge there at

-- ---- walks

some_unless : (o : Option Name) → is_none o ≡ false → IsSome o
some_unless None is = absurd (let no : true ≡ false = is in cc)
some_unless (Some x) is = refl

pub none_from : (o : Option Name) → is_none o ≡ true → o ≡ None
none_from None is = refl
none_from (Some x) is = absurd (let no : false ≡ true = is in cc)

-- where none is free, each unit that is left waits for another
pub each_waits : (edges : List Edge) (left : List Name) (unit : Name) → is_stuck edges left ≡ true → has left unit ≡ true → IsSome (waits_for edges left unit)
each_waits edges left unit stuck there =
    some_unless (waits_for edges left unit) (missed (is_free edges left) left unit (none_from (find (is_free edges left) left) stuck) there)

-- ---- there is one order

ended : (xs : List Name) (k : ℕ) → slice_get xs k ≡ None → take k xs ≡ xs
ended [] zero is = refl
ended [] (suc k) is = refl
ended (x ∷ xs) zero is = absurd (let no : Some x ≡ None = is in cc)
ended (x ∷ xs) (suc k) is = ap (λ rest. x ∷ rest) (ended xs k is)

abbrev next_list : Option Name → List Name
next_list None = []
next_list (Some x) = x ∷ []

take_next : (xs : List Name) (k : ℕ) → take (suc k) xs ≡ take k xs ++ next_list (slice_get xs k)
take_next [] zero = refl
take_next [] (suc k) = refl
take_next (x ∷ xs) zero = refl
take_next (x ∷ xs) (suc k) = ap (λ rest. x ∷ rest) (take_next xs k)

take_whole : (xs : List Name) (k : ℕ) → length xs ≤ k → take k xs ≡ xs
take_whole [] zero short = refl
take_whole [] (suc k) short = refl
take_whole (x ∷ xs) zero short = absurd (omega (arith, short))
take_whole (x ∷ xs) (suc k) short = ap (λ rest. x ∷ rest) (take_whole xs k (omega (arith, short)))

module _ (units : List Name) (edges : List Edge) where
  beyond : (order other : List Name) (k : ℕ) (unit : Name) → IsOrder units edges order → IsOrder units edges other →
      take k order ≡ take k other → slice_get order k ≡ Some unit → slice_get other k ≡ None → ⊥
  beyond order other k unit one two same at past =
      let whole : take k order ≡ other = same ∙ ended other k past in
      let none : next_of edges [] ≡ Some unit = sym (ap (λ t. next_of edges (left_of units t)) whole ∙ ap (next_of edges) two.all) ∙ one.each k unit at in
      let no : None ≡ Some unit = none in cc

  same_at : (order other : List Name) (k : ℕ) → IsOrder units edges order → IsOrder units edges other → take k order ≡ take k other →
      (o p : Option Name) → slice_get order k ≡ o → slice_get other k ≡ p → o ≡ p
  same_at order other k one two same None None first second = refl
  same_at order other k one two same (Some u) (Some v) first second = sym (one.each k u first) ∙ ap (λ t. next_of edges (left_of units t)) same ∙ two.each k v second
  same_at order other k one two same (Some u) None first second = absurd (beyond order other k u one two same first second)
  same_at order other k one two same None (Some v) first second = absurd (beyond other order k v two one (sym same) second first)

  agree : (order other : List Name) → IsOrder units edges order → IsOrder units edges other → (k : ℕ) → take k order ≡ take k other
  agree order other one two zero = refl
  agree order other one two (suc k) =
      let same = agree order other one two k in
      let next : slice_get order k ≡ slice_get other k = same_at order other k one two same (slice_get order k) (slice_get other k) refl refl in
      take_next order k ∙ ap (λ t. t ++ next_list (slice_get order k)) same ∙ ap (λ o. take k other ++ next_list o) next ∙ sym (take_next other k)

pub one_order_law : OneOrderLaw
one_order_law units edges order other one two =
    let far = length order + length other in
    sym (take_whole order far (omega arith)) ∙ agree units edges order other one two far ∙ take_whole other far (omega arith)

-- ---- broken units rise

pub least : (names : List Name) (first name : Name) → IsStrictlySortedBy bytes_cmp names → slice_get names 0 ≡ Some first → has names name ≡ true → (is_name name first ≡ true → ⊥) → bytes_cmp first name ≡ Less
unfolding IsStrictlySortedBy
least [] first name sorted at is other = absurd (let no : None ≡ Some first = at in cc)
least (one ∷ names) first name sorted at is other =
    let same : one ≡ first = cc in
    ⊎_elim (λ itself. absurd (other (subst (λ k. is_name name k ≡ true) same itself)))
    (λ more. subst (λ k. bytes_cmp k name ≡ Less) same (above_all one name names sorted.0 more))
    (or_cases (is_name name one) (has names name) is)

pub stuck_first : (o first : Option Name) (name : Name) → is_none o ≡ true → option_or o first ≡ Some name → first ≡ Some name
stuck_first None first name stuck is = is
stuck_first (Some x) first name stuck is = absurd (let no : false ≡ true = stuck in cc)

pub not_true : (b : Bool) → (b ≡ true → ⊥) → b ≡ false
not_true true never = absurd (never refl)
not_true false never = refl

pub rising_law : RisingLaw
rising_law units edges order one other sorted is first second less =
    let left = left_of units (take first.turn order) in
    let at : slice_get left 0 ≡ Some one = stuck_first (find (is_free edges left) left) (slice_get left 0) one first.stuck (is.each first.turn one first.taken) in
    let there = turn units edges order is second.turn other second.taken in
    let early : has (take first.turn order) other ≡ false = not_true (has (take first.turn order) other)
    (λ taken. never_both (has (take second.turn order) other) (more_taken order first.turn second.turn other (omega (arith, less)) taken) there.0) in
    least left one other (IsStrictlySortedBy-filter bytes_cmp (λ u. not (has (take first.turn order) u)) units sorted) at (is_left units edges order is first.turn other there.1 early)
    (λ same. never_both (has (take second.turn order) other)
    (subst (λ k. has (take second.turn order) k ≡ true) (sym (name_exact other one same)) (taken_before order first.turn second.turn one first.taken less)) there.0)
