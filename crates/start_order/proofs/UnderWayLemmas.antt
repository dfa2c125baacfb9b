-- How the units are taken, one after the other.
use Rattle.std.proofs.Common.{◌≡◌, ◌⊎◌, ◌↔◌, ◌&&◌, ◌||◌, ◌++◌, not, ℕ, zero, suc, Bool, true, false, IsTrue, List, [], ◌∷◌, length, ◌+◌, take, Option, None, Some, refl, sym, ap, subst, ◌∙◌, inl, inr, ⊎_elim, arith}
use Rattle.std.specs.List.{AllByRecursion, find, list_any, slice_get}
use Rattle.std.specs.Option.{option_or}
use Rattle.std.specs.List.Sorted.{IsStrictlySortedBy}
use Rattle.std.specs.declared.cmp.Ordering.TheVariants.{Less}
use Rattle.std.proofs.lemmas.Bool.{or_cases, or_left, or_right}
use Rattle.std.proofs.lemmas.List.{length-append}
use Rattle.std.proofs.lemmas.List.Folds.{list_any-append}
use Rattle.std.proofs.lemmas.List.Kept.{IsStrictlySortedBy-filter}
use Rattle.std.proofs.lemmas.Map.Lookups.{btree_set_from_contains}
use Rattle.std.proofs.lemmas.Option.{slice_get_within}
use Rattle.host_trait.specs.Bytes.{bytes_cmp}
use Rattle.host_trait.proofs.NameOrder.{all_named, has_filter, name_exact, name_itself}
use Rattle.host_trait.proofs.Orders.{none_sorted}
use Rattle.host_trait.proofs.Places.{bytes_total, bytes_exact}
use Rattle.switch_names.specs.Names.{Name, has, is_name}
use Rattle.start_order.specs.declared.edge.Edge.{Edge}
use Rattle.start_order.specs.declared.ordered.Cycle.{Cycle}
use Rattle.start_order.specs.declared.ordered.Ordered.{Ordered}
use Rattle.start_order.specs.Cycles.{AreCycles, IsCycle}
use Rattle.start_order.specs.Graph.{is_free_one}
use Rattle.start_order.specs.Order.{IsBroken, is_before, is_free, is_stuck, left_of, next_of}
use Rattle.start_order.specs.Ordered.{IsOrdered}
use Rattle.start_order.specs.Progress.{IsBreak, stuck_unit}
use Rattle.start_order.proofs.CycleLemmas.{get_behind, get_front}
use Rattle.start_order.proofs.OrderLemmas.{both_from, both_of, least, never_both, next_among, not_from, placed, stuck_first}
use Rattle.start_order.proofs.StepLemmas.{step}
use Rattle.start_order.proofs.TakeLemmas.{stuck_first_of, stuck_when}
use Rattle.start_order.proofs.WaitLemmas.{any_with}
use Rattle.start_order.proofs.WalkLemmas.{get_either, has_behind}

-- some units have been taken in order, and these sets have those that are left and those of them that are free
pub record IsUnderWay (units : List Name) (edges : List Edge) (left free : List Name) (ordered : Ordered) : Type 0 where
  pub left_sorted : IsStrictlySortedBy bytes_cmp left
  pub free_sorted : IsStrictlySortedBy bytes_cmp free
  pub are_left : (unit : Name) → has left unit ≡ (not (has ordered.units unit) && has units unit)
  pub are_free : (unit : Name) → has free unit ≡ (is_free edges left unit && has left unit)
  pub each : (k : ℕ) (unit : Name) → slice_get ordered.units k ≡ Some unit → next_of edges (left_of units (take k ordered.units)) ≡ Some unit
  pub given : ordered.edges ≡ edges
  pub broken_sorted : IsStrictlySortedBy bytes_cmp ordered.broken
  pub are_broken : (unit : Name) → IsTrue (has ordered.broken unit) ↔ IsBroken units edges ordered.units unit
  pub cycles : AreCycles units edges ordered.units ordered.broken ordered.cycles

-- ---- the units that are left and free

settle : (n f l b g : Bool) → (g ≡ true) ↔ ((f ≡ true) ⊎ ((b ≡ true) × (g ≡ true))) → (not n && (f && l) || b && ((not n && l) && g)) ≡ (g && (not n && l))
settle true true true true true s = refl
settle true true true true false s = refl
settle true true true false true s = refl
settle true true true false false s = refl
settle true true false true true s = refl
settle true true false true false s = refl
settle true true false false true s = refl
settle true true false false false s = refl
settle true false true true true s = refl
settle true false true true false s = refl
settle true false true false true s = refl
settle true false true false false s = refl
settle true false false true true s = refl
settle true false false true false s = refl
settle true false false false true s = refl
settle true false false false false s = refl
settle false true true true true s = refl
settle false true true true false s = absurd (let no : false ≡ true = s.1 (inl refl) in cc)
settle false true true false true s = refl
settle false true true false false s = absurd (let no : false ≡ true = s.1 (inl refl) in cc)
settle false true false true true s = refl
settle false true false true false s = refl
settle false true false false true s = refl
settle false true false false false s = refl
settle false false true true true s = refl
settle false false true true false s = refl
settle false false true false true s = absurd (⊎_elim (λ (e : false ≡ true). cc) (λ (e : (false ≡ true) × (true ≡ true)). let no : false ≡ true = e.0 in cc) (s.0 refl))
settle false false true false false s = refl
settle false false false true true s = refl
settle false false false true false s = refl
settle false false false false true s = refl
settle false false false false false s = refl

left_bool : (n h u : Bool) → (not n && (not h && u)) ≡ (not (h || (n || false)) && u)
left_bool true true true = refl
left_bool true true false = refl
left_bool true false true = refl
left_bool true false false = refl
left_bool false true true = refl
left_bool false true false = refl
left_bool false false true = refl
left_bool false false false = refl

-- what holds of each item with those before it holds so after a push
pushed : (P : List Name → Name → Type 0) (xs : List Name) (x : Name) → ((k : ℕ) (u : Name) → slice_get xs k ≡ Some u → P (take k xs) u) → P xs x →
    (k : ℕ) (u : Name) → slice_get (xs ++ x ∷ []) k ≡ Some u → P (take k (xs ++ x ∷ [])) u
pushed P [] x each last zero u is = let same : x ≡ u = cc in subst (λ k. P [] k) same last
pushed P [] x each last (suc k) u is = absurd (let no : None ≡ Some u = is in cc)
pushed P (y ∷ ys) x each last zero u is = each zero u is
pushed P (y ∷ ys) x each last (suc k) u is = pushed (λ front. P (y ∷ front)) ys x (λ j v at. each (suc j) v at) last k u is

take_front : (xs ys : List Name) (k : ℕ) (x : Name) → slice_get xs k ≡ Some x → take k (xs ++ ys) ≡ take k xs
take_front [] ys k x is = absurd (let no : None ≡ Some x = is in cc)
take_front (y ∷ xs) ys zero x is = refl
take_front (y ∷ xs) ys (suc k) x is = ap (λ front. y ∷ front) (take_front xs ys k x is)

take_all : (xs ys : List Name) → take (length xs) (xs ++ ys) ≡ xs
take_all [] [] = refl
take_all [] (y ∷ ys) = refl
take_all (x ∷ xs) ys = ap (λ front. x ∷ front) (take_all xs ys)

taken_of : (names : List Name) (k : ℕ) (name : Name) → has names name ≡ false → has (take k names) name ≡ false
taken_of names zero name lacks = refl
taken_of [] (suc k) name lacks = refl
taken_of (one ∷ names) (suc k) name lacks = neither_of (is_name name one) (has names name) (has (take k names) name) lacks (λ rest. taken_of names k name rest)
  where
    neither_of : (a b t : Bool) → a || b ≡ false → (b ≡ false → t ≡ false) → a || t ≡ false
    neither_of true b t none rest = none
    neither_of false b t none rest = rest none

sorted_behind : (names : List Name) (one : Name) → IsStrictlySortedBy bytes_cmp names → AllByRecursion (λ name. bytes_cmp name one ≡ Less) names → IsStrictlySortedBy bytes_cmp (names ++ one ∷ [])
unfolding IsStrictlySortedBy
sorted_behind [] one sorted below = (tt, tt)
sorted_behind (name ∷ names) one sorted below = (all_behind names sorted.0, sorted_behind names one sorted.1 below.1)
  where
    all_behind : (rest : List Name) → AllByRecursion (λ y. bytes_cmp name y ≡ Less) rest → AllByRecursion (λ y. bytes_cmp name y ≡ Less) (rest ++ one ∷ [])
    all_behind [] all = (below.0, tt)
    all_behind (other ∷ rest) all = (all.0, all_behind rest all.1)

-- ---- one unit is taken

-- what is left is one of the units
pub among : (units : List Name) (edges : List Edge) (left free : List Name) (ordered : Ordered) → IsUnderWay units edges left free ordered → (name : Name) → has left name ≡ true → has units name ≡ true
among units edges left free ordered way name is = (both_of (not (has ordered.units name)) (has units name) (sym (way.are_left name) ∙ is)).1

module _ (units : List Name) (edges : List Edge) (sorted : IsStrictlySortedBy bytes_cmp units) (left free : List Name) (ordered : Ordered) (way : IsUnderWay units edges left free ordered)
    (unit : Name) (next : next_of edges left ≡ Some unit) where
  abbrev order : List Name
  order = ordered.units

  abbrev further : List Name
  further = order ++ unit ∷ []

  same_left : left ≡ left_of units order
  same_left =
      btree_set_from_contains bytes_total (record { keys = left }) (record { keys = left_of units order }) way.left_sorted
      (IsStrictlySortedBy-filter bytes_cmp (λ u. not (has order u)) units sorted) (λ u. way.are_left u ∙ sym (has_filter (λ one. not (has order one)) units u)) bytes_exact

  there : (not (has order unit) ≡ true) × (has units unit ≡ true)
  there = both_of (not (has order unit)) (has units unit) (sym (way.are_left unit) ∙ next_among edges left unit next)

  not_taken : has order unit ≡ false
  not_taken = not_from (has order unit) there.0

  never_taken : (k : ℕ) (u : Name) → slice_get order k ≡ Some u → unit ≡ u → ⊥
  never_taken k u at same = never_both (has order unit) (subst (λ n. has order n ≡ true) (sym same) (placed order k u at)) not_taken

  -- what was left when an earlier unit was taken
  before_then : (P : List Name → Type 0) (k : ℕ) (u : Name) → slice_get order k ≡ Some u → P (left_of units (take k order)) → P (left_of units (take k further))
  before_then P k u at is = subst (λ front. P (left_of units front)) (sym (take_front order (unit ∷ []) k u at)) is

  before_now : (P : List Name → Type 0) (k : ℕ) (u : Name) → slice_get order k ≡ Some u → P (left_of units (take k further)) → P (left_of units (take k order))
  before_now P k u at is = subst (λ front. P (left_of units front)) (take_front order (unit ∷ []) k u at) is

  at_turn : (P : List Name → Type 0) (k : ℕ) → k ≡ length order → P left → P (left_of units (take k further))
  at_turn P k last is = subst (λ n. P (left_of units (take n further))) (sym last) (subst (λ front. P (left_of units front)) (sym (take_all order (unit ∷ []))) (subst P same_left is))

  from_turn : (P : List Name → Type 0) (k : ℕ) → k ≡ length order → P (left_of units (take k further)) → P left
  from_turn P k last is = subst P (sym same_left) (subst (λ front. P (left_of units front)) (take_all order (unit ∷ [])) (subst (λ n. P (left_of units (take n further))) last is))

  still_broken : (u : Name) → IsBroken units edges order u → IsBroken units edges further u
  still_broken u is = record {
    turn = is.turn;
    taken = get_front order (unit ∷ []) is.turn u is.taken;
    stuck = before_then (λ l. is_stuck edges l ≡ true) is.turn u is.taken is.stuck;
  }

  newly_broken : is_stuck edges left ≡ true → IsBroken units edges further unit
  newly_broken stuck = record { turn = length order; taken = get_behind order unit; stuck = at_turn (λ l. is_stuck edges l ≡ true) (length order) refl stuck }

  which_broken : (u : Name) → IsBroken units edges further u → IsBroken units edges order u ⊎ ((unit ≡ u) × (is_stuck edges left ≡ true))
  which_broken u is =
      ⊎_elim
      (λ at. inl (record { turn = is.turn; taken = at; stuck = before_now (λ l. is_stuck edges l ≡ true) is.turn u at is.stuck }))
      (λ last. inr (last.1, from_turn (λ l. is_stuck edges l ≡ true) is.turn last.0 is.stuck))
      (get_either order unit is.turn u is.taken)

  -- the broken units so far are less than one that is broken now
  below : (u : Name) → IsBroken units edges order u → bytes_cmp u unit ≡ Less
  below u is =
      let rest = left_of units (take is.turn order) in
      let at : slice_get rest 0 ≡ Some u = stuck_first (find (is_free edges rest) rest) (slice_get rest 0) u is.stuck (way.each is.turn u is.taken) in
      least rest u unit (IsStrictlySortedBy-filter bytes_cmp (λ one. not (has (take is.turn order) one)) units sorted) at
      (has_filter (λ one. not (has (take is.turn order) one)) units unit
      ∙ both_from (not (has (take is.turn order) unit)) (has units unit) (ap not (taken_of order is.turn unit not_taken)) there.1)
      (λ same. never_taken is.turn u is.taken (name_exact unit u same))

  old_cycle : (k turn : ℕ) (u : Name) (cycle : Cycle) → slice_get ordered.broken k ≡ Some u → slice_get ordered.cycles k ≡ Some cycle → slice_get further turn ≡ Some u →
      IsCycle edges (left_of units (take turn further)) u cycle.units
  old_cycle k turn u cycle broken is_cycle at =
      ⊎_elim
      (λ early. before_then (λ l. IsCycle edges l u cycle.units) turn u early (way.cycles.each k turn u cycle broken is_cycle early))
      (λ last. let was = (way.are_broken u).0 (placed ordered.broken k u broken) in absurd (never_taken was.turn u was.taken last.1))
      (get_either order unit turn u at)

  -- none is broken
  module _ (free_now : is_stuck edges left ≡ false) where
    pub same_broken : (u : Name) → IsTrue (has ordered.broken u) ↔ IsBroken units edges further u
    same_broken u = (
      λ is. still_broken u ((way.are_broken u).0 is),
      λ is. ⊎_elim (λ was. (way.are_broken u).1 was) (λ now. absurd (never_both (is_stuck edges left) now.1 free_now)) (which_broken u is),
    )

    pub same_cycles : AreCycles units edges further ordered.broken ordered.cycles
    same_cycles = record { many = way.cycles.many; each = old_cycle }

  -- the unit is broken
  module _ (stuck : is_stuck edges left ≡ true) where
    pub more_sorted : IsStrictlySortedBy bytes_cmp (ordered.broken ++ unit ∷ [])
    more_sorted =
        sorted_behind ordered.broken unit way.broken_sorted
        (all_named (λ name. bytes_cmp name unit ≡ Less) ordered.broken (λ name is. below name ((way.are_broken name).0 is)))

    either_broken : (u : Name) → (has ordered.broken u ≡ true) ⊎ (is_name u unit ≡ true) → has (ordered.broken ++ unit ∷ []) u ≡ true
    either_broken u is = has_behind ordered.broken unit u ∙ ⊎_elim (or_left (has ordered.broken u) (is_name u unit)) (or_right (has ordered.broken u) (is_name u unit)) is

    pub more_broken : (u : Name) → IsTrue (has (ordered.broken ++ unit ∷ []) u) ↔ IsBroken units edges further u
    more_broken u = (
      λ is. ⊎_elim (λ was. still_broken u ((way.are_broken u).0 was)) (λ now. subst (IsBroken units edges further) (sym (name_exact u unit now)) (newly_broken stuck))
          (or_cases (has ordered.broken u) (is_name u unit) (sym (has_behind ordered.broken unit u) ∙ is)),
      λ is. either_broken u (⊎_elim (λ was. inl ((way.are_broken u).1 was)) (λ now. inr (subst (λ n. is_name n unit ≡ true) now.0 (name_itself unit))) (which_broken u is)),
    )

    pub more_cycles : (cycle : Cycle) → IsCycle edges left unit cycle.units → AreCycles units edges further (ordered.broken ++ unit ∷ []) (ordered.cycles ++ cycle ∷ [])
    more_cycles cycle is = record {
      many = length-append ordered.cycles (cycle ∷ []) ∙ ap (λ n. n + 1) way.cycles.many ∙ sym (length-append ordered.broken (unit ∷ []));
      each = λ k turn u other broken is_cycle at.
          ⊎_elim
          (λ was. ⊎_elim (λ early. old_cycle k turn u other was early at)
          (λ late. absurd (let within = slice_get_within ordered.broken k u was in omega (arith, within, late.0, way.cycles.many)))
          (get_either ordered.cycles cycle k other is_cycle))
          (λ now. ⊎_elim (λ early. absurd (let within = slice_get_within ordered.cycles k other early in omega (arith, within, now.0, way.cycles.many)))
          (λ late. ⊎_elim (λ taken. absurd (never_taken turn u taken now.1))
          (λ last. at_turn (λ l. IsCycle edges l u other.units) turn last.0 (subst (λ n. IsCycle edges left n other.units) now.1 (subst (λ (one : Cycle). IsCycle edges left unit one.units) late.1 is)))
          (get_either order unit turn u at))
          (get_either ordered.cycles cycle k other is_cycle))
          (get_either ordered.broken unit k u broken);
    }

  -- those that are left and free once the unit is taken
  module _ (left_after free_between free_after : List Name) (left_sorted : IsStrictlySortedBy bytes_cmp left_after) (free_sorted : IsStrictlySortedBy bytes_cmp free_after)
      (fewer : (other : Name) → has left_after other ≡ (not (is_name other unit) && has left other)) (fewer_free : (other : Name) → has free_between other ≡ (not (is_name other unit) && has free other))
      (added : (other : Name) → has free_after other ≡ (has free_between other || (is_before edges unit other && (has left_after other && is_free edges left_after other)))) where
    still_left : (u : Name) → has left_after u ≡ (not (has further u) && has units u)
    still_left u =
        fewer u ∙ ap (λ b. not (is_name u unit) && b) (way.are_left u) ∙ left_bool (is_name u unit) (has order u) (has units u)
        ∙ ap (λ b. not b && has units u) (sym (list_any-append (is_name u) order (unit ∷ [])))

    now_free : (u : Name) → has free_after u ≡ (is_free edges left_after u && has left_after u)
    now_free u =
        added u
        ∙ ap (λ b. b || (is_before edges unit u && (has left_after u && is_free edges left_after u))) (fewer_free u ∙ ap (λ b. not (is_name u unit) && b) (way.are_free u))
        ∙ ap (λ b. not (is_name u unit) && (is_free edges left u && has left u) || is_before edges unit u && (b && is_free edges left_after u)) (fewer u)
        ∙ settle (is_name u unit) (is_free edges left u) (has left u) (is_before edges unit u) (is_free edges left_after u) (step edges left left_after unit u fewer)
        ∙ ap (λ b. is_free edges left_after u && b) (sym (fewer u))

    taken_way : (broken : List Name) (cycles : List Cycle) (given : List Edge) → given ≡ edges → IsStrictlySortedBy bytes_cmp broken →
        ((u : Name) → IsTrue (has broken u) ↔ IsBroken units edges further u) → AreCycles units edges further broken cycles → (after_units : List Name) → after_units ≡ further →
        IsUnderWay units edges left_after free_after (record { units = after_units; edges = given; broken = broken; cycles = cycles })
    taken_way broken cycles given same broken_sorted are_broken cycles_are after_units is =
        subst (λ o. IsUnderWay units edges left_after free_after (record { units = o; edges = given; broken = broken; cycles = cycles })) (sym is) (record {
          left_sorted = left_sorted;
          free_sorted = free_sorted;
          are_left = still_left;
          are_free = now_free;
          each = pushed (λ front u. next_of edges (left_of units front) ≡ Some u) order unit way.each (ap (next_of edges) (sym same_left) ∙ next);
          given = same;
          broken_sorted = broken_sorted;
          are_broken = are_broken;
          cycles = cycles_are;
        })

    -- a unit that is taken while one is free isn't stuck
    not_stuck : (b : Bool) → is_stuck edges left ≡ b → stuck_unit edges left ≡ None → is_stuck edges left ≡ false
    not_stuck false is none = is
    not_stuck true is none =
        let first : slice_get left 0 ≡ Some unit = stuck_first (find (is_free edges left) left) (slice_get left 0) unit is next in
        let no : None ≡ Some unit = sym none ∙ stuck_when edges left true is ∙ first in
        cc

    module _ (mid : Ordered) (none : stuck_unit edges left ≡ None → mid ≡ ordered) (broken : (u : Name) → stuck_unit edges left ≡ Some u → IsBreak edges left u ordered mid)
        (after_units : List Name) (is : after_units ≡ mid.units ++ unit ∷ []) where
      by_break : (o : Option Name) → stuck_unit edges left ≡ o → IsUnderWay units edges left_after free_after (record { units = after_units; edges = mid.edges; broken = mid.broken; cycles = mid.cycles })
      by_break None stuck =
          let free_now = not_stuck (is_stuck edges left) refl stuck in
          let same = none stuck in
          taken_way mid.broken mid.cycles mid.edges (ap (λ (m : Ordered). m.edges) same ∙ way.given)
          (subst (λ (m : Ordered). IsStrictlySortedBy bytes_cmp m.broken) (sym same) way.broken_sorted)
          (λ u. subst (λ (m : Ordered). IsTrue (has m.broken u) ↔ IsBroken units edges further u) (sym same) (same_broken free_now u))
          (subst (λ (m : Ordered). AreCycles units edges further m.broken m.cycles) (sym same) (same_cycles free_now))
          after_units (is ∙ ap (λ (m : Ordered). m.units ++ unit ∷ []) same)
      by_break (Some u) stuck =
          let parts = stuck_first_of edges left u stuck in
          let same : unit ≡ u = first_name (stuck_first (find (is_free edges left) left) (slice_get left 0) unit parts.0 next) parts.1 in
          let breaks : IsBreak edges left unit ordered mid = broken unit (subst (λ n. stuck_unit edges left ≡ Some n) (sym same) stuck) in
          taken_way mid.broken mid.cycles mid.edges (breaks.given ∙ way.given)
          (subst (IsStrictlySortedBy bytes_cmp) (sym breaks.broken) (more_sorted parts.0))
          (λ one. subst (λ names. IsTrue (has names one) ↔ IsBroken units edges further one) (sym breaks.broken) (more_broken parts.0 one))
          (subst (λ names. AreCycles units edges further names mid.cycles) (sym breaks.broken) (subst (AreCycles units edges further (ordered.broken ++ unit ∷ [])) (sym breaks.cycles) (more_cycles parts.0 breaks.cycle breaks.is_cycle)))
          after_units (is ∙ ap (λ names. names ++ unit ∷ []) breaks.units)
        where
          first_name : {o : Option Name} {x y : Name} → o ≡ Some x → o ≡ Some y → x ≡ y
          first_name one two = cc

      pub goes_on : IsUnderWay units edges left_after free_after (record { units = after_units; edges = mid.edges; broken = mid.broken; cycles = mid.cycles })
      goes_on = by_break (stuck_unit edges left) refl

-- ---- the first and the last step

twice : (a b : Bool) → (a && b && a) ≡ (b && a)
twice true b = refl
twice false true = refl
twice false false = refl

module _ (units : List Name) (edges : List Edge) where
  pub begun : (left free : List Name) (ordered : Ordered) → ordered.units ≡ [] → ordered.edges ≡ edges → ordered.broken ≡ [] → ordered.cycles ≡ [] → IsStrictlySortedBy bytes_cmp left →
      ((unit : Name) → has left unit ≡ has units unit) → IsStrictlySortedBy bytes_cmp free → ((unit : Name) → has free unit ≡ list_any (is_free_one edges left unit) units) →
      IsUnderWay units edges left free ordered
  begun left free ordered none given none_broken no_cycles left_sorted all free_sorted are = record {
    left_sorted = left_sorted;
    free_sorted = free_sorted;
    are_left = λ u. all u ∙ ap (λ names. not (has names u) && has units u) (sym none);
    are_free = λ u. are u ∙ any_with (λ other. has left other && is_free edges left other) units u ∙ ap (λ b. has left u && is_free edges left u && b) (sym (all u)) ∙ twice (has left u) (is_free edges left u);
    each = λ k u at. absurd (let no : None ≡ Some u = sym (ap (λ names. slice_get names k) none) ∙ at in cc);
    given = given;
    broken_sorted = subst (IsStrictlySortedBy bytes_cmp) (sym none_broken) none_sorted;
    are_broken = λ u. (
      λ is. absurd (let no : false ≡ true = sym (ap (λ names. has names u) none_broken) ∙ is in cc),
      λ is. absurd (let no : None ≡ Some u = sym (ap (λ names. slice_get names is.turn) none) ∙ is.taken in cc),
    );
    cycles = record {
      many = ap length no_cycles ∙ sym (ap length none_broken);
      each = λ k turn u cycle at was taken. absurd (let no : None ≡ Some u = sym (ap (λ names. slice_get names turn) none) ∙ taken in cc);
    };
  }

  none_left : (left : List Name) (o : Option Name) → option_or o (slice_get left 0) ≡ None → left ≡ []
  none_left [] o is = refl
  none_left (x ∷ left) None is = absurd (let no : Some x ≡ None = is in cc)
  none_left (x ∷ left) (Some y) is = absurd (let no : Some y ≡ None = is in cc)

  pub ended_way : IsStrictlySortedBy bytes_cmp units → (left free : List Name) (ordered mid : Ordered) → IsUnderWay units edges left free ordered → (stuck_unit edges left ≡ None → mid ≡ ordered) →
      next_of edges left ≡ None → IsOrdered units edges mid
  ended_way sorted left free ordered mid way same_when none =
      let nothing : left ≡ [] = none_left left (find (is_free edges left) left) none in
      let same : mid ≡ ordered = same_when (ap (stuck_unit edges) nothing) in
      subst (IsOrdered units edges) (sym same) (record {
        order = record { each = way.each; all = sym (left_is left free ordered way) ∙ nothing };
        given = way.given;
        broken = record { sorted = way.broken_sorted; exact = way.are_broken };
        cycles = way.cycles;
      })
    where
      left_is : (left free : List Name) (ordered : Ordered) → IsUnderWay units edges left free ordered → left ≡ left_of units ordered.units
      left_is left free ordered way =
          btree_set_from_contains bytes_total (record { keys = left }) (record { keys = left_of units ordered.units }) way.left_sorted
          (IsStrictlySortedBy-filter bytes_cmp (λ u. not (has ordered.units u)) units sorted) (λ u. way.are_left u ∙ sym (has_filter (λ one. not (has ordered.units one)) units u)) bytes_exact
