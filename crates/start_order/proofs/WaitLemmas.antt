-- What a unit waits for, by its edges.
use Rattle.std.proofs.Common.{◌≡◌, ◌&&◌, ◌||◌, cond, Bool, true, false, List, [], ◌∷◌, filter, map, Some, refl, sym, ap, subst, ◌∙◌}
use Rattle.std.specs.List.{AllByRecursion, find, list_any, slice_get}
use Rattle.std.specs.List.Sorted.{IsStrictlySortedBy}
use Rattle.std.specs.Ordering.{ordering_then}
use Rattle.std.specs.declared.cmp.Ordering.{Ordering}
use Rattle.std.specs.declared.cmp.Ordering.TheVariants.{Less, Equal, Greater}
use Rattle.std.proofs.lemmas.List.Kept.{IsStrictlySortedBy-filter}
use Rattle.std.proofs.lemmas.Map.Lookups.{btree_set_from_contains}
use Rattle.host_trait.specs.Bytes.{bytes_cmp}
use Rattle.host_trait.proofs.NameOrder.{has_filter, less_is_other, name_exact, name_itself}
use Rattle.host_trait.proofs.Places.{bytes_total, bytes_exact}
use Rattle.start_order.specs.declared.edge.Edge.{Edge}
use Rattle.start_order.specs.Edges.{edge_cmp}
use Rattle.start_order.specs.Graph.{afters_of, befores_of, is_free_one}
use Rattle.start_order.specs.Order.{is_before, is_free, waits_for}
use Rattle.start_order.proofs.OrderLemmas.{never_both}
use Rattle.start_order.proofs.StepLemmas.{first_kept}
use Rattle.switch_names.specs.Names.{Name, has, is_name}

has_step : (e : Edge) (edges : List Edge) (before unit : Name) (b : Bool) →
    has (map (λ edge. edge.before) (cond b (e ∷ filter (λ edge. is_name unit edge.after) edges) (filter (λ edge. is_name unit edge.after) edges))) before
    ≡ (is_name before e.before && b || has (befores_of edges unit) before)
has_step e edges before unit true = ap (λ b. b || has (befores_of edges unit) before) (and_true (is_name before e.before))
  where
    and_true : (b : Bool) → b ≡ (b && true)
    and_true true = refl
    and_true false = refl
has_step e edges before unit false = ap (λ b. b || has (befores_of edges unit) before) (and_false (is_name before e.before))
  where
    and_false : (b : Bool) → false ≡ (b && false)
    and_false true = refl
    and_false false = refl

-- they are those that stand before it
pub has_befores : (edges : List Edge) (before unit : Name) → has (befores_of edges unit) before ≡ is_before edges before unit
has_befores [] before unit = refl
has_befores (e ∷ edges) before unit =
    has_step e edges before unit (is_name unit e.after) ∙ ap (λ b. is_name before e.before && is_name unit e.after || b) (has_befores edges before unit)

edge_less : (one other : Edge) (unit : Name) (order : Ordering) → bytes_cmp one.before other.before ≡ order → ordering_then order (bytes_cmp one.after other.after) ≡ Less →
    is_name unit one.after ≡ true → is_name unit other.after ≡ true → bytes_cmp one.before other.before ≡ Less
edge_less one other unit Less is less here there = is
edge_less one other unit Greater is less here there = absurd (let no : Greater ≡ Less = less in cc)
edge_less one other unit Equal is less here there =
    let after : one.after ≡ other.after = sym (name_exact unit one.after here) ∙ name_exact unit other.after there in
    absurd (never_both (is_name one.after other.after) (subst (λ k. is_name one.after k ≡ true) after (name_itself one.after)) (less_is_other one.after other.after less))

above_step : (one e : Edge) (edges : List Edge) (unit : Name) (b : Bool) → (b ≡ true → bytes_cmp one.before e.before ≡ Less) →
    AllByRecursion (λ y. bytes_cmp one.before y ≡ Less) (befores_of edges unit) →
    AllByRecursion (λ y. bytes_cmp one.before y ≡ Less) (map (λ edge. edge.before) (cond b (e ∷ filter (λ edge. is_name unit edge.after) edges) (filter (λ edge. is_name unit edge.after) edges)))
above_step one e edges unit true less rest = (less refl, rest)
above_step one e edges unit false less rest = rest

above_befores : (one : Edge) (edges : List Edge) (unit : Name) → is_name unit one.after ≡ true → AllByRecursion (λ other. edge_cmp one other ≡ Less) edges →
    AllByRecursion (λ y. bytes_cmp one.before y ≡ Less) (befores_of edges unit)
above_befores one [] unit here less = tt
above_befores one (e ∷ edges) unit here less =
    above_step one e edges unit (is_name unit e.after) (λ there. edge_less one e unit (bytes_cmp one.before e.before) refl less.0 here there) (above_befores one edges unit here less.1)

sorted_step : (e : Edge) (edges : List Edge) (unit : Name) (b : Bool) → (b ≡ true → AllByRecursion (λ y. bytes_cmp e.before y ≡ Less) (befores_of edges unit)) →
    IsStrictlySortedBy bytes_cmp (befores_of edges unit) →
    IsStrictlySortedBy bytes_cmp (map (λ edge. edge.before) (cond b (e ∷ filter (λ edge. is_name unit edge.after) edges) (filter (λ edge. is_name unit edge.after) edges)))
unfolding IsStrictlySortedBy
sorted_step e edges unit true above rest = (above refl, rest)
sorted_step e edges unit false above rest = rest

pub befores_sorted : (edges : List Edge) (unit : Name) → IsStrictlySortedBy edge_cmp edges → IsStrictlySortedBy bytes_cmp (befores_of edges unit)
unfolding IsStrictlySortedBy
befores_sorted [] unit sorted = tt
befores_sorted (e ∷ edges) unit sorted = sorted_step e edges unit (is_name unit e.after) (λ here. above_befores e edges unit here sorted.0) (befores_sorted edges unit sorted.1)

turned : (a b : Bool) → (a && b) ≡ (b && a)
turned true true = refl
turned true false = refl
turned false true = refl
turned false false = refl

-- of two lists in order, the first of one that the other has is the first of the other that the one has
first_common : (xs ys : List Name) → IsStrictlySortedBy bytes_cmp xs → IsStrictlySortedBy bytes_cmp ys → find (has ys) xs ≡ find (has xs) ys
first_common xs ys sorted_xs sorted_ys =
    let same : filter (has ys) xs ≡ filter (has xs) ys =
    btree_set_from_contains bytes_total (record { keys = filter (has ys) xs }) (record { keys = filter (has xs) ys }) (IsStrictlySortedBy-filter bytes_cmp (has ys) xs sorted_xs)
    (IsStrictlySortedBy-filter bytes_cmp (has xs) ys sorted_ys) (λ unit. has_filter (has ys) xs unit ∙ turned (has ys unit) (has xs unit) ∙ sym (has_filter (has xs) ys unit)) bytes_exact in
    sym (first_kept (has ys) xs) ∙ ap (λ names. slice_get names 0) same ∙ first_kept (has xs) ys

find_same : (one other : Name → Bool) (names : List Name) → ((name : Name) → one name ≡ other name) → find one names ≡ find other names
find_same one other [] same = refl
find_same one other (name ∷ names) same = ap (λ b. cond b (Some name) (find one names)) (same name) ∙ ap (λ rest. cond (other name) (Some name) rest) (find_same one other names same)

-- a unit waits for the first of those before it that is left
pub waits_by_befores : (edges : List Edge) (left : List Name) (unit : Name) → IsStrictlySortedBy edge_cmp edges → IsStrictlySortedBy bytes_cmp left →
    waits_for edges left unit ≡ find (has left) (befores_of edges unit)
waits_by_befores edges left unit sorted_edges sorted_left =
    find_same (λ other. is_before edges other unit) (has (befores_of edges unit)) left (λ other. sym (has_befores edges other unit))
    ∙ first_common left (befores_of edges unit) sorted_left (befores_sorted edges unit sorted_edges)

-- ---- what comes after a unit

after_step : (e : Edge) (edges : List Edge) (taken unit : Name) (b : Bool) →
    has (map (λ edge. edge.after) (cond b (e ∷ filter (λ edge. is_name taken edge.before) edges) (filter (λ edge. is_name taken edge.before) edges))) unit
    ≡ (b && is_name unit e.after || has (afters_of edges taken) unit)
after_step e edges taken unit true = refl
after_step e edges taken unit false = refl

-- the units after one are those before which it stands
pub has_afters : (edges : List Edge) (taken unit : Name) → has (afters_of edges taken) unit ≡ is_before edges taken unit
has_afters [] taken unit = refl
has_afters (e ∷ edges) taken unit = after_step e edges taken unit (is_name taken e.before) ∙ ap (λ b. is_name taken e.before && is_name unit e.after || b) (has_afters edges taken unit)

both_cases : (t h : Bool) → (t && true || t && h) ≡ (t && true)
both_cases true h = refl
both_cases false h = refl

neither : (a r : Bool) → (a && false || r) ≡ r
neither true r = refl
neither false r = refl

with_step : (test : Name → Bool) (one u : Name) (h b : Bool) → is_name u one ≡ b → (test one && b || test u && h) ≡ (test u && (b || h))
with_step test one u h true is = ap (λ k. test k && true || test u && h) (sym (name_exact u one is)) ∙ both_cases (test u) h
with_step test one u h false is = neither (test one) (test u && h)

-- one of the names of which a test holds is this name, where it is there and the test holds
pub any_with : (test : Name → Bool) (xs : List Name) (u : Name) → list_any (λ other. test other && is_name u other) xs ≡ (test u && has xs u)
any_with test [] u = none (test u)
  where
    none : (t : Bool) → false ≡ (t && false)
    none true = refl
    none false = refl
any_with test (one ∷ xs) u = ap (λ b. test one && is_name u one || b) (any_with test xs u) ∙ with_step test one u (has xs u) (is_name u one) refl

-- what is free of those after a unit
pub any_after : (edges : List Edge) (left : List Name) (taken unit : Name) → list_any (is_free_one edges left unit) (afters_of edges taken) ≡ (is_before edges taken unit && (has left unit && is_free edges left unit))
any_after edges left taken unit =
    any_with (λ other. has left other && is_free edges left other) (afters_of edges taken) unit ∙ turned (has left unit && is_free edges left unit) (has (afters_of edges taken) unit)
    ∙ ap (λ b. b && (has left unit && is_free edges left unit)) (has_afters edges taken unit)
