-- The edges between units.
use Rattle.std.proofs.Common.{◌≡◌, ◌&&◌, ◌||◌, not, cond, ℕ, zero, suc, Bool, true, false, IsTrue, All, List, [], ◌∷◌, map, option_map, None, Some, refl, sym, ap, subst, ◌∙◌, slice_index_or, arith}
use Rattle.std.specs.BTreeMap.{is_at}
use Rattle.std.specs.List.{AllByRecursion, list_any, slice_get}
use Rattle.std.specs.List.Sorted.{IsStrictlySortedBy}
use Rattle.std.specs.Ordering.{is_eq, ordering_then}
use Rattle.std.specs.declared.cmp.Ordering.{Ordering}
use Rattle.std.specs.declared.cmp.Ordering.TheVariants.{Less, Equal, Greater}
use Rattle.std.proofs.lemmas.Bool.{or_left, or_right}
use Rattle.std.proofs.lemmas.List.{length-map}
use Rattle.std.proofs.lemmas.Option.{get_or_from_slice_get, slice_get-get_or, slice_get-map}
use Rattle.host_trait.specs.Bytes.{bytes_cmp}
use Rattle.host_trait.proofs.NameOrder.{name_exact, name_itself}
use Rattle.switch_names.proofs.Names.{name_turned}
use Rattle.switch_names.specs.Names.{Name, has, is_name}
use Rattle.start_order.specs.declared.edge.Edge.{Edge}
use Rattle.start_order.specs.Edges.{AreEdges, edge_cmp, edge_of, has_pair, is_between, pair_cmp}
use Rattle.start_order.specs.Order.{is_before}
use Rattle.start_order.proofs.OrderLemmas.{both_from}

-- ---- pairs

then_same : (one other : Ordering) → is_eq (ordering_then one other) ≡ (is_eq one && is_eq other)
then_same Less other = refl
then_same Equal other = refl
then_same Greater other = refl

pub pair_among : (pairs : List (Name × Name)) (before after : Name) → list_any (is_at (pair_cmp (before, after))) pairs ≡ has_pair pairs before after
pair_among [] before after = refl
pair_among (pair ∷ pairs) before after =
    ap (λ b. b || list_any (is_at (pair_cmp (before, after))) pairs) (then_same (bytes_cmp before pair.0) (bytes_cmp after pair.1))
    ∙ ap (λ b. is_name before pair.0 && is_name after pair.1 || b) (pair_among pairs before after)

either : (b h : Bool) → cond b true h ≡ (h || b)
either true true = refl
either true false = refl
either false true = refl
either false false = refl

-- a pair is added
pub pair_added : (old new : List (Name × Name)) (one other before after : Name) (is : Bool) → is ≡ true →
    list_any (is_at (pair_cmp (before, after))) new ≡ cond (is_at (pair_cmp (one, other)) (before, after)) true (list_any (is_at (pair_cmp (before, after))) old) →
    has_pair new before after ≡ (has_pair old before after || (is && (is_name before one && is_name after other)))
pair_added old new one other before after is holds added =
    sym (pair_among new before after) ∙ added
    ∙ ap (λ b. cond b true (list_any (is_at (pair_cmp (before, after))) old)) (then_same (bytes_cmp one before) (bytes_cmp other after))
    ∙ ap (λ h. cond (is_name one before && is_name other after) true h) (pair_among old before after)
    ∙ either (is_name one before && is_name other after) (has_pair old before after)
    ∙ ap (λ b. has_pair old before after || (b && is_name other after)) (name_turned one before)
    ∙ ap (λ b. has_pair old before after || (is_name before one && b)) (name_turned other after)
    ∙ ap (λ b. has_pair old before after || (b && (is_name before one && is_name after other))) (sym holds)

more_step : (units : List Name) (edge : Edge) (before after : Name) (p x y : Bool) → is_name before edge.before ≡ x → is_name after edge.after ≡ y →
    (is_between units (edge_of (before, after)) && p || (is_between units edge && (x && y))) ≡ (is_between units (edge_of (before, after)) && (p || (x && y)))
more_step units edge before after p true true one other =
    ap (λ b. is_between units (edge_of (before, after)) && p || (b && true))
    (ap (λ n. is_between units (edge_of (n, edge.after))) (sym (name_exact before edge.before one)) ∙ ap (λ n. is_between units (edge_of (before, n))) (sym (name_exact after edge.after other)))
    ∙ joined (is_between units (edge_of (before, after))) p
  where
    joined : (b p : Bool) → (b && p || (b && true)) ≡ (b && (p || true))
    joined true true = refl
    joined true false = refl
    joined false p = refl
more_step units edge before after p true false one other = none (is_between units (edge_of (before, after))) p (is_between units edge)
  where
    none : (b p c : Bool) → (b && p || (c && false)) ≡ (b && (p || false))
    none true true true = refl
    none true true false = refl
    none true false true = refl
    none true false false = refl
    none false p true = refl
    none false p false = refl
more_step units edge before after p false y one other = none (is_between units (edge_of (before, after))) p (is_between units edge)
  where
    none : (b p c : Bool) → (b && p || (c && false)) ≡ (b && (p || false))
    none true true true = refl
    none true true false = refl
    none true false true = refl
    none true false false = refl
    none false p true = refl
    none false p false = refl

-- a pair is added where the edge is between units
pub one_edge_more : (units : List Name) (edges further : List Edge) (old new : List (Name × Name)) (edge : Edge) (before after : Name) →
    has_pair old before after ≡ (is_between units (edge_of (before, after)) && is_before edges before after) →
    has_pair new before after ≡ (has_pair old before after || (is_between units edge && (is_name before edge.before && is_name after edge.after))) →
    is_before further before after ≡ (is_before edges before after || (is_name before edge.before && is_name after edge.after)) →
    has_pair new before after ≡ (is_between units (edge_of (before, after)) && is_before further before after)
one_edge_more units edges further old new edge before after so_far added more =
    added ∙ ap (λ b. b || (is_between units edge && (is_name before edge.before && is_name after edge.after))) so_far
    ∙ more_step units edge before after (is_before edges before after) (is_name before edge.before) (is_name after edge.after) refl refl
    ∙ ap (λ b. is_between units (edge_of (before, after)) && b) (sym more)

-- ---- pairs as edges

all_edges : (one : Name × Name) (pairs : List (Name × Name)) → AllByRecursion (λ pair. pair_cmp one pair ≡ Less) pairs → AllByRecursion (λ edge. edge_cmp (edge_of one) edge ≡ Less) (map edge_of pairs)
all_edges one [] all = tt
all_edges one (pair ∷ pairs) all = (all.0, all_edges one pairs all.1)

edges_sorted : (pairs : List (Name × Name)) → IsStrictlySortedBy pair_cmp pairs → IsStrictlySortedBy edge_cmp (map edge_of pairs)
unfolding IsStrictlySortedBy
edges_sorted [] sorted = tt
edges_sorted (pair ∷ pairs) sorted = (all_edges pair pairs sorted.0, edges_sorted pairs sorted.1)

edges_before : (pairs : List (Name × Name)) (before after : Name) → is_before (map edge_of pairs) before after ≡ has_pair pairs before after
edges_before [] before after = refl
edges_before (pair ∷ pairs) before after = ap (λ b. is_name before pair.0 && is_name after pair.1 || b) (edges_before pairs before after)

pair_at : (pairs : List (Name × Name)) (k : ℕ) (pair : Name × Name) → slice_get pairs k ≡ Some pair → has_pair pairs pair.0 pair.1 ≡ true
pair_at [] k pair at = absurd (let no : None ≡ Some pair = at in cc)
pair_at (one ∷ pairs) zero pair at =
    let same : one ≡ pair = cc in
    or_left (is_name pair.0 one.0 && is_name pair.1 one.1) (has_pair pairs pair.0 pair.1)
    (subst (λ (p : Name × Name). is_name pair.0 p.0 && is_name pair.1 p.1 ≡ true) (sym same) (both_from (is_name pair.0 pair.0) (is_name pair.1 pair.1) (name_itself pair.0) (name_itself pair.1)))
pair_at (one ∷ pairs) (suc k) pair at = or_right (is_name pair.0 one.0 && is_name pair.1 one.1) (has_pair pairs pair.0 pair.1) (pair_at pairs k pair at)

between_same : (xs ys : List Name) (edge : Edge) → ((name : Name) → has xs name ≡ has ys name) → is_between xs edge ≡ is_between ys edge
between_same xs ys edge same =
    ap (λ b. b && has xs edge.after && not (is_name edge.before edge.after)) (same edge.before) ∙ ap (λ b. has ys edge.before && b && not (is_name edge.before edge.after)) (same edge.after)

module _ (units set : List Name) (edges : List Edge) (pairs : List (Name × Name)) (all : (name : Name) → has set name ≡ has units name)
    (exact : (before after : Name) → has_pair pairs before after ≡ (is_between set (edge_of (before, after)) && is_before edges before after)) where
  pub kept_exact : (kept : List Edge) → kept ≡ map edge_of pairs → (before after : Name) → is_before kept before after ≡ (is_between units (edge_of (before, after)) && is_before edges before after)
  kept_exact kept is before after =
      ap (λ es. is_before es before after) is ∙ edges_before pairs before after ∙ exact before after
      ∙ ap (λ b. b && is_before edges before after) (between_same set units (edge_of (before, after)) all)

  first_of : (a b : Bool) → a && b ≡ true → a ≡ true
  first_of true b is = refl
  first_of false b is = is

  pub kept_edges : (kept : List Edge) → kept ≡ map edge_of pairs → IsStrictlySortedBy pair_cmp pairs → AreEdges units kept
  kept_edges kept is sorted = subst (AreEdges units) (sym is) (record { sorted = edges_sorted pairs sorted; between = each })
    where
      each : All (λ edge. IsTrue (is_between units edge)) (map edge_of pairs)
      each k d less =
          let pair = slice_index_or pairs k ([], []) in
          let there : slice_get pairs k ≡ Some pair = slice_get-get_or pairs k ([], []) (omega (arith, less, length-map pairs edge_of)) in
          let at : slice_get (map edge_of pairs) k ≡ Some (edge_of pair) = slice_get-map edge_of pairs k ∙ ap (option_map edge_of) there in
          let found : is_between set (edge_of pair) ≡ true = first_of (is_between set (edge_of pair)) (is_before edges pair.0 pair.1) (sym (exact pair.0 pair.1) ∙ pair_at pairs k pair there) in
          subst (λ (edge : Edge). is_between units edge ≡ true) (sym (get_or_from_slice_get (map edge_of pairs) k (edge_of pair) d at)) (sym (between_same set units (edge_of pair) all) ∙ found)
