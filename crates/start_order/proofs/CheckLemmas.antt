-- What is ordered passes the check.
use Rattle.std.proofs.Common.{◌≡◌, ◌&&◌, ◌||◌, not, ℕ, zero, suc, Bool, true, List, [], ◌∷◌, None, Some, refl, sym, ap, subst, ◌∙◌, ⊎_elim, arith}
use Rattle.std.specs.List.{list_all, position_or_len, slice_get}
use Rattle.std.proofs.lemmas.Bool.{or_left, or_right}
use Rattle.std.proofs.lemmas.Option.{get_or_from_slice_get, slice_get_within}
use Rattle.host_trait.proofs.NameOrder.{name_itself}
use Rattle.start_order.specs.declared.edge.Edge.{Edge}
use Rattle.start_order.specs.declared.ordered.Ordered.{Ordered}
use Rattle.start_order.specs.Check.{stand_once, is_ahead, is_kept}
use Rattle.start_order.specs.Cycles.{IsOnce}
use Rattle.start_order.specs.Edges.{AreEdges, is_between}
use Rattle.start_order.specs.Laws.{CheckLaw, IsRearranged}
use Rattle.start_order.specs.Order.{is_before}
use Rattle.start_order.specs.Ordered.{IsOrdered}
use Rattle.start_order.proofs.OrderLemmas.{at_place, both_from, both_of, edge_law, not_true, rearranged_law}
use Rattle.start_order.proofs.WalkLemmas.{at_first_place}
use Rattle.switch_names.specs.Names.{Name, has, is_name}

-- names that stand in a list once are distinct
distinct : (names : List Name) → IsOnce names → stand_once names ≡ true
distinct [] once = refl
distinct (name ∷ names) once =
    both_from (not (has names name)) (stand_once names)
    (ap not (not_true (has names name) (λ there. let at = at_place names name there in let same : zero ≡ suc at.0 = once zero (suc at.0) name refl at.1 in absurd (omega (arith, same)))))
    (distinct names (λ j k one first second. less_one (once (suc j) (suc k) one first second)))
  where
    less_one : {j k : ℕ} → suc j ≡ suc k → j ≡ k
    less_one same = omega (arith, same)

-- an edge that is given is one
edge_is : (edges : List Edge) (k : ℕ) (edge : Edge) → slice_get edges k ≡ Some edge → is_before edges edge.before edge.after ≡ true
edge_is [] k edge at = absurd (let no : None ≡ Some edge = at in cc)
edge_is (one ∷ edges) zero edge at =
    let same : one ≡ edge = cc in
    or_left (is_name edge.before one.before && is_name edge.after one.after) (is_before edges edge.before edge.after)
    (subst (λ (e : Edge). is_name edge.before e.before && is_name edge.after e.after ≡ true) (sym same)
    (both_from (is_name edge.before edge.before) (is_name edge.after edge.after) (name_itself edge.before) (name_itself edge.after)))
edge_is (one ∷ edges) (suc k) edge at =
    or_right (is_name edge.before one.before && is_name edge.after one.after) (is_before edges edge.before edge.after) (edge_is edges k edge at)

all_kept : (test : Edge → Bool) (edges : List Edge) → ((k : ℕ) (edge : Edge) → slice_get edges k ≡ Some edge → test edge ≡ true) → list_all test edges ≡ true
all_kept test [] each = refl
all_kept test (edge ∷ edges) each = both_from (test edge) (list_all test edges) (each zero edge refl) (all_kept test edges (λ k. each (suc k)))

module _ (units : List Name) (edges : List Edge) (ordered : Ordered) (given : AreEdges units edges) (is : IsOrdered units edges ordered) where
  same : IsRearranged units ordered.units
  same = rearranged_law units edges ordered.units is.order

  kept : (k : ℕ) (edge : Edge) → slice_get edges k ≡ Some edge → is_kept ordered.units ordered.broken edge ≡ true
  kept k edge at =
      let between : is_between units edge ≡ true =
      subst (λ (one : Edge). is_between units one ≡ true) (get_or_from_slice_get edges k edge edge at) (given.between k edge (slice_get_within edges k edge at)) in
      let ends = both_of (has units edge.before) (has units edge.after) (both_of (has units edge.before && has units edge.after) (not (is_name edge.before edge.after)) between).0 in
      let after : has ordered.units edge.after ≡ true = same.same edge.after ∙ ends.1 in
      both_from (has ordered.units edge.before && has ordered.units edge.after) (is_ahead ordered.units edge.before edge.after || has ordered.broken edge.after)
      (both_from (has ordered.units edge.before) (has ordered.units edge.after) (same.same edge.before ∙ ends.0) after)
      (⊎_elim (or_left (is_ahead ordered.units edge.before edge.after) (has ordered.broken edge.after))
      (λ broken. or_right (is_ahead ordered.units edge.before edge.after) (has ordered.broken edge.after) ((is.broken.exact edge.after).1 broken))
      (edge_law units edges ordered.units edge.before edge.after (position_or_len (is_name edge.after) ordered.units) is.order (edge_is edges k edge at) ends.0
      (at_first_place ordered.units edge.after after)))

pub check_law : CheckLaw
check_law units edges ordered given is =
    both_from (stand_once ordered.units) (list_all (is_kept ordered.units ordered.broken) ordered.edges)
    (distinct ordered.units (rearranged_law units edges ordered.units is.order).once)
    (ap (list_all (is_kept ordered.units ordered.broken)) is.given ∙ all_kept (is_kept ordered.units ordered.broken) edges (kept units edges ordered given is))
