-- Edges in order are told by what they put before what.
use Rattle.std.proofs.Common.{◌≡◌, ◌&&◌, ◌||◌, List, [], ◌∷◌, map, refl, sym, ap, ◌∙◌}
use Rattle.std.specs.Cmp.{IsTotalOrder, on_total, then_total}
use Rattle.std.specs.FinMap.{IsAntisymmetric}
use Rattle.std.specs.List.{AllByRecursion}
use Rattle.std.specs.List.Sorted.{IsStrictlySortedBy}
use Rattle.std.specs.Ordering.{ordering_then}
use Rattle.std.specs.declared.cmp.Ordering.{Ordering}
use Rattle.std.specs.declared.cmp.Ordering.TheVariants.{Less, Equal, Greater}
use Rattle.std.proofs.lemmas.Map.Lookups.{btree_set_from_contains}
use Rattle.host_trait.specs.Bytes.{bytes_cmp}
use Rattle.host_trait.proofs.Places.{bytes_total, bytes_exact}
use Rattle.switch_names.specs.Names.{Name, is_name}
use Rattle.start_order.specs.declared.edge.Edge.{Edge}
use Rattle.start_order.specs.Edges.{edge_cmp, edge_of, has_pair, pair_cmp}
use Rattle.start_order.specs.Laws.{OneEdgesLaw}
use Rattle.start_order.specs.Order.{is_before}
use Rattle.start_order.proofs.BetweenLemmas.{pair_among}

pair_of : Edge → Name × Name
pair_of edge = (edge.before, edge.after)

pair_total : IsTotalOrder pair_cmp
pair_total = then_total (on_total (λ (pair : Name × Name). pair.0) bytes_total) (on_total (λ (pair : Name × Name). pair.1) bytes_total)

pair_exact : IsAntisymmetric pair_cmp
pair_exact one other is = by (bytes_cmp one.0 other.0) refl is
  where
    by : (order : Ordering) → bytes_cmp one.0 other.0 ≡ order → ordering_then order (bytes_cmp one.1 other.1) ≡ Equal → one ≡ other
    by Less first is = absurd (let no : Less ≡ Equal = is in cc)
    by Greater first is = absurd (let no : Greater ≡ Equal = is in cc)
    by Equal first is = let before = bytes_exact one.0 other.0 first in let after = bytes_exact one.1 other.1 is in λ i. (before i, after i)

all_pairs : (one : Edge) (edges : List Edge) → AllByRecursion (λ edge. edge_cmp one edge ≡ Less) edges → AllByRecursion (λ pair. pair_cmp (pair_of one) pair ≡ Less) (map pair_of edges)
unfolding pair_of
all_pairs one [] all = tt
all_pairs one (edge ∷ edges) all = (all.0, all_pairs one edges all.1)

pairs_sorted : (edges : List Edge) → IsStrictlySortedBy edge_cmp edges → IsStrictlySortedBy pair_cmp (map pair_of edges)
unfolding IsStrictlySortedBy
pairs_sorted [] sorted = tt
pairs_sorted (edge ∷ edges) sorted = (all_pairs edge edges sorted.0, pairs_sorted edges sorted.1)

pairs_before : (edges : List Edge) (before after : Name) → has_pair (map pair_of edges) before after ≡ is_before edges before after
unfolding pair_of
pairs_before [] before after = refl
pairs_before (edge ∷ edges) before after = ap (λ b. is_name before edge.before && is_name after edge.after || b) (pairs_before edges before after)

back : (edges : List Edge) → map edge_of (map pair_of edges) ≡ edges
unfolding pair_of
back [] = refl
back (edge ∷ edges) = ap (λ rest. edge ∷ rest) (back edges)

pub one_edges_law : OneEdgesLaw
one_edges_law units one other is also same =
    let pairs : map pair_of one ≡ map pair_of other =
    btree_set_from_contains pair_total (record { keys = map pair_of one }) (record { keys = map pair_of other }) (pairs_sorted one is.sorted) (pairs_sorted other also.sorted)
    (λ pair.
    pair_among (map pair_of one) pair.0 pair.1 ∙ pairs_before one pair.0 pair.1 ∙ same pair.0 pair.1 ∙ sym (pairs_before other pair.0 pair.1) ∙ sym (pair_among (map pair_of other) pair.0 pair.1))
    pair_exact in
    sym (back one) ∙ ap (map edge_of) pairs ∙ back other
