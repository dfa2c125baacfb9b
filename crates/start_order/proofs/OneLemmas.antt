-- There is one answer.
use Rattle.std.proofs.Common.{◌≡◌, ◌<◌, ◌≤◌, ◌++◌, ℕ, zero, suc, true, List, [], ◌∷◌, length, drop, Option, Some, refl, sym, ap, subst, ◌∙◌, slice_index_or, arith, length-append}
use Rattle.std.specs.List.{slice_get}
use Rattle.std.proofs.lemmas.Map.Lookups.{btree_set_from_contains}
use Rattle.std.proofs.lemmas.Option.{slice_get-get_or, slice_get_within}
use Rattle.host_trait.proofs.Places.{bytes_total, bytes_exact}
use Rattle.switch_names.specs.Names.{IsListOf, Name, has}
use Rattle.start_order.specs.declared.edge.Edge.{Edge}
use Rattle.start_order.specs.declared.ordered.Cycle.{Cycle}
use Rattle.start_order.specs.Cycles.{AreCycles, IsCycle, IsWalk}
use Rattle.start_order.specs.Laws.{OneAnswerLaw, OneCycleLaw}
use Rattle.start_order.specs.Order.{IsBroken, left_of}
use Rattle.start_order.proofs.CycleLemmas.{get_behind, get_front}
use Rattle.start_order.proofs.OrderLemmas.{one_order_law, placed, same_test}

-- ---- one cycle

same_some : {o : Option Name} {x y : Name} → o ≡ Some x → o ≡ Some y → x ≡ y
same_some one two = cc

module _ (edges : List Edge) (left : List Name) where
  -- walks that begin alike go on alike
  alike : (xs ys : List Name) (k : ℕ) → IsWalk edges left xs → IsWalk edges left ys → slice_get xs 0 ≡ slice_get ys 0 → k < length xs → k < length ys → slice_get xs k ≡ slice_get ys k
  alike xs ys zero one two begin within within_too = begin
  alike xs ys (suc k) one two begin within within_too =
      let before = alike xs ys k one two begin (omega (arith, within)) (omega (arith, within_too)) in
      let here : slice_get xs k ≡ Some (slice_index_or xs k []) = slice_get-get_or xs k [] (omega (arith, within)) in
      let next : slice_get xs (suc k) ≡ Some (slice_index_or xs (suc k) []) = slice_get-get_or xs (suc k) [] within in
      let after : slice_get ys (suc k) ≡ Some (slice_index_or ys (suc k) []) = slice_get-get_or ys (suc k) [] within_too in
      next
      ∙ ap (λ n. Some n)
      (same_some (one k (slice_index_or xs k []) (slice_index_or xs (suc k) []) here next) (two k (slice_index_or xs k []) (slice_index_or ys (suc k) []) (sym before ∙ here) after))
      ∙ sym after

at_end : (xs ys : List Name) (x : Name) → slice_get ys 0 ≡ Some x → slice_get (xs ++ ys) (length xs) ≡ Some x
at_end [] ys x is = is
at_end (z ∷ xs) ys x is = at_end xs ys x is

drop_front : (xs ys : List Name) → drop (length xs) (xs ++ ys) ≡ ys
drop_front [] [] = refl
drop_front [] (y ∷ ys) = refl
drop_front (x ∷ xs) ys = drop_front xs ys

same_items : {X : Type 0} (xs ys : List X) → length xs ≡ length ys → ((k : ℕ) → k < length xs → slice_get xs k ≡ slice_get ys k) → xs ≡ ys
same_items [] [] many each = refl
same_items [] (y ∷ ys) many each = absurd (omega (arith, many))
same_items (x ∷ xs) [] many each = absurd (omega (arith, many))
same_items (x ∷ xs) (y ∷ ys) many each =
    let first : x ≡ y = some_same (each zero (omega arith)) in
    let rest = same_items xs ys (omega (arith, many)) (λ k less. each (suc k) (omega (arith, less))) in
    λ i. first i ∷ rest i
  where
    some_same : Some x ≡ Some y → x ≡ y
    some_same is = cc

module _ (edges : List Edge) (left : List Name) (unit : Name) where
  walk_of : (cycle : List Name) → IsCycle edges left unit cycle → List Name
  walk_of cycle is = is.lead ++ cycle

  begins : (cycle : List Name) (is : IsCycle edges left unit cycle) → slice_get ((is.lead ++ cycle) ++ is.first ∷ []) 0 ≡ Some unit
  begins cycle is = get_front (is.lead ++ cycle) (is.first ∷ []) 0 unit is.begins

  -- two walks from a unit have the same units as far as both go
  both_have : (one other : List Name) (is : IsCycle edges left unit one) (also : IsCycle edges left unit other) (k : ℕ) → k ≤ length (is.lead ++ one) → k ≤ length (also.lead ++ other) →
      slice_get ((is.lead ++ one) ++ is.first ∷ []) k ≡ slice_get ((also.lead ++ other) ++ also.first ∷ []) k
  both_have one other is also k within within_too =
      alike edges left ((is.lead ++ one) ++ is.first ∷ []) ((also.lead ++ other) ++ also.first ∷ []) k is.steps also.steps (begins one is ∙ sym (begins other also))
      (omega (arith, within, length-append (is.lead ++ one) (is.first ∷ []))) (omega (arith, within_too, length-append (also.lead ++ other) (also.first ∷ [])))

  first_place : (cycle : List Name) (is : IsCycle edges left unit cycle) → slice_get (is.lead ++ cycle) (length is.lead) ≡ Some is.first
  first_place cycle is = at_end is.lead cycle is.first is.comes_again

  -- no walk goes on beyond where another one comes again
  no_longer : (one other : List Name) (is : IsCycle edges left unit one) (also : IsCycle edges left unit other) → length (is.lead ++ one) < length (also.lead ++ other) → ⊥
  no_longer one other is also less =
      let walk = is.lead ++ one in
      let longer = also.lead ++ other in
      let place = length is.lead in
      let within = slice_get_within walk place is.first (first_place one is) in
      let there : slice_get longer place ≡ Some is.first =
      front_of longer also.first place is.first (omega (arith, within, less)) (sym (both_have one other is also place (omega (arith, within)) (omega (arith, within, less))) ∙ get_front walk (is.first ∷ []) place is.first (first_place one is)) in
      let again : slice_get longer (length walk) ≡ Some is.first =
      front_of longer also.first (length walk) is.first less (sym (both_have one other is also (length walk) (omega arith) (omega (arith, less))) ∙ get_behind walk is.first) in
      let same = also.once place (length walk) is.first there again in
      omega (arith, same, within)
    where
      front_of : (xs : List Name) (y : Name) (k : ℕ) (x : Name) → k < length xs → slice_get (xs ++ y ∷ []) k ≡ Some x → slice_get xs k ≡ Some x
      front_of [] y k x less at = absurd (omega (arith, less))
      front_of (z ∷ xs) y zero x less at = at
      front_of (z ∷ xs) y (suc k) x less at = front_of xs y k x (omega (arith, less)) at

  pub one_cycle : (one other : List Name) → IsCycle edges left unit one → IsCycle edges left unit other → one ≡ other
  one_cycle one other is also =
      let walk = is.lead ++ one in
      let walk_too = also.lead ++ other in
      let many : length walk ≡ length walk_too = by_length (length walk) (length walk_too) (no_longer one other is also) (no_longer other one also is) in
      let all : walk ++ is.first ∷ [] ≡ walk_too ++ also.first ∷ [] =
      same_items (walk ++ is.first ∷ []) (walk_too ++ also.first ∷ []) (omega (arith, many, length-append walk (is.first ∷ []), length-append walk_too (also.first ∷ [])))
      (λ k less. both_have one other is also k (omega (arith, less, length-append walk (is.first ∷ []))) (omega (arith, less, many, length-append walk (is.first ∷ [])))) in
      let firsts : is.first ≡ also.first =
      same_some (get_behind walk is.first) (ap (λ names. slice_get names (length walk)) all ∙ ap (slice_get (walk_too ++ also.first ∷ [])) many ∙ get_behind walk_too also.first) in
      let walks : walk ≡ walk_too = same_items walk walk_too many (λ k less. front_same walk walk_too is.first also.first k less (omega (arith, less, many)) (ap (λ names. slice_get names k) all)) in
      let places : length is.lead ≡ length also.lead =
      also.once (length is.lead) (length also.lead) also.first (ap (λ names. slice_get names (length is.lead)) (sym walks) ∙ first_place one is ∙ ap (λ n. Some n) firsts) (first_place other also) in
      sym (drop_front is.lead one) ∙ ap (drop (length is.lead)) walks ∙ ap (λ n. drop n walk_too) places ∙ drop_front also.lead other
    where
      by_length : (j k : ℕ) → (j < k → ⊥) → (k < j → ⊥) → j ≡ k
      by_length zero zero below above = refl
      by_length zero (suc k) below above = absurd (below (omega arith))
      by_length (suc j) zero below above = absurd (above (omega arith))
      by_length (suc j) (suc k) below above = ap suc (by_length j k (λ less. below (omega (arith, less))) (λ less. above (omega (arith, less))))

      front_same : (xs ys : List Name) (x y : Name) (k : ℕ) → k < length xs → k < length ys → slice_get (xs ++ x ∷ []) k ≡ slice_get (ys ++ y ∷ []) k → slice_get xs k ≡ slice_get ys k
      front_same [] ys x y k less less_too same = absurd (omega (arith, less))
      front_same (z ∷ xs) [] x y k less less_too same = absurd (omega (arith, less_too))
      front_same (z ∷ xs) (w ∷ ys) x y zero less less_too same = same
      front_same (z ∷ xs) (w ∷ ys) x y (suc k) less less_too same = front_same xs ys x y k (omega (arith, less)) (omega (arith, less_too)) same

pub one_cycle_law : OneCycleLaw
one_cycle_law edges left unit one other is also = one_cycle edges left unit one other is also

-- ---- one answer

one_list : (P : Name → Type 0) (one other : List Name) → IsListOf one P → IsListOf other P → one ≡ other
one_list P one other is also =
    btree_set_from_contains bytes_total (record { keys = one }) (record { keys = other }) is.sorted also.sorted
    (λ name. same_test (has one name) (has other name) (λ there. (also.exact name).1 ((is.exact name).0 there)) (λ there. (is.exact name).1 ((also.exact name).0 there))) bytes_exact

module _ (units : List Name) (edges : List Edge) (order broken : List Name) (are_broken : (name : Name) → has broken name ≡ true → IsBroken units edges order name) where
  one_list_of_cycles : (one other : List Cycle) → AreCycles units edges order broken one → AreCycles units edges order broken other → one ≡ other
  one_list_of_cycles one other is also = same_items one other (is.many ∙ sym also.many) (λ k less. at_place k less)
    where
      same_cycle : (x y : Cycle) → x.units ≡ y.units → x ≡ y
      same_cycle x y same = λ i. record { units = same i }

      no_cycle : Cycle
      no_cycle = record { units = [] }

      at_place : (k : ℕ) → k < length one → slice_get one k ≡ slice_get other k
      at_place k less =
          let x = slice_index_or one k no_cycle in
          let y = slice_index_or other k no_cycle in
          let unit = slice_index_or broken k [] in
          let many = is.many in
          let many_too = also.many in
          let first : slice_get one k ≡ Some x = slice_get-get_or one k no_cycle less in
          let second : slice_get other k ≡ Some y = slice_get-get_or other k no_cycle (omega (arith, less, many, many_too)) in
          let there : slice_get broken k ≡ Some unit = slice_get-get_or broken k [] (omega (arith, less, many)) in
          let turn = are_broken unit (placed broken k unit there) in
          first
          ∙ ap (λ (c : Cycle). Some c) (same_cycle x y (one_cycle edges (left_of units _) unit x.units y.units (is.each k turn.turn unit x there first turn.taken) (also.each k turn.turn unit y there second turn.taken)))
          ∙ sym second

pub one_answer_law : OneAnswerLaw
one_answer_law units edges one other is also =
    let orders : one.units ≡ other.units = one_order_law units edges one.units other.units is.order also.order in
    let given : one.edges ≡ other.edges = is.given ∙ sym also.given in
    let broken : one.broken ≡ other.broken = one_list (IsBroken units edges other.units) one.broken other.broken (subst (λ order. IsListOf one.broken (IsBroken units edges order)) orders is.broken) also.broken in
    let cycles : one.cycles ≡ other.cycles =
    one_list_of_cycles units edges other.units other.broken (λ name there. (also.broken.exact name).0 there) one.cycles other.cycles
    (subst (λ names. AreCycles units edges other.units names one.cycles) broken (subst (λ order. AreCycles units edges order one.broken one.cycles) orders is.cycles)) also.cycles in
    λ i. record { units = orders i; edges = given i; broken = broken i; cycles = cycles i }
