-- The keys of a map are in the order of their bytes.
use Rattle.std.proofs.Common.{◌≡◌, ℕ, ◌&&◌, T, Bool, true, false, List, [], ◌∷◌, map, refl}
use Rattle.std.specs.FinMap.{FinMap, entries, entries_sorted, keys}
use Rattle.std.specs.FinMap.Entries.{below_all, is_sorted}
use Rattle.std.specs.List.Sorted.{IsStrictlySortedBy}
use Rattle.std.specs.Ordering.{is_lt}
use Rattle.std.specs.declared.cmp.Ordering.{Ordering}
use Rattle.std.specs.declared.cmp.Ordering.TheVariants.{Less, Equal, Greater}
use Rattle.host_trait.specs.Bytes.{bytes_cmp}
use Rattle.host_trait.proofs.Orders.{AreAbove}

-- what a test of an order says
pub less_from : (r : Ordering) → T (is_lt r) → r ≡ Less
less_from Less is = refl
less_from Equal is = absurd is
less_from Greater is = absurd is

-- the parts of two tests
pub left_of : (a b : Bool) → T (a && b) → T a
left_of true b both = tt
left_of false b both = both

pub right_of : (a b : Bool) → T (a && b) → T b
right_of true b both = both
right_of false b both = absurd both

module _ {X : Type 0} where
  -- a key that is lower than these entries
  pub keys_above : (key : List ℕ) (es : List (List ℕ × X)) → T (below_all bytes_cmp key es) → AreAbove (map (λ (e : List ℕ × X). e.0) es) key
  keys_above key [] below = tt
  keys_above key (e ∷ es) below = (less_from (bytes_cmp key e.0) (left_of _ _ below), keys_above key es (right_of (is_lt (bytes_cmp key e.0)) _ below))

  sorted_from : (es : List (List ℕ × X)) → T (is_sorted bytes_cmp es) → IsStrictlySortedBy bytes_cmp (map (λ (e : List ℕ × X). e.0) es)
  unfolding IsStrictlySortedBy
  sorted_from [] sorted = tt
  sorted_from (e ∷ es) sorted = (keys_above e.0 es (left_of _ _ sorted), sorted_from es (right_of (below_all bytes_cmp e.0 es) _ sorted))

  pub keys_sorted : (m : FinMap bytes_cmp X) → IsStrictlySortedBy bytes_cmp (keys m)
  keys_sorted m = sorted_from (entries m) (entries_sorted m)
