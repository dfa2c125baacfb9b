-- A map of leaves that is copied entry by entry.
use Rattle.std.proofs.Common.{◌≡◌, ℕ, cond, List, [], ◌∷◌, None, Some, refl, sym, ap, ◌∙◌, inl, inr}
use Rattle.std.specs.BTreeMap.{is_at}
use Rattle.std.specs.FinMap.{empty, from_entries, get, get-empty, insert}
use Rattle.std.specs.List.Sorted.{IsStrictlySortedBy}
use Rattle.std.specs.Map.{keys_of, lookup}
use Rattle.std.specs.Option.{option_or}
use Rattle.switch_names.proofs.Outcomes.{option_or_none}
use Rattle.host_trait.specs.declared.leaf.LeafKind.{LeafKind}
use Rattle.host_trait.specs.World.{Leaves, bytes_cmp}
use Rattle.host_trait.proofs.NameOrder.{less_is_other}
use Rattle.host_trait.proofs.Orders.{AreAbove}
use Rattle.host_trait.proofs.Places.{alike, at_same, found, itself, same_or_other}
use Rattle.host_trait.proofs.Sound.{get_other}

-- the leaves so far and the entries that are left, which are in order, are those of a map
pub record AreRest (all copied : Leaves) (rest : List (List ℕ × LeafKind)) : Type 0 where
  pub sorted : IsStrictlySortedBy bytes_cmp (keys_of rest)
  pub each : (q : List ℕ) → option_or (lookup (is_at (bytes_cmp q)) rest) (get copied q) ≡ get all q

absent_above : (key : List ℕ) (rest : List (List ℕ × LeafKind)) → AreAbove (keys_of rest) key → lookup (is_at (bytes_cmp key)) rest ≡ None
absent_above key [] above = refl
absent_above key (e ∷ rest) above = ap (λ b. cond b (Some e.1) (lookup (is_at (bytes_cmp key)) rest)) (less_is_other key e.0 above.0) ∙ absent_above key rest above.1

pub none_copied : (es : List (List ℕ × LeafKind)) → IsStrictlySortedBy bytes_cmp (keys_of es) → AreRest (from_entries es) empty es
none_copied es sorted = record {
  sorted = sorted;
  each = λ q. ap (option_or (lookup (is_at (bytes_cmp q)) es)) (get-empty bytes_cmp q) ∙ option_or_none (lookup (is_at (bytes_cmp q)) es) ∙ sym (found es q);
}

pub one_copied : (all copied : Leaves) (key : List ℕ) (leaf : LeafKind) (rest : List (List ℕ × LeafKind)) → AreRest all copied ((key, leaf) ∷ rest) → AreRest all (insert copied key leaf) rest
unfolding IsStrictlySortedBy
one_copied all copied key leaf rest are = record {
  sorted = are.sorted.1;
  each = λ q. elim (same_or_other q key) [
    | inl same ↦
        ap (λ x. option_or (lookup (is_at (bytes_cmp x)) rest) (get (insert copied key leaf) x)) same
        ∙ ap (λ o. option_or o (get (insert copied key leaf) key)) (absent_above key rest are.sorted.0) ∙ at_same copied key leaf
        ∙ sym (ap (λ b. option_or (cond b (Some leaf) (lookup (is_at (bytes_cmp key)) rest)) (get copied key)) (itself key))
        ∙ are.each key ∙ ap (get all) (sym same)
    | inr other ↦
        ap (option_or (lookup (is_at (bytes_cmp q)) rest)) (get_other copied key q leaf other)
        ∙ sym (ap (λ b. option_or (cond b (Some leaf) (lookup (is_at (bytes_cmp q)) rest)) (get copied q)) other) ∙ are.each q
  ];
}

pub all_copied : (all copied : Leaves) → AreRest all copied [] → copied ≡ all
all_copied all copied are = alike _ _ are.each
