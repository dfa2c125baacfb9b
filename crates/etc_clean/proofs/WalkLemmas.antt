-- A walk along names in byte order.
use Rattle.std.proofs.Common.{◌≡◌, ◌≤◌, ◌+◌, ◌||◌, ℕ, zero, suc, false, List, [], ◌∷◌, length, take, Some, refl, sym, ap, subst, ◌∙◌, arith}
use Rattle.std.specs.List.{slice_get}
use Rattle.std.specs.List.Sorted.{IsStrictlySortedBy}
use Rattle.std.specs.declared.cmp.Ordering.TheVariants.{Less}
use Rattle.switch_names.specs.Names.{Name, has}
use Rattle.host_trait.specs.World.{bytes_cmp}
use Rattle.host_trait.proofs.NameOrder.{above_lack}
use Rattle.host_trait.proofs.Orders.{AreAbove, AreBelow, all_below}
use Rattle.host_trait.proofs.Places.{bytes_total}
use Rattle.etc_clean.proofs.SearchLemmas.{lower_other}

above_at : (a : Name) (ks : List Name) (at : ℕ) (k : Name) → AreAbove ks a → slice_get ks at ≡ Some k → bytes_cmp a k ≡ Less
above_at a [] zero k above is = absurd (cc)
above_at a [] (suc at) k above is = absurd (cc)
above_at a (x ∷ ks) zero k above is = let same : x ≡ k = cc in subst (λ y. bytes_cmp a y ≡ Less) same above.0
above_at a (x ∷ ks) (suc at) k above is = above_at a ks at k above.1 is

below_until : (name : Name) (ks : List Name) (at : ℕ) (k : Name) → IsStrictlySortedBy bytes_cmp ks → slice_get ks at ≡ Some k → bytes_cmp k name ≡ Less → AreBelow (take (suc at) ks) name
unfolding IsStrictlySortedBy
below_until name [] zero k sorted is less = absurd (cc)
below_until name [] (suc at) k sorted is less = absurd (cc)
below_until name (x ∷ ks) zero k sorted is less = let same : x ≡ k = cc in (subst (λ y. bytes_cmp y name ≡ Less) (sym same) less, tt)
below_until name (x ∷ ks) (suc at) k sorted is less = (bytes_total.trans x k name (above_at x ks at k sorted.0 is) less, below_until name ks at k sorted.1 is less)

-- where one comes before a name, so do those before it
pub passed_one : (name : Name) (ks : List Name) (at n : ℕ) (k : Name) → n ≡ at + 1 → IsStrictlySortedBy bytes_cmp ks → slice_get ks at ≡ Some k → bytes_cmp k name ≡ Less → AreBelow (take n ks) name
passed_one name ks at n k is sorted there less =
    let next : suc at ≡ n = omega (arith, is) in
    subst (λ m. AreBelow (take m ks) name) next (below_until name ks at k sorted there less)

-- where those before one come before a name, and that one after it, the name is none of them
pub passed_none : (name : Name) (ks : List Name) (at : ℕ) (k : Name) → IsStrictlySortedBy bytes_cmp ks → AreBelow (take at ks) name → slice_get ks at ≡ Some k → bytes_cmp name k ≡ Less → has ks name ≡ false
unfolding IsStrictlySortedBy
passed_none name [] zero k sorted below is less = absurd (cc)
passed_none name [] (suc at) k sorted below is less = absurd (cc)
passed_none name (x ∷ ks) zero k sorted below is less =
    let same : x ≡ k = cc in
    let before : bytes_cmp name x ≡ Less = subst (λ y. bytes_cmp name y ≡ Less) (sym same) less in
    above_lack name (x ∷ ks) (before, all_below name x ks before sorted.0)
passed_none name (x ∷ ks) (suc at) k sorted below is less = ap (λ b. b || has ks name) (lower_other x name below.0) ∙ passed_none name ks at k sorted.1 below.1 is less

-- and so it is where all come before it
pub passed_all : (name : Name) (ks : List Name) (at : ℕ) → length ks ≤ at → AreBelow (take at ks) name → has ks name ≡ false
passed_all name [] at within below = refl
passed_all name (x ∷ ks) zero within below = absurd (omega (arith, within))
passed_all name (x ∷ ks) (suc at) within below = ap (λ b. b || has ks name) (lower_other x name below.0) ∙ passed_all name ks at (omega (arith, within)) below.1
