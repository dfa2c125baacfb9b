-- What is put too long, put by put.
use Rattle.std.proofs.Common.{◌≡◌, ◌<◌, ◌≤◌, ◌-◌, ◌++◌, ℕ, Bool, true, false, cond, drop, drop-cons, get_or, length, suc, List, [], ◌∷◌, Option, None, Some, refl, sym, ap, subst, ◌∙◌, arith}
use Rattle.std.proofs.lemmas.List.{drop_all}
use Rattle.std.specs.Ordering.{is_lt}
use Rattle.std.specs.List.{AllByRecursion}
use Rattle.host_trait.specs.World.{bytes_cmp}
use Rattle.leaf_limits.specs.declared.too_long.TooLong.{TooLong}
use Rattle.leaf_limits.specs.Limits.{first_long}
use Rattle.switch_parts.specs.Puts.{long_put, long_with}
use Rattle.tree_put.specs.declared.leaf_put.LeafPut.{LeafPut}

-- where neither of two is too long
pub none_long : (one other : Option TooLong) → one ≡ None → other ≡ None → first_long one other ≡ None
none_long one other first second = ap (λ (o : Option TooLong). first_long o other) first ∙ second

-- and where nothing is, neither of them is
pub long_parts : (one other : Option TooLong) → first_long one other ≡ None → (one ≡ None) × (other ≡ None)
long_parts None other none = (refl, none)
long_parts (Some one) None none = absurd cc
long_parts (Some one) (Some other) none = absurd (by (is_lt (bytes_cmp other.at one.at)) none)
  where
    by : (b : Bool) → cond b (Some other) (Some one) ≡ None → ⊥
    by true is = cc
    by false is = cc

-- one alone
pub long_alone : (one : Option TooLong) → first_long one None ≡ one
long_alone None = refl
long_alone (Some one) = refl

-- puts that follow others
pub long_after : (found : Option TooLong) (puts more : List LeafPut) → long_with found (puts ++ more) ≡ long_with (long_with found more) puts
long_after found [] more = refl
long_after found (put ∷ puts) more = ap (first_long (long_put put)) (long_after found puts more)

-- where none of some puts is too long, each of them isn't
pub each_short : (found : Option TooLong) (puts : List LeafPut) → long_with found puts ≡ None → AllByRecursion (λ put. long_put put ≡ None) puts
each_short found [] none = tt
each_short found (put ∷ puts) none = let parts = long_parts (long_put put) (long_with found puts) none in (parts.0, each_short found puts parts.1)

-- and where each of them isn't, none is
pub all_short : (puts : List LeafPut) → AllByRecursion (λ put. long_put put ≡ None) puts → long_with None puts ≡ None
all_short [] each = refl
all_short (put ∷ puts) each = none_long (long_put put) (long_with None puts) each.0 (all_short puts each.1)

-- ---- the last so many of some puts

pub long_none : (found : Option TooLong) (puts : List LeafPut) → long_with found (drop (length puts) puts) ≡ found
long_none found puts = ap (long_with found) (drop_all (length puts) puts (omega arith))

long_at : (found : Option TooLong) (puts : List LeafPut) (j : ℕ) (put : LeafPut) → j < length puts → put ≡ get_or puts j put →
    long_with found (drop j puts) ≡ first_long (long_put put) (long_with found (drop (suc j) puts))
long_at found puts j put within is = ap (long_with found) (drop-cons puts j put within ∙ ap (λ (p : LeafPut). p ∷ drop (suc j) puts) (sym is))

pub long_before : (found : Option TooLong) (puts : List LeafPut) (k : ℕ) (put : LeafPut) → 0 < k → k ≤ length puts → put ≡ get_or puts (k - 1) put →
    long_with found (drop (k - 1) puts) ≡ first_long (long_put put) (long_with found (drop k puts))
long_before found puts k put above inside is =
    let next : suc (k - 1) ≡ k = omega arith in
    subst (λ n. long_with found (drop (k - 1) puts) ≡ first_long (long_put put) (long_with found (drop n puts))) next (long_at found puts (k - 1) put (omega arith) is)
