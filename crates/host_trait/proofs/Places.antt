-- A map of leaves, place by place.
use Rattle.std.proofs.Common.{◌≡◌, ◌⊎◌, ℕ, Bool, true, false, cond, List, [], ◌∷◌, ◌++◌, length, map, Option, None, Some, IsSome, refl, sym, ap, subst, ◌∙◌, inl, inr, rules, arith}
use Rattle.std.specs.BTreeMap.{is_at}
use Rattle.std.specs.Cmp.{IsTotalOrder, eq_by_cmp_equiv}
use Rattle.std.specs.Cmp.Lexicographic.{nat_list_cmp_total}
use Rattle.std.specs.FinMap.{FinMap, IsAntisymmetric, get, insert, remove, keys, entries, from_entries, find, put, same_map, gets, get-insert, get-remove, get-from_entries, entries-insert, empty, len-empty, len-entries, slice_cmp-IsAntisymmetric, nat_cmp-IsAntisymmetric}
use Rattle.std.proofs.lemmas.Grind.{common_steps}
use Rattle.std.specs.List.{filter}
use Rattle.std.specs.List.Sorted.{IsStrictlySortedBy}
use Rattle.std.specs.Map.{lookup, keys_of}
use Rattle.std.specs.Ordering.{eq_by_cmp, is_eq}
use Rattle.std.specs.declared.cmp.Ordering.TheVariants.{Less, Equal, Greater}
use Rattle.host_trait.specs.World.{bytes_cmp}

pub bytes_total : IsTotalOrder bytes_cmp
bytes_total = nat_list_cmp_total

pub bytes_exact : IsAntisymmetric bytes_cmp
bytes_exact = slice_cmp-IsAntisymmetric nat_cmp-IsAntisymmetric

module _ {X : Type 0} where
  -- maps that have the same at each place are equal
  pub alike : (m n : FinMap bytes_cmp X) → ((q : List ℕ) → get m q ≡ get n q) → m ≡ n
  alike m n same = same_map bytes_total bytes_exact m n same

  find_is_lookup : (es : List (List ℕ × X)) (q : List ℕ) → find bytes_cmp q es ≡ lookup (is_at (bytes_cmp q)) es
  find_is_lookup [] q = refl
  find_is_lookup (e ∷ es) q = ap (cond (is_at (bytes_cmp q) e.0) (Some e.1)) (find_is_lookup es q)

  -- what the map of some entries has at a place
  pub found : (es : List (List ℕ × X)) (q : List ℕ) → get (from_entries {R = bytes_cmp} es) q ≡ lookup (is_at (bytes_cmp q)) es
  found es q = get-from_entries bytes_total es q ∙ find_is_lookup es q

  -- entries that differ at one place, where they have a value, make maps that differ so
  pub given :
      (es fs : List (List ℕ × X)) (k : List ℕ) (v : X) →
      ((q : List ℕ) → lookup (is_at (bytes_cmp q)) fs ≡ cond (is_at (bytes_cmp k) q) (Some v) (lookup (is_at (bytes_cmp q)) es)) →
      from_entries {R = bytes_cmp} fs ≡ insert (from_entries es) k v
  given es fs k v is = alike _ _ (λ q.
      found fs q ∙ is q ∙ ap (λ b. cond b (Some v) (lookup (is_at (bytes_cmp q)) es)) ((eq_by_cmp_equiv bytes_total).symm k q)
      ∙ sym (get-insert bytes_total (from_entries es) k v q ∙ ap (cond (is_at (bytes_cmp q) k) (Some v)) (found es q)))

  -- and so where they have none
  pub gone :
      (es fs : List (List ℕ × X)) (k : List ℕ) →
      ((q : List ℕ) → lookup (is_at (bytes_cmp q)) fs ≡ cond (is_at (bytes_cmp k) q) None (lookup (is_at (bytes_cmp q)) es)) →
      from_entries {R = bytes_cmp} fs ≡ remove (from_entries es) k
  gone es fs k is = alike _ _ (λ q.
      found fs q ∙ is q ∙ ap (λ b. cond b None (lookup (is_at (bytes_cmp q)) es)) ((eq_by_cmp_equiv bytes_total).symm k q)
      ∙ sym (get-remove bytes_total (from_entries es) k q ∙ ap (cond (is_at (bytes_cmp q) k) None) (found es q)))

  entry_first : (k : List ℕ) (v : X) (es : List (List ℕ × X)) → IsStrictlySortedBy bytes_cmp (k ∷ keys_of es) → put bytes_cmp k v es ≡ (k, v) ∷ es
  unfolding IsStrictlySortedBy
  entry_first k v [] sorted = refl
  entry_first k v (e ∷ es) sorted = rw sorted.0.0

  no_entries : (es : List (List ℕ × X)) → length es ≡ 0 → es ≡ []
  no_entries [] e = refl
  no_entries (x ∷ es) e = absurd (omega arith)

  -- the entries of a map of sorted entries
  pub ordered_entries : (es : List (List ℕ × X)) → IsStrictlySortedBy bytes_cmp (keys_of es) → entries (from_entries {R = bytes_cmp} es) ≡ es
  unfolding IsStrictlySortedBy
  ordered_entries [] sorted = no_entries _ (sym (len-entries empty) ∙ len-empty bytes_cmp X)
  ordered_entries (e ∷ es) sorted =
      entries-insert bytes_total (from_entries es) e.0 e.1 ∙ ap (put bytes_cmp e.0 e.1) (ordered_entries es sorted.1) ∙ entry_first e.0 e.1 es sorted

  keys_map : (es : List (List ℕ × X)) → map (λ (e : List ℕ × X). e.0) es ≡ keys_of es
  keys_map [] = refl
  keys_map (e ∷ es) = ap (λ ks. e.0 ∷ ks) (keys_map es)

  -- the keys of a map of sorted entries
  pub ordered_keys : (es : List (List ℕ × X)) → IsStrictlySortedBy bytes_cmp (keys_of es) → keys (from_entries {R = bytes_cmp} es) ≡ keys_of es
  ordered_keys es sorted = ap (map (λ (e : List ℕ × X). e.0)) (ordered_entries es sorted) ∙ keys_map es

  pub at_same : (m : FinMap bytes_cmp X) (k : List ℕ) (v : X) → get (insert m k v) k ≡ Some v
  at_same m k v = grind (gets, rules)

-- two paths are equal or they aren't
pub same_or_other : (p q : List ℕ) → (p ≡ q) ⊎ (eq_by_cmp bytes_cmp p q ≡ false)
same_or_other p q =
    elim (bytes_cmp p q) as (λ r. bytes_cmp p q ≡ r → (p ≡ q) ⊎ (is_eq r ≡ false)) [
      | Less ↦ λ e. inr refl
      | Equal ↦ λ e. inl (bytes_exact p q e)
      | Greater ↦ λ e. inr refl
    ] refl

pub itself : (p : List ℕ) → eq_by_cmp bytes_cmp p p ≡ true
itself p = (eq_by_cmp_equiv bytes_total).refl p

-- what has a value has one
pub none_or_present : {X : Type 0} (o : Option X) → o ≡ None → IsSome o → ⊥
none_or_present o e is = cc

pub some_of : {X : Type 0} (o : Option X) → IsSome o → (x : X) × (o ≡ Some x)
some_of {X = X} None is = absurd (none_or_present {X = X} None refl is)
some_of (Some x) is = (x, refl)

-- a loop over items is at its end where none are left
pub filtered_all : {X : Type 0} (p : X → Bool) (out rest all : List X) → rest ≡ [] → out ++ filter p rest ≡ all → out ≡ all
filtered_all p out rest all none is =
    let at_end : out ++ filter p [] ≡ all = subst (λ r. out ++ filter p r ≡ all) none is in grind (arith, common_steps)
