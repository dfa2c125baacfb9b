-- Drop-ins in the order of their names.
use Rattle.std.proofs.Common.{◌≡◌, ℕ, zero, suc, ◌==◌, ◌↔◌, not, IsTrue, Bool, true, false, cond, List, [], ◌∷◌, ◌++◌, length, map, Option, Some, option_map, refl, sym, ap, ◌∙◌, arith}
use Rattle.std.specs.BTreeMap.{is_at}
use Rattle.std.proofs.lemmas.Bool.{ne_eqb}
use Rattle.std.specs.FinMap.{entries, entries-insert, find, from_entries, get-from_entries, put}
use Rattle.std.specs.FinMap as finite
use Rattle.std.specs.FinMap.Entries.{by_order}
use Rattle.std.specs.List.Sorted.{IsStrictlySortedBy}
use Rattle.std.specs.Map.{keys_of, lookup, values_of}
use Rattle.std.specs.Option.{option_or}
use Rattle.std.specs.Ordering.{eq_by_cmp}
use Rattle.std.specs.declared.cmp.Ordering.{Ordering}
use Rattle.std.specs.declared.cmp.Ordering.TheVariants.{Less, Equal, Greater}
use Rattle.host_trait.specs.World.{bytes_cmp}
use Rattle.host_trait.proofs.Places.{alike, bytes_total, found, ordered_entries}
use Rattle.host_trait.proofs.Orders.{none_sorted}

pub some_more : (n : ℕ) → (suc n == 0) ≡ false
some_more n = ne_eqb (suc n) 0 (λ e. omega arith)

module _ {X : Type 0} where
  none_there : entries (from_entries {X = X} {R = bytes_cmp} []) ≡ []
  none_there = ordered_entries [] none_sorted

  values_map : (es : List (List ℕ × X)) → map (λ (e : List ℕ × X). e.1) es ≡ values_of es
  values_map [] = refl
  values_map (e ∷ es) = ap (λ vs. e.1 ∷ vs) (values_map es)

  -- the values of entries that are in order
  pub ordered_values : (es : List (List ℕ × X)) → IsStrictlySortedBy bytes_cmp (keys_of es) → finite.values (from_entries {R = bytes_cmp} es) ≡ values_of es
  ordered_values es sorted = ap (map (λ (e : List ℕ × X). e.1)) (ordered_entries es sorted) ∙ values_map es

  put_some : (o : Ordering) (k : List ℕ) (v : X) (e : List ℕ × X) (es : List (List ℕ × X)) →
      (length (map (λ (e : List ℕ × X). e.1) (by_order o ((k, v) ∷ e ∷ es) ((e.0, v) ∷ es) (e ∷ put bytes_cmp k v es))) == 0) ≡ false
  put_some Less k v e es = some_more _
  put_some Equal k v e es = some_more _
  put_some Greater k v e es = some_more _

  puts_some : (k : List ℕ) (v : X) (es : List (List ℕ × X)) → (length (map (λ (e : List ℕ × X). e.1) (put bytes_cmp k v es)) == 0) ≡ false
  puts_some k v [] = some_more 0
  puts_some k v (e ∷ es) = put_some (bytes_cmp k e.0) k v e es

  -- there are none in order where there are none
  pub none_exactly : (es : List (List ℕ × X)) → (length (finite.values (from_entries {R = bytes_cmp} es)) == 0) ≡ (length es == 0)
  none_exactly [] = ap (λ (es : List (List ℕ × X)). length (map (λ (e : List ℕ × X). e.1) es) == 0) none_there
  none_exactly (e ∷ es) = ap (λ (es : List (List ℕ × X)). length (map (λ (e : List ℕ × X). e.1) es) == 0) (entries-insert bytes_total (from_entries es) e.0 e.1) ∙ puts_some e.0 e.1 (entries (from_entries es)) ∙ sym (some_more (length es))

  pub find-append : (q : List ℕ) (xs ys : List (List ℕ × X)) → find bytes_cmp q (xs ++ ys) ≡ option_or (find bytes_cmp q xs) (find bytes_cmp q ys)
  find-append q [] ys = refl
  find-append q (e ∷ xs) ys = ap (cond (eq_by_cmp bytes_cmp q e.0) (Some e.1)) (find-append q xs ys) ∙ choice (eq_by_cmp bytes_cmp q e.0) e.1 (find bytes_cmp q xs) (find bytes_cmp q ys)
    where
      choice : (b : Bool) (x : X) (o p : Option X) → cond b (Some x) (option_or o p) ≡ option_or (cond b (Some x) o) p
      choice true x o p = refl
      choice false x o p = refl

module _ {X Y : Type 0} (f : X → Y) where
  abbrev with : List ℕ × X → List ℕ × Y
  with e = (e.0, f e.1)

  put_with : (k : List ℕ) (v : X) (es : List (List ℕ × X)) → put bytes_cmp k (f v) (map with es) ≡ map with (put bytes_cmp k v es)
  put_with k v [] = refl
  put_with k v (e ∷ es) = by (bytes_cmp k e.0) (put_with k v es)
    where
      by : (o : Ordering) → put bytes_cmp k (f v) (map with es) ≡ map with (put bytes_cmp k v es) →
          by_order o ((k, f v) ∷ with e ∷ map with es) ((e.0, f v) ∷ map with es) (with e ∷ put bytes_cmp k (f v) (map with es))
          ≡ map with (by_order o ((k, v) ∷ e ∷ es) ((e.0, v) ∷ es) (e ∷ put bytes_cmp k v es))
      by Less rest = refl
      by Equal rest = refl
      by Greater rest = ap (λ t. with e ∷ t) rest

  entries_with : (es : List (List ℕ × X)) → entries (from_entries {R = bytes_cmp} (map with es)) ≡ map with (entries (from_entries {R = bytes_cmp} es))
  entries_with [] = none_there ∙ sym (ap (map with) none_there)
  entries_with (e ∷ es) =
      entries-insert bytes_total (from_entries (map with es)) e.0 (f e.1)
      ∙ ap (put bytes_cmp e.0 (f e.1)) (entries_with es)
      ∙ put_with e.0 e.1 (entries (from_entries es))
      ∙ sym (ap (map with) (entries-insert bytes_total (from_entries es) e.0 e.1))

  values_with : (es : List (List ℕ × X)) → map (λ (e : List ℕ × Y). e.1) (map with es) ≡ map f (map (λ (e : List ℕ × X). e.1) es)
  values_with [] = refl
  values_with (e ∷ es) = ap (λ vs. f e.1 ∷ vs) (values_with es)

  find_with : (q : List ℕ) (es : List (List ℕ × X)) → find bytes_cmp q (map with es) ≡ option_map f (find bytes_cmp q es)
  find_with q [] = refl
  find_with q (e ∷ es) = ap (cond (eq_by_cmp bytes_cmp q e.0) (Some (f e.1))) (find_with q es) ∙ choice (eq_by_cmp bytes_cmp q e.0) (find bytes_cmp q es)
    where
      choice : (b : Bool) (o : Option X) → cond b (Some (f e.1)) (option_map f o) ≡ option_map f (cond b (Some e.1) o)
      choice true o = refl
      choice false o = refl

  -- entries that have f of what others have, name by name, have it in the order of names
  pub same_in_name_order : (fs : List (List ℕ × Y)) (es : List (List ℕ × X)) → ((q : List ℕ) → lookup (is_at (bytes_cmp q)) fs ≡ option_map f (find bytes_cmp q es)) →
      finite.values (from_entries {R = bytes_cmp} fs) ≡ map f (finite.values (from_entries {R = bytes_cmp} es))
  same_in_name_order fs es same =
      ap finite.values (alike (from_entries fs) (from_entries (map with es)) (λ q. found fs q ∙ same q ∙ sym (find_with q es) ∙ sym (get-from_entries bytes_total (map with es) q)))
      ∙ ap (map (λ (e : List ℕ × Y). e.1)) (entries_with es)
      ∙ values_with (entries (from_entries es))

decided : (r : Bool) (n : ℕ) → IsTrue r ↔ (n ≡ 0) → r ≡ (n == 0)
decided true n is = let none : n ≡ 0 = is.0 refl in sym (ap (λ k. k == 0) none)
decided false zero is = is.1 refl
decided false (suc n) is = sym (some_more n)

-- whether there are drop-ins, in the order of names or not
pub has_some : {X : Type 0} (r : Bool) (es : List (List ℕ × X)) → IsTrue r ↔ (length es ≡ 0) → not r ≡ not (length (finite.values (from_entries {R = bytes_cmp} es)) == 0)
has_some r es is = ap not (decided r (length es) is ∙ sym (none_exactly es))

-- nothing is in order where nothing is
pub none_ordered : {X : Type 0} → [] ≡ finite.values (from_entries {X = X} {R = bytes_cmp} [])
none_ordered {X} = sym (ap (map (λ (e : List ℕ × X). e.1)) none_there)
