-- Leaves below a path: the first key from the least path below it on tells of all.
use Rattle.std.proofs.Common.{◌≡◌, ◌≢◌, ℕ, zero, suc, ◌+◌, ◌≤◌, true, false, nat_lt, position, List, [], ◌∷◌, ◌++◌, length, Option, None, Some, IsSome, option_map, refl, sym, ap, subst, ◌∙◌, inl, inr, arith, append_assoc, length-append}
use Rattle.std.proofs.lemmas.Bool.{both_ways, cases_Bool}
use Rattle.std.proofs.lemmas.List.Elements.{All-head}
use Rattle.std.specs.FinMap.{get, keys}
use Rattle.std.specs.List.{list_any}
use Rattle.std.specs.Ordering.{is_gt, nat_cmp, ordering_then}
use Rattle.std.specs.declared.cmp.Ordering.{Ordering}
use Rattle.std.specs.declared.cmp.Ordering.TheVariants.{Less, Equal, Greater}
use Rattle.switch_names.specs.declared.name_fault.NameFault.TheVariants.{Byte, Dot}
use Rattle.switch_names.specs.Path.{IsPath, fault_after, is_below, is_dots, is_no_path_byte, names_of, path_fault, slash}
use Rattle.switch_names.specs.Texts.{is_empty}
use Rattle.switch_names.proofs.Below.{rest_below}
use Rattle.switch_names.proofs.Faultless.{HasNone-from_sought, no_place}
use Rattle.switch_names.proofs.Joined.{both_paths, fault_joined, path_short}
use Rattle.switch_names.proofs.Positions.{All-from_no_position}
use Rattle.host_trait.specs.World.{Leaves, bytes_cmp}
use Rattle.host_trait.proofs.Fronts.{below_is_front, between, cmp_after}
use Rattle.host_trait.proofs.KeyTests.{all_fail, one_passes}
use Rattle.host_trait.proofs.Places.{bytes_exact, bytes_total, none_or_present}

-- the least path below another: its name is the least byte that a name has
abbrev pub least_below : List ℕ → List ℕ
least_below at = at ++ slash ∷ 1 ∷ []

no_zero : (more : List ℕ) → IsPath (zero ∷ more) → ⊥
no_zero more is =
    let text : List ℕ = zero ∷ more in
    let none = HasNone-from_sought (list_any is_empty (names_of text)) (nat_lt 4096 (length text)) (option_map Byte (position is_no_path_byte text)) (list_any is_dots (names_of text)) Dot is in
    let bytes = All-from_no_position is_no_path_byte text (no_place Byte (position is_no_path_byte text) none.no_byte) in
    both_ways _ (All-head (λ byte. is_no_path_byte byte ≡ false) zero more bytes) refl

-- the text of one least byte is the least path
least_name : (name : List ℕ) → IsPath name → is_gt (bytes_cmp (1 ∷ []) name) ≡ false
least_name [] is = absurd cc
least_name (zero ∷ more) is = absurd (no_zero more is)
least_name (suc zero ∷ []) is = refl
least_name (suc zero ∷ b ∷ more) is = refl
least_name (suc (suc n) ∷ more) is =
    let less : nat_cmp 1 (suc (suc n)) ≡ Less = grind arith in ap (λ r. is_gt (ordering_then r (bytes_cmp [] more))) less

-- it is no greater than what lies below
pub least_is_least : (at q : List ℕ) → IsPath q → is_below q at ≡ true → is_gt (bytes_cmp (least_below at) q) ≡ false
least_is_least at q path line =
    let rest = rest_below q at line in
    let name = (both_paths at rest.0 (subst IsPath rest.1 path)).1 in
    ap (λ x. is_gt (bytes_cmp (least_below at) x)) rest.1 ∙ ap is_gt (cmp_after at (slash ∷ 1 ∷ []) (slash ∷ rest.0)) ∙ least_name rest.0 name

-- where no least path can be made, no path lies below
pub none_to_make : (at q : List ℕ) → IsPath q → is_below q at ≡ true → path_fault (least_below at) ≡ None
none_to_make at q path line =
    let rest = rest_below q at line in
    let both = both_paths at rest.0 (subst IsPath rest.1 path) in
    let short : length (at ++ slash ∷ rest.0) ≤ 4096 = subst (λ x. length x ≤ 4096) rest.1 (path_short q path) in
    sym (fault_joined at (1 ∷ []) both.0) ∙ short_enough (length at + 1) (fits (length at) rest.0 (length-append at (slash ∷ rest.0)) short both.1)
  where
    short_enough : (before : ℕ) → nat_lt 4096 (before + 1) ≡ false → fault_after before (1 ∷ []) ≡ None
    short_enough before fits = rw fits

    fits : (len : ℕ) (rest : List ℕ) → length (at ++ slash ∷ rest) ≡ len + length (slash ∷ rest) → length (at ++ slash ∷ rest) ≤ 4096 → IsPath rest → nat_lt 4096 (len + 1 + 1) ≡ false
    fits len [] is short path = absurd (let no : path_fault [] ≡ None = path in cc)
    fits len (b ∷ rest) is short path = grind (arith, is, short)

from_least : (at k : List ℕ) (r : Ordering) → bytes_cmp (least_below at) k ≡ r → is_gt r ≡ false → bytes_cmp (at ++ slash ∷ []) k ≡ Less
from_least at k Less is not = bytes_total.trans (at ++ slash ∷ []) (least_below at) k (cmp_after at (slash ∷ []) (slash ∷ 1 ∷ [])) is
from_least at k Equal is not = subst (λ x. bytes_cmp (at ++ slash ∷ []) x ≡ Less) (bytes_exact (least_below at) k is) (cmp_after at (slash ∷ []) (slash ∷ 1 ∷ []))
from_least at k Greater is not = absurd cc

-- what stands between the least path below another and one below it lies below it too
pub below_between : (at k q : List ℕ) → is_gt (bytes_cmp (least_below at) k) ≡ false → is_gt (bytes_cmp k q) ≡ false → is_below q at ≡ true → is_below k at ≡ true
below_between at k q low high line = by (bytes_cmp k q) refl high
  where
    rest : (rest : List ℕ) × (q ≡ at ++ slash ∷ rest)
    rest = rest_below q at line

    by : (r : Ordering) → bytes_cmp k q ≡ r → is_gt r ≡ false → is_below k at ≡ true
    by Less is not =
        sym (below_is_front at k)
        ∙ between (at ++ slash ∷ []) k rest.0 (from_least at k (bytes_cmp (least_below at) k) refl low)
        (subst (λ x. bytes_cmp k x ≡ Less) (rest.1 ∙ sym (append_assoc at (slash ∷ []) rest.0)) is)
    by Equal is not = subst (λ x. is_below x at ≡ true) (sym (bytes_exact k q is)) line
    by Greater is not = absurd cc

absent : {X : Type 0} (o : Option X) → (IsSome o → ⊥) → o ≡ None
absent None empty = refl
absent (Some x) empty = absurd (empty refl)

module _ (leaves : Leaves) (at : List ℕ) where
  pub some_below : (k : List ℕ) → is_below k at ≡ true → IsSome (get leaves k) → true ≡ list_any (λ q. is_below q at) (keys leaves)
  some_below k line stands = sym (one_passes (λ q. is_below q at) leaves k line stands)

  pub none_below : ((q : List ℕ) → is_below q at ≡ true → IsSome (get leaves q) → ⊥) → false ≡ list_any (λ q. is_below q at) (keys leaves)
  none_below free = sym (all_fail (λ q. is_below q at) leaves (λ q line. absent (get leaves q) (free q line)))

  module _ (paths : (q : List ℕ) → IsSome (get leaves q) → IsPath q) where
    -- the first key from the least path on lies below where one does
    pub first_tells : (k : List ℕ) → IsSome (get leaves k) → is_gt (bytes_cmp (least_below at) k) ≡ false →
        ((q : List ℕ) → is_gt (bytes_cmp (least_below at) q) ≡ false → IsSome (get leaves q) → is_gt (bytes_cmp k q) ≡ false) →
        is_below k at ≡ list_any (λ q. is_below q at) (keys leaves)
    first_tells k stands low first = elim (cases_Bool (is_below k at)) [
      | inl is ↦ is ∙ some_below k is stands
      | inr other ↦ other ∙ none_below (λ q line there. both_ways _ other (below_between at k q low (first q (least_is_least at q (paths q there) line) there) line))
    ]

    -- where there is no such key, none lies below
    pub none_tells : ((q : List ℕ) → is_gt (bytes_cmp (least_below at) q) ≡ false → get leaves q ≡ None) → false ≡ list_any (λ q. is_below q at) (keys leaves)
    none_tells none = none_below (λ q line there. none_or_present _ (none q (least_is_least at q (paths q there) line)) there)

    -- and where the least path can't be made
    pub never_tells : path_fault (least_below at) ≢ None → false ≡ list_any (λ q. is_below q at) (keys leaves)
    never_tells fault = none_below (λ q line there. fault (none_to_make at q (paths q there) line))
