-- Targets by number as a list of generations.
use Rattle.std.proofs.Common.{◌≡◌, ℕ, ◌==◌, cond, List, [], ◌∷◌, ◌++◌, map, Option, Some, refl, sym, ap, subst, ◌∙◌, arith}
use Rattle.std.proofs.lemmas.Grind.{common_steps}
use Rattle.std.proofs.lemmas.List.{append-nil}
use Rattle.std.specs.BTreeMap.{is_at}
use Rattle.std.specs.List.{find}
use Rattle.std.specs.List.Sorted.{IsStrictlySortedBy}
use Rattle.std.specs.Map.{keys_of, lookup}
use Rattle.std.specs.Ordering.{nat_cmp}
use Rattle.switch_names.proofs.Outcomes.{option_map_cond}
use Rattle.generations.specs.declared.gens.Gen.{Gen}
use Rattle.generations.specs.Gens.{listed_at}

abbrev pub gens_of : List (ℕ × Option (List ℕ)) → List Gen
gens_of [] = []
gens_of (e ∷ es) = (record { number = e.0; target = e.1 }) ∷ gens_of es

numbers_are_keys : (es : List (ℕ × Option (List ℕ))) → map (λ (gen : Gen). gen.number) (gens_of es) ≡ keys_of es
numbers_are_keys [] = refl
numbers_are_keys (e ∷ es) = ap (λ ks. e.0 ∷ ks) (numbers_are_keys es)

same_test : (n k : ℕ) → is_at (nat_cmp n) k ≡ (k == n)
same_test n k = grind (arith, common_steps)

-- the list has at each number what the entries have
pub listed_is_lookup : (es : List (ℕ × Option (List ℕ))) (n : ℕ) → listed_at (gens_of es) n ≡ lookup (is_at (nat_cmp n)) es
listed_is_lookup [] n = refl
listed_is_lookup (e ∷ es) n =
    option_map_cond (λ (gen : Gen). gen.target) (e.0 == n) (record { number = e.0; target = e.1 }) (find (λ gen. gen.number == n) (gens_of es))
    ∙ ap (λ b. cond b (Some e.1) (listed_at (gens_of es) n)) (sym (same_test n e.0))
    ∙ ap (cond (is_at (nat_cmp n) e.0) (Some e.1)) (listed_is_lookup es n)

pub rising_gens : (es : List (ℕ × Option (List ℕ))) (list : List Gen) → list ≡ gens_of es → IsStrictlySortedBy nat_cmp (keys_of es) → IsStrictlySortedBy nat_cmp (map (λ (gen : Gen). gen.number) list)
rising_gens es list is sorted = subst (IsStrictlySortedBy nat_cmp) (sym (ap (map (λ (gen : Gen). gen.number)) is ∙ numbers_are_keys es)) sorted

-- none is left
pub all_listed : (list : List Gen) (rest all : List (ℕ × Option (List ℕ))) → rest ≡ [] → list ++ gens_of rest ≡ gens_of all → list ≡ gens_of all
all_listed list rest all none is = sym (append-nil list) ∙ ap (λ es. list ++ gens_of es) (sym none) ∙ is
