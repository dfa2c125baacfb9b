-- Names: which of two is lower, and which are in a list.
use Rattle.std.proofs.Common.{◌≡◌, ℕ, ◌&&◌, ◌||◌, Bool, true, false, List, [], ◌∷◌, filter, refl, sym, ap, subst, ◌∙◌, inl, inr}
use Rattle.std.specs.BTreeMap.{is_at}
use Rattle.std.specs.List.{AllByRecursion, list_any}
use Rattle.std.specs.Ordering.{is_eq}
use Rattle.std.specs.declared.cmp.Ordering.{Ordering}
use Rattle.std.specs.declared.cmp.Ordering.TheVariants.{Less, Equal}
use Rattle.std.proofs.lemmas.Bool.{both_ways, or_cases, or_left, or_right}
use Rattle.std.proofs.lemmas.Cmp.{tied_itself}
use Rattle.std.proofs.lemmas.Map.Views.{any-filter_same}
use Rattle.switch_names.specs.Names.{has, is_name}
use Rattle.host_trait.specs.Bytes.{bytes_cmp}
use Rattle.host_trait.proofs.Places.{bytes_total, same_or_other}

pub name_itself : (a : List ℕ) → is_name a a ≡ true
name_itself a = ap is_eq (tied_itself bytes_total a)

pub name_exact : (a b : List ℕ) → is_name a b ≡ true → a ≡ b
name_exact a b is = elim (same_or_other a b) [
  | inl same ↦ same
  | inr other ↦ absurd (both_ways _ other is)
]

pub name_from : (a b : List ℕ) → a ≡ b → is_name a b ≡ true
name_from a b same = subst (λ c. is_name a c ≡ true) same (name_itself a)

-- a name below another is another
pub less_is_other : (a b : List ℕ) → bytes_cmp a b ≡ Less → is_name a b ≡ false
less_is_other a b less = ap is_eq less

pub not_both_less : {X : Type 0} (a b : List ℕ) → bytes_cmp a b ≡ Less → bytes_cmp b a ≡ Less → X
not_both_less a b less more = absurd (both_ways _ (less_is_other a a (bytes_total.trans a b a less more)) (name_itself a))

-- a name that is lower than all of a list is lower than each of them
pub above_all : (name other : List ℕ) (names : List (List ℕ)) → AllByRecursion (λ b. bytes_cmp name b ≡ Less) names → has names other ≡ true → bytes_cmp name other ≡ Less
above_all name other [] above there = absurd (cc)
above_all name other (n ∷ names) above there = elim (or_cases (is_name other n) (has names other) there) [
  | inl same ↦ subst (λ k. bytes_cmp name k ≡ Less) (sym (name_exact other n same)) above.0
  | inr rest ↦ above_all name other names above.1 rest
]

pub above_lack : (a : List ℕ) (names : List (List ℕ)) → AllByRecursion (λ b. bytes_cmp a b ≡ Less) names → has names a ≡ false
above_lack a [] above = refl
above_lack a (b ∷ names) above = ap (λ t. t || has names a) (less_is_other a b above.0) ∙ above_lack a names above.1

pub less_not_equal : (r : Ordering) → r ≡ Less → r ≡ Equal → ⊥
less_not_equal r less equal = absurd (cc)

-- ---- names in a list

-- what holds of each name of a list holds all along it
pub all_named : (P : List ℕ → Type 0) (names : List (List ℕ)) → ((name : List ℕ) → has names name ≡ true → P name) → AllByRecursion P names
all_named P [] each = tt
all_named P (name ∷ names) each =
    (each name (or_left (is_name name name) (has names name) (name_itself name)), all_named P names (λ other found. each other (or_right (is_name other name) (has names other) found)))

-- a test that holds of a name in the list holds of one in it
pub passes_among : (test : List ℕ → Bool) (names : List (List ℕ)) (name : List ℕ) → has names name ≡ true → test name ≡ true → list_any test names ≡ true
passes_among test [] name found holds = absurd cc
passes_among test (other ∷ names) name found holds =
    elim (or_cases (is_name name other) (has names name) found) [
      | inl is ↦ or_left (test other) (list_any test names) (ap test (sym (name_exact name other is)) ∙ holds)
      | inr more ↦ or_right (test other) (list_any test names) (passes_among test names name more holds)
    ]

-- a name is among those that pass a test where it passes and is there
pub has_filter : (test : List ℕ → Bool) (names : List (List ℕ)) (name : List ℕ) → has (filter test names) name ≡ (test name && has names name)
has_filter test names name =
    any-filter_same (is_at (bytes_cmp name)) test (test name) (λ other same. ap test (sym (name_exact name other same))) names
