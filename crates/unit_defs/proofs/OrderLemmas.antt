-- Names in byte order, each once.
use Rattle.std.proofs.Common.{◌≡◌, ℕ, ◌||◌, Bool, true, false, cond, List, [], ◌∷◌, ◌++◌, map, Option, None, Some, is_some, refl, sym, ap, subst, ◌∙◌}
use Rattle.std.specs.BTreeMap.{is_at}
use Rattle.std.specs.FinMap.{contains_key-keys, from_entries}
use Rattle.std.specs.FinMap as map
use Rattle.std.specs.List.{filter}
use Rattle.std.specs.List.Sorted.{IsStrictlySortedBy}
use Rattle.std.specs.Map.{keys_of, lookup}
use Rattle.host_trait.specs.World.{bytes_cmp}
use Rattle.host_trait.proofs.Places.{alike, found, ordered_keys}
use Rattle.switch_names.specs.Names.{has, is_name}
use Rattle.unit_defs.specs.Units.{can_be_wanted, in_order, wanted, words_in}
use Rattle.host_trait.proofs.NameOrder.{name_exact}
use Rattle.unit_defs.proofs.NameLemmas.{has-filter-append}
use Rattle.unit_text.specs.declared.assignment.Assignment.{Assignment}
use Rattle.host_trait.proofs.Orders.{none_sorted}
use Rattle.host_trait.proofs.KeyOrder.{keys_sorted}

abbrev Nothing : Type 0
Nothing = Unit {0}

abbrev pair : List ℕ → List ℕ × Nothing
pair name = (name, tt)

abbrev chosen : Bool → Option Nothing
chosen b = cond b (Some tt) None

either : (b c : Bool) → cond b (Some tt) (chosen c) ≡ chosen (b || c)
either true c = refl
either false c = refl

lookup_pairs : (names : List (List ℕ)) (a : List ℕ) → lookup (is_at (bytes_cmp a)) (map pair names) ≡ chosen (has names a)
lookup_pairs [] a = refl
lookup_pairs (name ∷ names) a = ap (λ (o : Option Nothing). cond (is_name a name) (Some tt) o) (lookup_pairs names a) ∙ either (is_name a name) (has names a)

keys_of_pairs : (names : List (List ℕ)) → keys_of (map pair names) ≡ names
keys_of_pairs [] = refl
keys_of_pairs (name ∷ names) = ap (λ ns. name ∷ ns) (keys_of_pairs names)

-- names in order that are those of another list are that list in order
pub same_in_order : (ordered names : List (List ℕ)) → IsStrictlySortedBy bytes_cmp ordered → ((a : List ℕ) → has ordered a ≡ has names a) → ordered ≡ in_order names
same_in_order ordered names sorted same =
    sym (keys_of_pairs ordered)
    ∙ sym (ordered_keys (map pair ordered) (subst (IsStrictlySortedBy bytes_cmp) (sym (keys_of_pairs ordered)) sorted))
    ∙ ap map.keys (alike (from_entries (map pair ordered)) (from_entries (map pair names)) (λ q.
    found (map pair ordered) q ∙ lookup_pairs ordered q ∙ ap chosen (same q)
    ∙ sym (lookup_pairs names q) ∙ sym (found (map pair names) q)))

-- what two steps have added to an empty set, in order
pub wanted_made : (p : List ℕ → Bool) (names words none one two : List (List ℕ)) → none ≡ [] → IsStrictlySortedBy bytes_cmp two →
    ((a : List ℕ) → has one a ≡ (has none a || has (filter p names) a)) → ((a : List ℕ) → has two a ≡ (has one a || has (filter p words) a)) →
    two ≡ in_order (filter p (names ++ words))
wanted_made p names words none one two empty sorted first second = same_in_order two (filter p (names ++ words)) sorted (λ a.
    second a ∙ ap (λ b. b || has (filter p words) a) (first a ∙ ap (λ ns. has ns a || has (filter p names) a) empty)
    ∙ sym (has-filter-append p names words a))

pub none_in_order : [] ≡ in_order []
none_in_order = same_in_order [] [] none_sorted (λ a. refl)

-- ---- what is in order is sorted, and has the same names

pub in_order_sorted : (names : List (List ℕ)) → IsStrictlySortedBy bytes_cmp (in_order names)
in_order_sorted names = keys_sorted (from_entries (map pair names))

there_chosen : (b : Bool) → is_some (chosen b) ≡ b
there_chosen true = refl
there_chosen false = refl

pub has_in_order : (names : List (List ℕ)) (a : List ℕ) → has (in_order names) a ≡ has names a
has_in_order names a =
    sym (contains_key-keys (from_entries {R = bytes_cmp} (map pair names)) a)
    ∙ ap (λ (o : Option Nothing). is_some o) (found (map pair names) a ∙ lookup_pairs names a) ∙ there_chosen (has names a)

passes_filtered : (p : List ℕ → Bool) (names : List (List ℕ)) (a : List ℕ) → has (filter p names) a ≡ true → p a ≡ true
passes_filtered p [] a is = absurd (cc)
passes_filtered p (name ∷ names) a is = by (p name) refl is (passes_filtered p names a)
  where
    first : (b : Bool) → is_name a name ≡ b → p name ≡ true → (b || has (filter p names) a) ≡ true → (has (filter p names) a ≡ true → p a ≡ true) → p a ≡ true
    first true same passes is rest = subst (λ n. p n ≡ true) (sym (name_exact a name same)) passes
    first false other passes is rest = rest is

    by : (b : Bool) → p name ≡ b → has (cond b (name ∷ filter p names) (filter p names)) a ≡ true → (has (filter p names) a ≡ true → p a ≡ true) → p a ≡ true
    by true passes is rest = first (is_name a name) refl passes is rest
    by false fails is rest = rest is

-- what is wanted can be wanted
pub wanted_each : (own : List ℕ → Option (List Assignment)) (names : List (List ℕ)) (text : Option (List Assignment)) (a : List ℕ) → has (wanted own names text) a ≡ true → can_be_wanted own a ≡ true
wanted_each own names text a is = passes_filtered (can_be_wanted own) (names ++ words_in text) a (sym (has_in_order (filter (can_be_wanted own) (names ++ words_in text)) a) ∙ is)
