-- The names in a map of names stand in byte order.
use Rattle.std.proofs.Common.{◌≡◌, ◌||◌, ◌∷◌, Bool, true, false, cond, List, [], Option, Some, is_some, map, refl, sym, ap, ◌∙◌}
use Rattle.std.specs.FinMap.{FinMap, contains_key-keys, empty, get, get-empty, get-insert, insert, keys}
use Rattle.std.specs.List.Sorted.{IsStrictlySortedBy}
use Rattle.host_trait.specs.World.{bytes_cmp}
use Rattle.host_trait.proofs.Places.{bytes_total}
use Rattle.host_trait.proofs.KeyOrder.{keys_sorted}
use Rattle.switch_names.specs.Names.{Name, has, is_name}

module _ {X : Type 0} where
  abbrev names_of : List (Name × X) → List Name
  names_of es = map (λ (e : Name × X). e.0) es

  pub has_key : (m : FinMap bytes_cmp X) (name : Name) → has (keys m) name ≡ is_some (get m name)
  has_key m name = sym (contains_key-keys m name)

-- ---- a set of names

abbrev NameSet : Type 0
NameSet = FinMap bytes_cmp (Unit {0})

set_of : List Name → NameSet
set_of [] = empty
set_of (name ∷ names) = insert (set_of names) name tt

or_there : (found : Bool) (o : Option (Unit {0})) → is_some (cond found (Some tt) o) ≡ (found || is_some o)
or_there true o = refl
or_there false o = refl

in_set : (names : List Name) (name : Name) → is_some (get (set_of names) name) ≡ has names name
unfolding set_of
in_set [] name = ap (λ (o : Option (Unit {0})). is_some o) (get-empty bytes_cmp name)
in_set (other ∷ names) name =
    ap (λ (o : Option (Unit {0})). is_some o) (get-insert bytes_total (set_of names) other tt name)
    ∙ or_there (is_name name other) (get (set_of names) name)
    ∙ ap (λ b. is_name name other || b) (in_set names name)

-- names in byte order, each once
pub ordered : List Name → List Name
ordered names = keys (set_of names)

pub ordered_sorted : (names : List Name) → IsStrictlySortedBy bytes_cmp (ordered names)
unfolding ordered
ordered_sorted names = keys_sorted (set_of names)

pub has_ordered : (names : List Name) (name : Name) → has (ordered names) name ≡ has names name
unfolding ordered
has_ordered names name = has_key (set_of names) name ∙ in_set names name
