-- How the next unit is taken from two sets.
use Rattle.std.proofs.Common.{◌≡◌, ◌↔◌, ◌&&◌, ◌<◌, not, cond, Bool, true, false, List, [], ◌∷◌, length, Option, None, Some, is_none, option_map, IfSome, IsSome, refl, sym, ap, ◌∙◌, arith}
use Rattle.std.specs.List.{find, slice_get}
use Rattle.std.specs.Option.{option_or}
use Rattle.switch_names.specs.Names.{Name, has, is_name}
use Rattle.switch_names.proofs.Names.{name_turned}
use Rattle.start_order.specs.declared.edge.Edge.{Edge}
use Rattle.start_order.specs.Order.{is_free, is_stuck, next_of}
use Rattle.start_order.specs.Progress.{stuck_unit}
use Rattle.std.specs.List.Sorted.{IsStrictlySortedBy}
use Rattle.host_trait.specs.Bytes.{bytes_cmp}
use Rattle.start_order.proofs.StepLemmas.{least_law}

without : (b h : Bool) → cond b false h ≡ (not b && h)
without true h = refl
without false h = refl

pub gone : (old new : List Name) (unit other : Name) → has new other ≡ cond (is_name unit other) false (has old other) → has new other ≡ (not (is_name other unit) && has old other)
gone old new unit other updated = updated ∙ ap (λ b. cond b false (has old other)) (name_turned unit other) ∙ without (is_name other unit) (has old other)

pub first_of : (names rest : List Name) (unit : Name) → names ≡ unit ∷ rest → slice_get names 0 ≡ Some unit
first_of names rest unit is = ap (λ all. slice_get all 0) is

pub next_free : (edges : List Edge) (left : List Name) (unit : Name) → find (is_free edges left) left ≡ Some unit → Some unit ≡ next_of edges left
next_free edges left unit found = sym (ap (λ o. option_or o (slice_get left 0)) found)

pub none_there : (names : List Name) → (IsSome {T = Name} None ↔ (0 < length names)) → names ≡ []
none_there [] variant = refl
none_there (name ∷ names) variant = absurd (let no : IsSome {T = Name} None = variant.1 (omega arith) in cc)

pub head_of : (names rest : List Name) (o : Option Name) → (IsSome o ↔ (0 < length names)) → IfSome o (λ unit. names ≡ unit ∷ rest) → o ≡ slice_get names 0
head_of names rest None variant removal = sym (ap (λ all. slice_get all 0) (none_there names variant))
head_of names rest (Some unit) variant removal = sym (first_of names rest unit removal)

pub next_stuck : (edges : List Edge) (left : List Name) (o : Option Name) → find (is_free edges left) left ≡ None → o ≡ slice_get left 0 → o ≡ next_of edges left
next_stuck edges left o none is = is ∙ sym (ap (λ f. option_or f (slice_get left 0)) none)

pub if_some : (o : Option Name) (P Q : Name → Type 0) → ((unit : Name) → P unit → Q unit) → IfSome o P → IfSome o Q
if_some None P Q to is = tt
if_some (Some unit) P Q to is = to unit is

-- none is free where the set of the free units is empty
pub stuck_is : (edges : List Edge) (left free : List Name) → IsStrictlySortedBy bytes_cmp left → IsStrictlySortedBy bytes_cmp free →
    ((unit : Name) → has free unit ≡ (is_free edges left unit && has left unit)) → is_stuck edges left ≡ is_none (slice_get free 0)
stuck_is edges left free sorted_left sorted_free are = ap is_none (sym (least_law (is_free edges left) left free sorted_left sorted_free are))

pub stuck_when : (edges : List Edge) (left : List Name) (b : Bool) → is_stuck edges left ≡ b → stuck_unit edges left ≡ cond b (slice_get left 0) None
stuck_when edges left b is = ap (λ stuck. cond stuck (slice_get left 0) None) is

-- the first key of a set
pub first_is : {X : Type 0} (name_of : X → Name) (left : List Name) (o : Option X) → (IsSome o ↔ (0 < length left)) → IfSome o (λ x. slice_get left 0 ≡ Some (name_of x)) →
    option_map name_of o ≡ slice_get left 0
first_is {X} name_of [] None variant first = refl
first_is {X} name_of (name ∷ left) None variant first = absurd (let no : IsSome {T = X} None = variant.1 (omega arith) in cc)
first_is {X} name_of left (Some x) variant first = sym first

none_first : (names : List Name) → length names ≡ 0 → is_none (slice_get names 0) ≡ true
none_first [] none = refl
none_first (name ∷ names) none = absurd (omega (arith, none))

some_first : (names : List Name) → (length names ≡ 0 → ⊥) → is_none (slice_get names 0) ≡ false
some_first [] some = absurd (some refl)
some_first (name ∷ names) some = refl

module _ (edges : List Edge) (left free : List Name) (left_sorted : IsStrictlySortedBy bytes_cmp left) (free_sorted : IsStrictlySortedBy bytes_cmp free) (are : (unit : Name) → has free unit ≡ (is_free edges left unit && has left unit)) where
  pub stuck_by_none : length free ≡ 0 → stuck_unit edges left ≡ slice_get left 0
  stuck_by_none none = stuck_when edges left true (stuck_is edges left free left_sorted free_sorted are ∙ none_first free none)

  pub stuck_by_some : (length free ≡ 0 → ⊥) → stuck_unit edges left ≡ None
  stuck_by_some some = stuck_when edges left false (stuck_is edges left free left_sorted free_sorted are ∙ some_first free some)

stuck_parts : (edges : List Edge) (left : List Name) (unit : Name) (b : Bool) → is_stuck edges left ≡ b → cond b (slice_get left 0) None ≡ Some unit → (is_stuck edges left ≡ true) × (slice_get left 0 ≡ Some unit)
stuck_parts edges left unit true stuck first = (stuck, first)
stuck_parts edges left unit false stuck first = absurd (let no : None ≡ Some unit = first in cc)

-- a unit that is stuck is the first one, while none is free
pub stuck_first_of : (edges : List Edge) (left : List Name) (unit : Name) → stuck_unit edges left ≡ Some unit → (is_stuck edges left ≡ true) × (slice_get left 0 ≡ Some unit)
stuck_first_of edges left unit is = stuck_parts edges left unit (is_stuck edges left) refl is

pub some_copied : {X : Type 0} (name_of : X → Name) (o : Option X) (other : Option Name) → option_map name_of o ≡ other → IsSome other → IsSome o
some_copied {X} name_of None None same some = some
some_copied {X} name_of None (Some name) same some = absurd (let no : None ≡ Some name = same in cc)
some_copied {X} name_of (Some x) other same some = refl
