-- What a loop over items has found, with one item more.
use Rattle.std.proofs.Common.{◌≡◌, ◌<◌, ◌+◌, ◌&&◌, ◌||◌, ◌++◌, ◌∷◌, [], ℕ, Bool, true, false, cond, List, filter, flat_map, get_or, length, map, refl, sym, subst, take, ap, ◌∙◌}
use Rattle.std.specs.List.{list_any}
use Rattle.std.specs.List.Sorted.{IsStrictlySortedBy}
use Rattle.std.proofs.lemmas.List.{append-nil, flat_map_more, map-append, take_more}
use Rattle.std.proofs.lemmas.List.Elements.{filter_more}
use Rattle.std.proofs.lemmas.List.Folds.{list_any_more}
use Rattle.std.proofs.Math.Bool.{or_assoc, and-false}
use Rattle.host_trait.specs.World.{bytes_cmp}
use Rattle.owed_plan.specs.Collected.{IsListBy, is_socketed}
use Rattle.owed_plan.specs.Systems.{Systems}
use Rattle.switch_names.specs.Names.{Name, has, is_name}
use Rattle.switch_names.specs.declared.unit_kind.UnitKind.TheVariants.{Service}
use Rattle.unit_decide.specs.Kinds.{is_kind}
use Rattle.unit_defs.proofs.NameLemmas.{has-append}

module _ {X : Type 0} (p : X → Bool) (xs : List X) (i : ℕ) (x : X) where
  with_one : i < length xs → x ≡ get_or xs i x → filter p (take (i + 1) xs) ≡ filter p (take i xs) ++ cond (p x) (x ∷ []) []
  with_one inside is = filter_more p xs i x inside ∙ ap (λ y. filter p (take i xs) ++ cond (p y) (y ∷ []) []) (sym is)

  -- an item that passes adds what is made of it
  pub kept_more :
      {Y : Type 0} (f : X → Y) (y : Y) (before after : List Y) →
      i < length xs → x ≡ get_or xs i x → p x ≡ true → y ≡ f x → after ≡ before ++ y ∷ [] → before ≡ map f (filter p (take i xs)) →
      after ≡ map f (filter p (take (i + 1) xs))
  kept_more f y before after inside is passes made grown was =
      grown ∙ (λ k. was k ++ made k ∷ []) ∙ sym (map-append f (filter p (take i xs)) (x ∷ []))
      ∙ ap (λ b. map f (filter p (take i xs) ++ cond b (x ∷ []) [])) (sym passes) ∙ ap (map f) (sym (with_one inside is))

  -- one that doesn't pass adds nothing
  pub kept_same :
      {Y : Type 0} (f : X → Y) (before : List Y) →
      i < length xs → x ≡ get_or xs i x → p x ≡ false → before ≡ map f (filter p (take i xs)) → before ≡ map f (filter p (take (i + 1) xs))
  kept_same f before inside is fails was =
      was ∙ ap (map f) (sym (with_one inside is ∙ ap (λ b. filter p (take i xs) ++ cond b (x ∷ []) []) fails ∙ append-nil (filter p (take i xs))))

  -- the same where the items themselves are kept
  pub passed_more :
      (y : X) (before after : List X) →
      i < length xs → x ≡ get_or xs i x → p x ≡ true → y ≡ x → after ≡ before ++ y ∷ [] → before ≡ filter p (take i xs) → after ≡ filter p (take (i + 1) xs)
  passed_more y before after inside is passes same grown was =
      grown ∙ (λ k. was k ++ same k ∷ []) ∙ ap (λ b. filter p (take i xs) ++ cond b (x ∷ []) []) (sym passes) ∙ sym (with_one inside is)

  pub passed_same : (before : List X) → i < length xs → x ≡ get_or xs i x → p x ≡ false → before ≡ filter p (take i xs) → before ≡ filter p (take (i + 1) xs)
  passed_same before inside is fails was = was ∙ sym (with_one inside is ∙ ap (λ b. filter p (take i xs) ++ cond b (x ∷ []) []) fails ∙ append-nil (filter p (take i xs)))

  -- none passes so far, and neither does this one
  pub none_more : i < length xs → x ≡ get_or xs i x → p x ≡ false → list_any p (take i xs) ≡ false → list_any p (take (i + 1) xs) ≡ false
  none_more inside is fails was = list_any_more p xs i x inside ∙ ap (λ y. list_any p (take i xs) || p y) (sym is) ∙ (λ k. was k || fails k)

  -- what was there and what the items so far give, with one item more
  pub given_more :
      (d : X) (start old new : Bool) → i < length xs → x ≡ get_or xs i d → old ≡ (start || list_any p (take i xs)) → new ≡ (old || p x) → new ≡ (start || list_any p (take (i + 1) xs))
  given_more d start old new inside is was grown =
      grown ∙ ap (λ b. b || p x) was ∙ or_assoc start (list_any p (take i xs)) (p x)
      ∙ ap (λ b. start || b) (sym (list_any_more p xs i d inside ∙ ap (λ y. list_any p (take i xs) || p y) (sym is)))

-- what is made of the items so far, with what is made of one item more at its end
pub joined_more :
    {X Y : Type 0} (f : X → List Y) (xs : List X) (i : ℕ) (d : X) (first old new : List Y) →
    i < length xs → old ≡ first ++ flat_map f (take i xs) → new ≡ old ++ f (get_or xs i d) → new ≡ first ++ flat_map f (take (i + 1) xs)
joined_more f xs i d first old new inside was grown =
    grown ∙ ap (λ l. l ++ f (get_or xs i d)) was ∙ flat_map_more f first (take i xs) (get_or xs i d) ∙ ap (λ l. first ++ flat_map f l) (sym (take_more xs i d inside))

-- the names of a set are a list by what the set has
pub list_by : (names set : List Name) (test : Name → Bool) → names ≡ set → IsStrictlySortedBy bytes_cmp set → ((unit : Name) → has set unit ≡ test unit) → IsListBy names test
list_by names set test same sorted exact = record {
  sorted = subst (IsStrictlySortedBy bytes_cmp) (sym same) sorted;
  exact = λ unit. ap (λ (ns : List Name). has ns unit) same ∙ exact unit;
}

has_chosen : (b : Bool) (name unit : Name) → has (cond b (name ∷ []) []) unit ≡ (b && is_name unit name)
has_chosen true name unit = by (is_name unit name)
  where
    by : (b : Bool) → (b || false) ≡ b
    by true = refl
    by false = refl
has_chosen false name unit = refl

-- a set gets a name, where the name passes
pub added_more :
    (p : Name → Bool) (names : List Name) (i : ℕ) (name : Name) (start old new : List Name) (added : Bool) (unit : Name) → i < length names → name ≡ get_or names i name → added ≡ p name →
    has old unit ≡ (has start unit || has (filter p (take i names)) unit) → has new unit ≡ (has old unit || (added && is_name unit name)) →
    has new unit ≡ (has start unit || has (filter p (take (i + 1) names)) unit)
added_more p names i name start old new added unit inside is passes was grown =
    grown ∙ (λ k. was k || (passes k && is_name unit name)) ∙ or_assoc (has start unit) (has (filter p (take i names)) unit) (p name && is_name unit name)
    ∙ ap (λ b. has start unit || b)
    (sym (ap (λ (ns : List Name). has ns unit) (with_one p names i name inside is) ∙ has-append (filter p (take i names)) (cond (p name) (name ∷ []) []) unit
    ∙ ap (λ b. has (filter p (take i names)) unit || b) (has_chosen (p name) name unit)))

-- a unit of whose sockets none is defined has no socket that is
pub no_socket : (systems : Systems) (unit : Name) (sockets items : List Name) → items ≡ sockets → sockets ≡ systems.sockets unit → list_any (λ socket. (systems.facts socket).in_new) items ≡ false →
    false ≡ is_socketed systems unit
no_socket systems unit sockets items same these none =
    sym (ap (λ b. is_kind (systems.facts unit).kind Service && b) (ap (λ (names : List Name). list_any (λ socket. (systems.facts socket).in_new) names) (sym (same ∙ these)) ∙ none)
    ∙ and-false (is_kind (systems.facts unit).kind Service))
