-- What a unit wants, as it is kept beside the units.
use Rattle.std.proofs.Common.{filter, ◌≡◌, ℕ, ◌<◌, ◌++◌, ◌||◌, codes, Bool, true, false, cond, List, [], ◌∷◌, length, get_or, map, Option, None, Some, option_map, option_and_then, refl, sym, ap, subst, ◌∙◌, arith}
use Rattle.std.specs.List.{flat_map, slice_get}
use Rattle.std.specs.Option.{option_map_or, option_or}
use Rattle.std.proofs.lemmas.Option.{slice_get-get_or, slice_get-map}
use Rattle.switch_names.specs.UnitName.{IsUnitName, template_of}
use Rattle.unit_text.specs.UnitKey.{key_of}
use Rattle.unit_text.specs.UnitText.{values_of}
use Rattle.unit_text.specs.declared.assignment.Assignment.{Assignment}
use Rattle.unit_defs.specs.declared.part.FilePart.{FilePart}
use Rattle.unit_defs.specs.declared.unit.Unit.{Unit}
use Rattle.unit_defs.specs.declared.unit.Wants.{Wants}
use Rattle.unit_defs.specs.Defs.{found_in, names_in, own_in, unit_in, wanted_in, wants_for}
use Rattle.switch_names.specs.Names.{has, is_name}
use Rattle.unit_defs.specs.Units.{can_be_wanted, wanted, words_at, words_in, words_of}
use Rattle.std.specs.List.Sorted.{IsStrictlySortedBy}
use Rattle.host_trait.specs.World.{bytes_cmp}
use Rattle.host_trait.proofs.NameOrder.{name_exact}
use Rattle.unit_defs.proofs.NameLemmas.{found_unit, has_both}
use Rattle.unit_defs.proofs.OrderLemmas.{in_order_sorted, none_in_order, wanted_each}
use Rattle.std.proofs.Math.Bool.{or-false}

unit_named : (units : List Unit) (name : List ℕ) (unit : Unit) → unit_in units name ≡ Some unit → name ≡ unit.name
unit_named [] name unit is = absurd (cc)
unit_named (one ∷ units) name unit is = by (is_name name one.name) refl is (unit_named units name unit)
  where
    by : (b : Bool) → is_name name one.name ≡ b → cond b (Some one) (unit_in units name) ≡ Some unit → (unit_in units name ≡ Some unit → name ≡ unit.name) → name ≡ unit.name
    by true named is rest = name_exact name one.name named ∙ ap (λ (u : Unit). u.name) (one_value one unit is)
      where
        one_value : (a b : Unit) → Some a ≡ Some b → a ≡ b
        one_value a b same = cc
    by false other is rest = rest is

as_many : {X Y : Type 0} (f : X → Y) (xs : List X) → length (map f xs) ≡ length xs
as_many f [] = refl
as_many f (x ∷ xs) = omega (arith, as_many f xs)

module _ (units : List Unit) (wants : List Wants) (kept : wants ≡ map (wants_for units) units) where
  wants_at : (at : ℕ) (d : Wants) → at < length units → Some (get_or wants at d) ≡ option_map (wants_for units) (slice_get units at)
  wants_at at d within =
      sym (slice_get-get_or wants at d (subst (λ n. at < n) (sym (ap length kept ∙ as_many (wants_for units) units)) within))
      ∙ ap (λ ws. slice_get ws at) kept ∙ slice_get-map (wants_for units) units at

  some_unit : (o : Option Unit) (w : Wants) → Some w ≡ option_map (wants_for units) o → (unit : Unit) × (o ≡ Some unit) × (w ≡ wants_for units unit)
  some_unit None w is = absurd (cc)
  some_unit (Some unit) w is = (unit, refl, cc)

  whole_of : (name : List ℕ) (unit : Unit) → unit_in units name ≡ Some unit → (wants_for units unit).whole ≡ wanted_in units name
  whole_of name unit is =
      ap (λ n. wanted (own_in units) unit.wants (found_in units n)) (sym (unit_named units name unit is))
      ∙ ap (λ o. wanted (own_in units) (option_map_or (λ (u : Unit). u.wants) o []) (found_in units name)) (sym is)

  -- all that a unit of the folder wants
  pub wanted_whole : (name : List ℕ) (at : ℕ) (d : Wants) → at < length units → unit_in units name ≡ slice_get units at → (get_or wants at d).whole ≡ wanted_in units name
  wanted_whole name at d within is =
      let there = some_unit (unit_in units name) (get_or wants at d) (wants_at at d within ∙ ap (option_map (wants_for units)) (sym is)) in
      ap (λ (w : Wants). w.whole) there.2 ∙ whole_of name there.0 there.1

own_through : (units : List Unit) (o : Option (List ℕ)) →
    option_and_then (own_in units) o ≡ option_map (λ (part : FilePart). part.text) (option_and_then (λ (unit : Unit). unit.part) (option_and_then (unit_in units) o))
own_through units None = refl
own_through units (Some name) = refl

-- the text of a template by the unit that is found of it
pub own_of_template : (units : List Unit) (o : Option (List ℕ)) (found : Option Unit) → option_and_then (unit_in units) o ≡ found →
    option_map (λ (part : FilePart). part.text) (option_and_then (λ (unit : Unit). unit.part) found) ≡ option_and_then (own_in units) o
own_of_template units o found there =
    ap (λ u. option_map (λ (part : FilePart). part.text) (option_and_then (λ (unit : Unit). unit.part) u)) (sym there) ∙ sym (own_through units o)

-- no text names a unit
pub adds_nothing : (p : List ℕ → Bool) (text : Option (List Assignment)) (unit : List ℕ) (had : Bool) → text ≡ None → had ≡ (had || has (filter p (words_in text)) unit)
adds_nothing p text unit had none = sym (ap (λ t. had || has (filter p (words_in t)) unit) none ∙ or-false had)

-- the units of both keys are added
pub adds_both : (p : List ℕ → Bool) (whole : Option (List Assignment)) (text : List Assignment) (wants requires : List (List ℕ)) (unit : List ℕ) (before now after : Bool) →
    whole ≡ Some text → wants ≡ values_of text (key_of (codes "Unit") (codes "Wants")) → requires ≡ values_of text (key_of (codes "Unit") (codes "Requires")) →
    now ≡ (before || has (filter p (flat_map words_of wants)) unit) → after ≡ (now || has (filter p (flat_map words_of requires)) unit) → after ≡ (before || has (filter p (words_in whole)) unit)
adds_both p whole text wants requires unit before now after is are_wants are_requires first second =
    has_both p unit (flat_map words_of wants) (flat_map words_of requires) before now after first second
    ∙ ap (λ ws. before || has (filter p (flat_map words_of ws ++ flat_map words_of requires)) unit) are_wants
    ∙ ap (λ ws. before || has (filter p (words_at (codes "Wants") text ++ flat_map words_of ws)) unit) are_requires
    ∙ ap (λ t. before || has (filter p (words_in t)) unit) (sym is)

-- a unit that the folder doesn't name wants what its template's text wants
wanted_of_template : (units : List Unit) (name : List ℕ) (o : Option Unit) → IsUnitName name → unit_in units name ≡ None → option_and_then (unit_in units) (template_of name) ≡ o →
    wanted (own_in units) [] (option_map (λ (part : FilePart). part.text) (option_and_then (λ (unit : Unit). unit.part) o)) ≡ wanted_in units name
wanted_of_template units name o named none is =
    let text : found_in units name ≡ option_map (λ (part : FilePart). part.text) (option_and_then (λ (unit : Unit). unit.part) o) =
    found_unit (own_in units) name named
    ∙ ap (λ u. option_or (option_map (λ (part : FilePart). part.text) (option_and_then (λ (unit : Unit). unit.part) u)) (option_and_then (own_in units) (template_of name))) none
    ∙ own_through units (template_of name)
    ∙ ap (λ u. option_map (λ (part : FilePart). part.text) (option_and_then (λ (unit : Unit). unit.part) u)) is in
    ap (wanted (own_in units) []) (sym text)
    ∙ ap (λ u. wanted (own_in units) (option_map_or (λ (unit : Unit). unit.wants) u []) (found_in units name)) (sym none)

pub wanted_by_text : (units : List Unit) (wants : List Wants) → wants ≡ map (wants_for units) units → (name : List ℕ) (at : ℕ) (d : Wants) → IsUnitName name → unit_in units name ≡ None →
    at < length units → option_and_then (unit_in units) (template_of name) ≡ slice_get units at → (get_or wants at d).by_text ≡ wanted_in units name
wanted_by_text units wants kept name at d named none within is =
    let template : Option Unit = option_and_then (unit_in units) (template_of name) in
    let there = some_unit units wants kept template (get_or wants at d) (wants_at units wants kept at d within ∙ ap (option_map (wants_for units)) (sym is)) in
    ap (λ (w : Wants). w.by_text) there.2 ∙ wanted_of_template units name (Some there.0) named none there.1

pub wanted_none : (units : List Unit) (name : List ℕ) (list : List (List ℕ)) → list ≡ [] → IsUnitName name → unit_in units name ≡ None →
    option_and_then (unit_in units) (template_of name) ≡ None → list ≡ wanted_in units name
wanted_none units name list empty named none no_template = empty ∙ none_in_order ∙ wanted_of_template units name None named none no_template

-- what is wanted is sorted
pub list_sorted : (units : List Unit) (name : List ℕ) (list : List (List ℕ)) → list ≡ wanted_in units name → IsStrictlySortedBy bytes_cmp list
list_sorted units name list is =
    subst (IsStrictlySortedBy bytes_cmp) (sym is) (in_order_sorted (filter (can_be_wanted (own_in units)) (names_in units name ++ words_in (found_in units name))))

-- and each of it is defined and no template
pub list_each : (units : List Unit) (name : List ℕ) (list : List (List ℕ)) → list ≡ wanted_in units name → (a : List ℕ) → has list a ≡ true → can_be_wanted (own_in units) a ≡ true
list_each units name list is a there =
    wanted_each (own_in units) (names_in units name) (found_in units name) a (sym (ap (λ (names : List (List ℕ)). has names a) is) ∙ there)
