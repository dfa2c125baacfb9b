-- Names in byte order.
use Rattle.std.proofs.Common.{◌≡◌, ℕ, ◌+◌, ◌<◌, ◌||◌, ◌&&◌, Bool, true, false, cond, Bor, List, [], ◌∷◌, ◌++◌, length, get_or, take, map, Option, None, Some, not, is_none, is_some, option_map, option_and_then, refl, sym, ap, subst, ◌∙◌, inl, inr}
use Rattle.std.specs.List.{AllByRecursion, filter, flat_map}
use Rattle.std.specs.List.Sorted.{IsStrictlySortedBy}
use Rattle.std.specs.declared.cmp.Ordering.TheVariants.{Less}
use Rattle.std.proofs.lemmas.Bool.{both_ways, or_cases}
use Rattle.std.proofs.lemmas.List.{append-nil, append_assoc, map-append, take_more}
use Rattle.std.proofs.lemmas.List.Concat.{flat_map-append}
use Rattle.std.proofs.lemmas.List.Elements.{filter-append}
use Rattle.std.proofs.lemmas.List.Folds.{list_any-append}
use Rattle.host_trait.specs.World.{bytes_cmp}
use Rattle.host_trait.proofs.NameOrder.{name_exact, above_lack}
use Rattle.unit_text.specs.declared.assignment.Assignment.{Assignment}
use Rattle.unit_defs.specs.declared.part.FilePart.{FilePart}
use Rattle.unit_defs.specs.declared.unit.Unit.{Unit}
use Rattle.unit_defs.specs.declared.unit.Wants.{Wants}
use Rattle.unit_defs.specs.Defs.{AreNamesOf, AreSorted, IsDefs, own_in, unit_in, wants_for}
use Rattle.switch_names.specs.Names.{has, is_name}
use Rattle.unit_defs.specs.Units.{can_be_wanted, find_text}
use Rattle.switch_names.specs.UnitName.{IsUnitName, is_template, template_of, is_unit, named_unit}
use Rattle.std.specs.Option.{option_or}
use Rattle.std.proofs.Math.Bool.{or-false, and-true, and-false, or_assoc}

pub has-append : (xs ys : List (List ℕ)) (name : List ℕ) → has (xs ++ ys) name ≡ (has xs name || has ys name)
has-append xs ys name = list_any-append (is_name name) xs ys

pub has-filter-append : (p : List ℕ → Bool) (xs ys : List (List ℕ)) (name : List ℕ) → has (filter p (xs ++ ys)) name ≡ (has (filter p xs) name || has (filter p ys) name)
has-filter-append p xs ys name = ap (λ zs. has zs name) (filter-append p xs ys) ∙ has-append (filter p xs) (filter p ys) name

pub no_template : (b is : Bool) → is ≡ true → false ≡ (b && not is)
no_template true is same = sym (ap not same)
no_template false is same = refl

pub other_than_template : (b is : Bool) → is ≡ false → b ≡ (b && not is)
other_than_template true is same = sym (ap not same)
other_than_template false is same = refl

-- ---- sets of names that can be wanted

-- a name that passes a test is added
pub has_added : (old : List (List ℕ)) (name unit : List ℕ) (now passes : Bool) → passes ≡ true → now ≡ (has old unit || is_name unit name) → now ≡ (has old unit || (is_name unit name && passes))
has_added old name unit now passes is added = added ∙ ap (λ b. has old unit || b) (sym (and-true (is_name unit name)) ∙ ap (λ b. is_name unit name && b) (sym is))

has_filtered_one : (p : List ℕ → Bool) (name unit : List ℕ) → has (filter p (name ∷ [])) unit ≡ (is_name unit name && p name)
has_filtered_one p name unit = by (p name) (is_name unit name)
  where
    by : (b c : Bool) → has (cond b (name ∷ []) []) unit ≡ (is_name unit name && b)
    by true c = or-false (is_name unit name) ∙ sym (and-true (is_name unit name))
    by false c = sym (and-false (is_name unit name))

module _ (p : List ℕ → Bool) (unit : List ℕ) where
  -- two lists of names are added one after the other
  pub has_both : (xs ys : List (List ℕ)) (before now after : Bool) → now ≡ (before || has (filter p xs) unit) → after ≡ (now || has (filter p ys) unit) → after ≡ (before || has (filter p (xs ++ ys)) unit)
  has_both xs ys before now after first second =
      second
      ∙ ap (λ b. b || has (filter p ys) unit) first
      ∙ or_assoc before (has (filter p xs) unit) (has (filter p ys) unit)
      ∙ ap (λ b. before || b) (sym (has-filter-append p xs ys unit))

  has_both_one : (xs : List (List ℕ)) (name : List ℕ) (before now after : Bool) → now ≡ (before || has (filter p xs) unit) → after ≡ (now || (is_name unit name && p name)) → after ≡ (before || has (filter p (xs ++ name ∷ [])) unit)
  has_both_one xs name before now after first second = has_both xs (name ∷ []) before now after first (second ∙ ap (λ b. now || b) (sym (has_filtered_one p name unit)))

  -- one text more is added where it passes a test
  pub has_one_more : (texts : List (Bor (List ℕ))) (i : ℕ) (d : Bor (List ℕ)) (before now after : Bool) → i < length texts →
      now ≡ (before || has (filter p (map (λ (t : Bor (List ℕ)). t.now) (take i texts))) unit) → after ≡ (now || (is_name unit (get_or texts i d).now && p (get_or texts i d).now)) →
      after ≡ (before || has (filter p (map (λ (t : Bor (List ℕ)). t.now) (take (i + 1) texts))) unit)
  has_one_more texts i d before now after within so_far added =
      let text : Bor (List ℕ) = get_or texts i d in
      has_both_one (map (λ (t : Bor (List ℕ)). t.now) (take i texts)) text.now before now after so_far added
      ∙ ap (λ ts. before || has (filter p ts) unit) (sym (ap (map (λ (t : Bor (List ℕ)). t.now)) (take_more texts i d within) ∙ map-append (λ (t : Bor (List ℕ)). t.now) (take i texts) (text ∷ [])))

  -- the parts of one text more are added
  pub has_parts_more : (parts : List ℕ → List (List ℕ)) (texts : List (Bor (List ℕ))) (i : ℕ) (d : Bor (List ℕ)) (before now after : Bool) → i < length texts →
      now ≡ (before || has (filter p (flat_map parts (map (λ (t : Bor (List ℕ)). t.now) (take i texts)))) unit) → after ≡ (now || has (filter p (parts (get_or texts i d).now)) unit) →
      after ≡ (before || has (filter p (flat_map parts (map (λ (t : Bor (List ℕ)). t.now) (take (i + 1) texts)))) unit)
  has_parts_more parts texts i d before now after within so_far added =
      let text : Bor (List ℕ) = get_or texts i d in
      let first : List (List ℕ) = map (λ (t : Bor (List ℕ)). t.now) (take i texts) in
      has_both (flat_map parts first) (parts text.now) before now after so_far added
      ∙ ap (λ ts. before || has (filter p ts) unit) (sym (
      ap (flat_map parts) (ap (map (λ (t : Bor (List ℕ)). t.now)) (take_more texts i d within) ∙ map-append (λ (t : Bor (List ℕ)). t.now) (take i texts) (text ∷ []))
      ∙ flat_map-append parts first (text.now ∷ []) ∙ ap (λ ts. flat_map parts first ++ ts) (append-nil (parts text.now))))

  -- one name more is added where it passes a test
  pub has_name_more : (names : List (List ℕ)) (i : ℕ) (name copied : List ℕ) (before now after : Bool) → i < length names → name ≡ get_or names i name → copied ≡ name →
      now ≡ (before || has (filter p (take i names)) unit) → after ≡ (now || (is_name unit copied && p copied)) → after ≡ (before || has (filter p (take (i + 1) names)) unit)
  has_name_more names i name copied before now after within is same so_far added =
      has_both_one (take i names) (get_or names i name) before now after so_far (added ∙ ap (λ n. now || (is_name unit n && p n)) (same ∙ is))
      ∙ ap (λ ns. before || has (filter p ns) unit) (sym (take_more names i name within))

-- one copy more of names
pub copied_more : (names : List (List ℕ)) (i : ℕ) (name copied : List ℕ) (so_far now : List (List ℕ)) → i < length names → name ≡ get_or names i name → copied ≡ name →
    so_far ≡ take i names → now ≡ so_far ++ copied ∷ [] → now ≡ take (i + 1) names
copied_more names i name copied so_far now within is same before pushed =
    pushed ∙ ap (λ n. so_far ++ n ∷ []) (same ∙ is) ∙ ap (λ ns. ns ++ get_or names i name ∷ []) before ∙ sym (take_more names i name within)

-- one item more is made of those of a list
pub mapped_more : {X Y : Type 0} (f : X → Y) (items : List X) (i : ℕ) (item : X) (made : Y) (so_far now : List Y) → i < length items → item ≡ get_or items i item → made ≡ f item →
    so_far ≡ map f (take i items) → now ≡ so_far ++ made ∷ [] → now ≡ map f (take (i + 1) items)
mapped_more f items i item made so_far now within is made_is before pushed =
    pushed ∙ ap (λ y. so_far ++ y ∷ []) (made_is ∙ ap f is) ∙ ap (λ ys. ys ++ f (get_or items i item) ∷ []) before
    ∙ sym (ap (map f) (take_more items i item within) ∙ map-append f (take i items) (get_or items i item ∷ []))

-- the next item is put after those before it
pub moved_on : {X : Type 0} (before now left rest all : List X) (item : X) → left ≡ item ∷ rest → before ++ left ≡ all → now ≡ before ++ item ∷ [] → now ++ rest ≡ all
moved_on before now left rest all item is whole pushed = ap (λ xs. xs ++ rest) pushed ∙ append_assoc before (item ∷ []) rest ∙ ap (λ xs. before ++ xs) (sym is) ∙ whole

pub all_moved : {X : Type 0} (before left all : List X) → left ≡ [] → before ++ left ≡ all → before ≡ all
all_moved before left all none whole = sym (append-nil before) ∙ ap (λ xs. before ++ xs) (sym none) ∙ whole

-- ---- names that a text may have

pub name_by : (b : Bool) (text name : List ℕ) → Some name ≡ cond b (Some text) None → name ≡ text
name_by true text name same = cc
name_by false text name same = absurd (cc)

-- a name that a text has is the text
pub named_same : (text name : List ℕ) → Some name ≡ named_unit text → name ≡ text
named_same text name same = name_by (is_unit text) text name same

no_name_by : (b : Bool) (text : List ℕ) → None ≡ cond b (Some text) None → b ≡ false
no_name_by true text none = absurd (cc)
no_name_by false text none = refl

pub not_named : (text : List ℕ) → None ≡ named_unit text → is_unit text ≡ false
not_named text none = no_name_by (is_unit text) text none

-- what is no unit name can't be wanted
pub not_wanted : (own : List ℕ → Option (List Assignment)) (text unit : List ℕ) (had : Bool) → None ≡ named_unit text → had ≡ (had || (is_name unit text && can_be_wanted own text))
not_wanted own text unit had none =
    sym (ap (λ b. had || (is_name unit text && b))
    (ap (λ f. is_some (cond f (option_or (own text) (option_and_then own (template_of text))) None) && not (is_template text)) (not_named text none))
    ∙ ap (λ b. had || b) (and-false (is_name unit text)) ∙ or-false had)

-- ---- the text of a unit

pub found_unit : (own : List ℕ → Option (List Assignment)) (name : List ℕ) → IsUnitName name → find_text own name ≡ option_or (own name) (option_and_then own (template_of name))
found_unit own name is = ap (λ f. cond (is_none f) (option_or (own name) (option_and_then own (template_of name))) None) is

pub found_own : (own : List ℕ → Option (List Assignment)) (name : List ℕ) (text : List Assignment) → IsUnitName name → Some text ≡ own name → Some text ≡ find_text own name
found_own own name text is own_is = sym (found_unit own name is ∙ ap (λ o. option_or o (option_and_then own (template_of name))) (sym own_is))

pub found_by_template : (own : List ℕ → Option (List Assignment)) (name : List ℕ) (text : Option (List Assignment)) → IsUnitName name → None ≡ own name → text ≡ option_and_then own (template_of name) → text ≡ find_text own name
found_by_template own name text is none by = by ∙ sym (found_unit own name is ∙ ap (λ o. option_or o (option_and_then own (template_of name))) (sym none))

-- ---- the names of units

abbrev names_of : List Unit → List (List ℕ)
names_of units = map (λ unit. unit.name) units

abbrev with_part : List Unit → List Unit
with_part units = filter (λ unit. is_some unit.part) units

above_choice : (b : Bool) (a : List ℕ) (unit : Unit) (units : List Unit) → bytes_cmp a unit.name ≡ Less → AllByRecursion (λ c. bytes_cmp a c ≡ Less) (names_of units) →
    AllByRecursion (λ c. bytes_cmp a c ≡ Less) (names_of (cond b (unit ∷ units) units))
above_choice true a unit units less above = (less, above)
above_choice false a unit units less above = above

above_with_part : (a : List ℕ) (units : List Unit) → AllByRecursion (λ b. bytes_cmp a b ≡ Less) (names_of units) → AllByRecursion (λ b. bytes_cmp a b ≡ Less) (names_of (with_part units))
above_with_part a [] above = tt
above_with_part a (unit ∷ units) above = above_choice (is_some unit.part) a unit (with_part units) above.0 (above_with_part a units above.1)

sorted_choice : (b : Bool) (unit : Unit) (units : List Unit) → AllByRecursion (λ c. bytes_cmp unit.name c ≡ Less) (names_of units) → IsStrictlySortedBy bytes_cmp (names_of units) →
    IsStrictlySortedBy bytes_cmp (names_of (cond b (unit ∷ units) units))
unfolding IsStrictlySortedBy
sorted_choice true unit units above sorted = (above, sorted)
sorted_choice false unit units above sorted = sorted

sorted_with_part : (units : List Unit) → AreSorted units → IsStrictlySortedBy bytes_cmp (names_of (with_part units))
unfolding IsStrictlySortedBy
sorted_with_part [] sorted = tt
sorted_with_part (unit ∷ units) sorted = sorted_choice (is_some unit.part) unit (with_part units) (above_with_part unit.name units sorted.0) (sorted_with_part units sorted.1)

has_choice : (b own : Bool) (a : List ℕ) (unit : Unit) (units : List Unit) → is_name a unit.name ≡ own →
    has (names_of (cond b (unit ∷ units) units)) a ≡ cond b (own || has (names_of units) a) (has (names_of units) a)
has_choice true own a unit units is = ap (λ t. t || has (names_of units) a) is
has_choice false own a unit units is = refl

part_of_choice : (own : Bool) (unit : Unit) (rest : Option Unit) →
    is_some (option_map (λ one. one.text) (option_and_then (λ one. one.part) (cond own (Some unit) rest)))
    ≡ cond own (is_some unit.part) (is_some (option_map (λ one. one.text) (option_and_then (λ one. one.part) rest)))
part_of_choice true unit rest = by unit.part
  where
    by : (o : Option FilePart) → is_some (option_map (λ (one : FilePart). one.text) o) ≡ is_some o
    by None = refl
    by (Some part) = refl
part_of_choice false unit rest = refl

joined : (b own h : Bool) → (own ≡ true → h ≡ false) → cond b (own || h) h ≡ cond own b h
joined true true h lacks = refl
joined true false h lacks = refl
joined false true h lacks = lacks refl
joined false false h lacks = refl

above_same : (a b : List ℕ) (names : List (List ℕ)) → is_name a b ≡ true → AllByRecursion (λ c. bytes_cmp b c ≡ Less) names → has names a ≡ false
above_same a b names is above = subst (λ x. has names x ≡ false) (sym (name_exact a b is)) (above_lack b names above)

exact_with_part : (units : List Unit) (a : List ℕ) → AreSorted units → has (names_of (with_part units)) a ≡ is_some (own_in units a)
unfolding IsStrictlySortedBy
exact_with_part [] a sorted = refl
exact_with_part (unit ∷ units) a sorted =
    has_choice (is_some unit.part) (is_name a unit.name) a unit (with_part units) refl
    ∙ joined (is_some unit.part) (is_name a unit.name) (has (names_of (with_part units)) a) (λ is. above_same a unit.name (names_of (with_part units)) is (above_with_part unit.name units sorted.0))
    ∙ ap (cond (is_name a unit.name) (is_some unit.part)) (exact_with_part units a sorted.1)
    ∙ sym (part_of_choice (is_name a unit.name) unit (unit_in units a))

-- one unit name more is added
pub named_more : (names : List (List ℕ)) (name copied : List ℕ) (now : List (List ℕ)) → IsUnitName name → copied ≡ name → now ≡ names ++ copied ∷ [] →
    ((unit : List ℕ) → has names unit ≡ true → IsUnitName unit) → (unit : List ℕ) → has now unit ≡ true → IsUnitName unit
named_more names name copied now named same pushed each unit there =
    elim (or_cases (has names unit) (has (copied ∷ []) unit) (sym (ap (λ ns. has ns unit) pushed ∙ has-append names (copied ∷ []) unit) ∙ there)) [
      | inl before ↦ each unit before
      | inr last ↦ subst IsUnitName (sym (name_exact unit copied (sym (or-false (is_name unit copied)) ∙ last) ∙ same)) named
    ]

pub are_names : (units : List Unit) (names : List (List ℕ)) → AreSorted units → names ≡ map (λ (unit : Unit). unit.name) (filter (λ unit. is_some unit.part) units) →
    ((unit : List ℕ) → has names unit ≡ true → IsUnitName unit) → AreNamesOf units names
are_names units names sorted is named = record {
  sorted = subst (IsStrictlySortedBy bytes_cmp) (sym is) (sorted_with_part units sorted);
  exact = λ name. ap (λ ns. has ns name) is ∙ exact_with_part units name sorted;
  named = named;
}

sorted_none : AreSorted []
unfolding IsStrictlySortedBy
sorted_none = tt

-- nothing is defined where there are no units
pub no_defs : (names : List (List ℕ)) (units : List Unit) (wants : List Wants) (nothing : List (List ℕ)) → names ≡ [] → units ≡ [] → wants ≡ [] → nothing ≡ [] → IsDefs names units wants nothing
no_defs names units wants nothing no_names no_units no_wants none = record {
  in_order = subst AreSorted (sym no_units) sorted_none;
  their_names = subst (λ us. AreNamesOf us names) (sym no_units) (are_names [] names sorted_none no_names (λ unit there. absurd (both_ways _ (ap (λ ns. has ns unit) no_names) there)));
  their_wants = no_wants ∙ sym (ap (λ us. map (wants_for us) us) no_units);
  is_empty = none;
}
