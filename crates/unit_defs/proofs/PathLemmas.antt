-- What stands at a path in the folder of units is told by its names.
use Rattle.std.proofs.Common.{◌≡◌, ◌⊎◌, ℕ, suc, ◌-◌, ◌+◌, ◌&&◌, ◌||◌, not, Bool, true, false, cond, List, [], ◌∷◌, ◌++◌, length, take, drop, nat_eq, codes, Option, None, Some, is_none, option_and_then, refl, sym, ap, subst, ◌∙◌, inl, inr, append_assoc, length-append, arith}
use Rattle.std.specs.List.{after_first, before_first, ends_with, list_any, position_or_len}
use Rattle.std.specs.Option.{option_or}
use Rattle.std.proofs.lemmas.Bool.{and_parts, both_ways, cases_Bool, or_right}
use Rattle.std.proofs.lemmas.Bool.Decides.{Decides-eqb}
use Rattle.std.proofs.lemmas.List.{drop_at, take_at}
use Rattle.std.proofs.lemmas.List.Folds.{list_any-append, list_any_none}
use Rattle.std.proofs.lemmas.Slice.Eq.{ends_is}
use Rattle.std.proofs.lemmas.Option.{cond_some, same_Some}
use Rattle.switch_names.specs.declared.name_fault.NameFault.{NameFault}
use Rattle.switch_names.specs.Path.{slash, is_slash}
use Rattle.switch_names.specs.UnitName.{IsUnitName, is_no_unit_byte, unit_fault, is_unit}
use Rattle.switch_names.proofs.UnitNames.{IsShortName-from_name}
use Rattle.switch_names.proofs.Cuts.{front_is, front_there}
use Rattle.unit_defs.specs.declared.place.UnitPlace.{UnitPlace}
use Rattle.unit_defs.specs.declared.place.UnitPlace.TheVariants.{File, DropIn, Want}
use Rattle.switch_names.specs.Texts.{after_front, before_end}
use Rattle.unit_defs.specs.Place.{ArePlacesNamed, StandsAt, drop_in, drop_in_of, is_drop_in_name, path_of, place_below, place_in, place_of, unit_folder, want, want_of}

-- ---- fronts, ends and slashes of texts

end_is : (end text stem : List ℕ) → before_end end text ≡ Some stem → text ≡ stem ++ end
end_is end text stem is =
    let parts = cond_some (ends_with nat_eq text end) (take (length text - length end) text) stem is in
    (ends_is Decides-eqb text end (ends_with nat_eq text end) refl).0 parts.0 ∙ ap (λ s. s ++ end) parts.1

end_there : (end stem : List ℕ) → before_end end (stem ++ end) ≡ Some stem
end_there end stem =
    ap (λ b. cond b (Some (take (length (stem ++ end) - length end) (stem ++ end))) None) ((ends_is Decides-eqb (stem ++ end) end (ends_with nat_eq (stem ++ end) end) refl).1 stem refl)
    ∙ ap (λ r. Some r) (take_at stem end (length (stem ++ end) - length end) (omega (arith, length-append stem end)))

lacking : (b : Bool) (x : List ℕ) → (b ≡ true → ⊥) → cond b (Some x) None ≡ None
lacking true x lacks = absurd (lacks refl)
lacking false x lacks = refl

no_end : (end text : List ℕ) → ((stem : List ℕ) → text ≡ stem ++ end → ⊥) → before_end end text ≡ None
no_end end text lacks = lacking (ends_with nat_eq text end) (take (length text - length end) text)
    (λ is. lacks (take (length text - length end) text) ((ends_is Decides-eqb text end (ends_with nat_eq text end) refl).0 is))

-- lists that end with one element each
last_same : (xs ys : List ℕ) (a b : ℕ) → xs ++ a ∷ [] ≡ ys ++ b ∷ [] → (xs ≡ ys) × (a ≡ b)
last_same [] [] a b is = (refl, cc)
last_same [] (y ∷ []) a b is = absurd (cc)
last_same [] (y ∷ z ∷ ys) a b is = absurd (cc)
last_same (x ∷ []) [] a b is = absurd (cc)
last_same (x ∷ z ∷ xs) [] a b is = absurd (cc)
last_same (x ∷ xs) (y ∷ ys) a b is =
    let rest : xs ++ a ∷ [] ≡ ys ++ b ∷ [] = cc in
    let head : x ≡ y = cc in
    let same = last_same xs ys a b rest in
    ((λ i. head i ∷ same.0 i), same.1)

any_slash : (byte : ℕ) → is_no_unit_byte byte ≡ false → is_slash byte ≡ false
any_slash byte is = elim (cases_Bool (is_slash byte)) [
  | inl slashed ↦ absurd (both_ways (is_no_unit_byte byte) is (subst (λ b. is_no_unit_byte b ≡ true) (sym ((Decides-eqb byte slash).0 slashed)) refl))
  | inr other ↦ other
]

-- the name of a unit has no slash
no_slash : (name : List ℕ) → IsUnitName name → list_any is_slash name ≡ false
no_slash name named = list_any_none is_slash name (λ i d within. any_slash _ ((IsShortName-from_name name named).bytes i d within))

or_false : (a b : Bool) → a ≡ false → b ≡ false → (a || b) ≡ false
or_false true b first second = first
or_false false b first second = second

before_at : (xs ys : List ℕ) → list_any is_slash xs ≡ false → position_or_len is_slash (xs ++ slash ∷ ys) ≡ length xs
before_at [] ys none = refl
before_at (x ∷ xs) ys none = by (is_slash x) refl (before_at xs ys)
  where
    by : (b : Bool) → is_slash x ≡ b → (list_any is_slash xs ≡ false → position_or_len is_slash (xs ++ slash ∷ ys) ≡ length xs) → cond (not (is_slash x)) (1 + position_or_len is_slash (xs ++ slash ∷ ys)) 0 ≡ suc (length xs)
    by true is rest = absurd (both_ways _ none (ap (λ b. b || list_any is_slash xs) is))
    by false is rest = ap (λ b. cond (not b) (1 + position_or_len is_slash (xs ++ slash ∷ ys)) 0) is
        ∙ omega (arith, rest (sym (ap (λ b. b || list_any is_slash xs) is) ∙ none))

first_part : (xs ys : List ℕ) → list_any is_slash xs ≡ false → before_first is_slash (xs ++ slash ∷ ys) ≡ xs
first_part xs ys none = take_at xs (slash ∷ ys) (position_or_len is_slash (xs ++ slash ∷ ys)) (sym (before_at xs ys none))

second_part : (xs ys : List ℕ) → list_any is_slash xs ≡ false → after_first is_slash (xs ++ slash ∷ ys) ≡ ys
second_part xs ys none =
    ap (λ t. drop (position_or_len is_slash (xs ++ slash ∷ ys) + 1) t) (sym (append_assoc xs (slash ∷ []) ys))
    ∙ drop_at (xs ++ slash ∷ []) ys (position_or_len is_slash (xs ++ slash ∷ ys) + 1) (omega (arith, before_at xs ys none, length-append xs (slash ∷ [])))

cut_at : (text : List ℕ) → list_any is_slash text ≡ true → text ≡ before_first is_slash text ++ slash ∷ after_first is_slash text
cut_at [] some = absurd (cc)
cut_at (x ∷ text) some = by (is_slash x) refl (cut_at text)
  where
    by : (b : Bool) → is_slash x ≡ b → (list_any is_slash text ≡ true → text ≡ before_first is_slash text ++ slash ∷ after_first is_slash text) →
        x ∷ text ≡ take (cond (not (is_slash x)) (1 + position_or_len is_slash text) 0) (x ∷ text) ++ slash ∷ drop (cond (not (is_slash x)) (1 + position_or_len is_slash text) 0 + 1) (x ∷ text)
    by true is rest =
        ap (λ b. b ∷ text) ((Decides-eqb x slash).0 is)
        ∙ sym (ap (λ b. take (cond (not b) (1 + position_or_len is_slash text) 0) (x ∷ text) ++ slash ∷ drop (cond (not b) (1 + position_or_len is_slash text) 0 + 1) (x ∷ text)) is)
    by false is rest =
        ap (λ t. x ∷ t) (rest (sym (ap (λ b. b || list_any is_slash text) is) ∙ some))
        ∙ sym (ap (λ b. take (cond (not b) (1 + position_or_len is_slash text) 0) (x ∷ text) ++ slash ∷ drop (cond (not b) (1 + position_or_len is_slash text) 0 + 1) (x ∷ text)) is ∙ more)
      where
        next : 1 + position_or_len is_slash text ≡ suc (position_or_len is_slash text)
        next = omega arith

        further : 1 + position_or_len is_slash text + 1 ≡ suc (position_or_len is_slash text + 1)
        further = omega arith

        more : take (1 + position_or_len is_slash text) (x ∷ text) ++ slash ∷ drop (1 + position_or_len is_slash text + 1) (x ∷ text) ≡ x ∷ (before_first is_slash text ++ slash ∷ after_first is_slash text)
        more = ap (λ n. take n (x ∷ text) ++ slash ∷ drop (1 + position_or_len is_slash text + 1) (x ∷ text)) next ∙ ap (λ n. (x ∷ before_first is_slash text) ++ slash ∷ drop n (x ∷ text)) further

-- ---- what stands in a folder of a unit

abbrev Below : List ℕ → List ℕ → UnitPlace → Type 0
Below folder name (File unit) = ⊥
Below folder name (DropIn unit stem) = IsUnitName unit × (is_drop_in_name stem ≡ true) × (folder ≡ unit ++ codes ".d") × (name ≡ stem ++ codes ".conf")
Below folder name (Want unit other) = IsUnitName unit × IsUnitName other × (name ≡ other) × ((folder ≡ unit ++ codes ".wants") ⊎ (folder ≡ unit ++ codes ".requires"))

unit_from : (name : List ℕ) → is_unit name ≡ true → IsUnitName name
unit_from name is = by (unit_fault name) is
  where
    by : (o : Option NameFault) → is_none o ≡ true → o ≡ None
    by None is = refl
    by (Some fault) is = absurd (cc)

unit_to : (name : List ℕ) → IsUnitName name → is_unit name ≡ true
unit_to name named = ap (λ o. is_none o) named

or_cases : {X : Type 0} (a b : Option X) (x : X) → option_or a b ≡ Some x → (a ≡ Some x) ⊎ (b ≡ Some x)
or_cases None b x is = inr is
or_cases (Some y) b x is = inl is

drop_in_to : (folder name : List ℕ) (place : UnitPlace) → drop_in folder name ≡ Some place → Below folder name place
drop_in_to folder name place is = by (before_end (codes ".d") folder) (before_end (codes ".conf") name) refl refl is
  where
    by : (unit stem : Option (List ℕ)) → before_end (codes ".d") folder ≡ unit → before_end (codes ".conf") name ≡ stem → drop_in_of unit stem ≡ Some place → Below folder name place
    by None stem is_unit_end is_stem is = absurd (cc)
    by (Some unit) None is_unit_end is_stem is = absurd (cc)
    by (Some unit) (Some stem) is_unit_end is_stem is =
        let parts = cond_some (is_drop_in_name stem && is_unit unit) (DropIn unit stem) place is in
        let tests = and_parts (is_drop_in_name stem) (is_unit unit) parts.0 in
        subst (Below folder name) parts.1 (unit_from unit tests.1, tests.0, end_is (codes ".d") folder unit is_unit_end, end_is (codes ".conf") name stem is_stem)

want_to : (end folder name : List ℕ) (place : UnitPlace) → want end folder name ≡ Some place →
    (unit : List ℕ) × (place ≡ Want unit name) × IsUnitName unit × IsUnitName name × (folder ≡ unit ++ end)
want_to end folder name place is = by (before_end end folder) refl is
  where
    by : (unit : Option (List ℕ)) → before_end end folder ≡ unit → want_of unit name ≡ Some place → (u : List ℕ) × (place ≡ Want u name) × IsUnitName u × IsUnitName name × (folder ≡ u ++ end)
    by None is_unit_end is = absurd (cc)
    by (Some unit) is_unit_end is =
        let parts = cond_some (is_unit unit && is_unit name) (Want unit name) place is in
        let tests = and_parts (is_unit unit) (is_unit name) parts.0 in
        (unit, sym parts.1, unit_from unit tests.0, unit_from name tests.1, end_is end folder unit is_unit_end)

below_to : (folder name : List ℕ) (place : UnitPlace) → place_below folder name ≡ Some place → Below folder name place
below_to folder name place is = elim (or_cases (drop_in folder name) (option_or (want (codes ".wants") folder name) (want (codes ".requires") folder name)) place is) [
  | inl first ↦ drop_in_to folder name place first
  | inr then ↦ elim (or_cases (want (codes ".wants") folder name) (want (codes ".requires") folder name) place then) [
    | inl wants ↦ let there = want_to (codes ".wants") folder name place wants in subst (Below folder name) (sym there.1) (there.2, there.3, refl, inl there.4)
    | inr requires ↦ let there = want_to (codes ".requires") folder name place requires in subst (Below folder name) (sym there.1) (there.2, there.3, refl, inr there.4)
  ]
]

other_end : (end short : List ℕ) (last : ℕ) (unit stem : List ℕ) (byte : ℕ) → end ≡ short ++ last ∷ [] → (byte ≡ last → ⊥) → (front : List ℕ) → unit ≡ front ++ byte ∷ [] → unit ≡ stem ++ end → ⊥
other_end end short last unit stem byte is differs front ends same =
    differs (last_same front (stem ++ short) byte last (sym ends ∙ same ∙ ap (λ e. stem ++ e) is ∙ sym (append_assoc stem short (last ∷ [])))).1

wants_no_drop_in : (unit : List ℕ) → before_end (codes ".d") (unit ++ codes ".wants") ≡ None
wants_no_drop_in unit = no_end (codes ".d") (unit ++ codes ".wants") (λ stem same.
    other_end (codes ".d") (codes ".") 100 (unit ++ codes ".wants") stem 115 refl (λ e. omega arith) (unit ++ codes ".want") (sym (append_assoc unit (codes ".want") (codes "s"))) same)

requires_no_drop_in : (unit : List ℕ) → before_end (codes ".d") (unit ++ codes ".requires") ≡ None
requires_no_drop_in unit = no_end (codes ".d") (unit ++ codes ".requires") (λ stem same.
    other_end (codes ".d") (codes ".") 100 (unit ++ codes ".requires") stem 115 refl (λ e. omega arith) (unit ++ codes ".require") (sym (append_assoc unit (codes ".require") (codes "s"))) same)

requires_no_wants : (unit : List ℕ) → before_end (codes ".wants") (unit ++ codes ".requires") ≡ None
requires_no_wants unit = no_end (codes ".wants") (unit ++ codes ".requires") (λ stem same.
    let fronts = last_same (unit ++ codes ".require") (stem ++ codes ".want") 115 115
    (append_assoc unit (codes ".require") (codes "s") ∙ same ∙ sym (append_assoc stem (codes ".want") (codes "s"))) in
    other_end (codes ".want") (codes ".wan") 116 (unit ++ codes ".require") stem 101 refl (λ e. omega arith) (unit ++ codes ".requir") (sym (append_assoc unit (codes ".requir") (codes "e"))) fronts.0)

want_there : (end unit name : List ℕ) → IsUnitName unit → IsUnitName name → want end (unit ++ end) name ≡ Some (Want unit name)
want_there end unit name is_unit_name is_name =
    ap (λ o. want_of o name) (end_there end unit)
    ∙ ap (λ b. cond (b && is_unit name) (Some (Want unit name)) None) (unit_to unit is_unit_name)
    ∙ ap (λ b. cond b (Some (Want unit name)) None) (unit_to name is_name)

drop_in_there : (unit stem : List ℕ) → IsUnitName unit → is_drop_in_name stem ≡ true → place_below (unit ++ codes ".d") (stem ++ codes ".conf") ≡ Some (DropIn unit stem)
drop_in_there unit stem named is =
    let there : drop_in (unit ++ codes ".d") (stem ++ codes ".conf") ≡ Some (DropIn unit stem) =
    ap (λ o. drop_in_of o (before_end (codes ".conf") (stem ++ codes ".conf"))) (end_there (codes ".d") unit)
    ∙ ap (drop_in_of (Some unit)) (end_there (codes ".conf") stem)
    ∙ ap (λ b. cond (b && is_unit unit) (Some (DropIn unit stem)) None) is
    ∙ ap (λ b. cond b (Some (DropIn unit stem)) None) (unit_to unit named) in
    ap (λ o. option_or o (option_or (want (codes ".wants") (unit ++ codes ".d") (stem ++ codes ".conf")) (want (codes ".requires") (unit ++ codes ".d") (stem ++ codes ".conf")))) there

wants_there : (unit name : List ℕ) → IsUnitName unit → IsUnitName name → place_below (unit ++ codes ".wants") name ≡ Some (Want unit name)
wants_there unit name is_unit_name is_name =
    ap (λ o. option_or (drop_in_of o (before_end (codes ".conf") name)) (option_or (want (codes ".wants") (unit ++ codes ".wants") name) (want (codes ".requires") (unit ++ codes ".wants") name))) (wants_no_drop_in unit)
    ∙ ap (λ o. option_or o (want (codes ".requires") (unit ++ codes ".wants") name)) (want_there (codes ".wants") unit name is_unit_name is_name)

requires_there : (unit name : List ℕ) → IsUnitName unit → IsUnitName name → place_below (unit ++ codes ".requires") name ≡ Some (Want unit name)
requires_there unit name is_unit_name is_name =
    ap (λ o. option_or (drop_in_of o (before_end (codes ".conf") name)) (option_or (want (codes ".wants") (unit ++ codes ".requires") name) (want (codes ".requires") (unit ++ codes ".requires") name))) (requires_no_drop_in unit)
    ∙ ap (λ o. option_or (want_of o name) (want (codes ".requires") (unit ++ codes ".requires") name)) (requires_no_wants unit)
    ∙ want_there (codes ".requires") unit name is_unit_name is_name

-- ---- what stands in the folder of units

-- what is cut at a slash stands in a folder
in_folder_there : (folder name : List ℕ) → list_any is_slash folder ≡ false → place_in (folder ++ slash ∷ name) ≡ place_below folder name
in_folder_there folder name none =
    let rest : List ℕ = folder ++ slash ∷ name in
    let slashed : list_any is_slash rest ≡ true = list_any-append is_slash folder (slash ∷ name) ∙ or_right (list_any is_slash folder) true refl in
    let not_unit : is_unit rest ≡ false = elim (cases_Bool (is_unit rest)) [
      | inl named ↦ absurd (both_ways _ (no_slash rest (unit_from rest named)) slashed)
      | inr other ↦ other
    ] in
    ap (λ b. cond b (Some (File rest)) (cond (list_any is_slash rest) (place_below (before_first is_slash rest) (after_first is_slash rest)) None)) not_unit
    ∙ ap (λ b. cond b (place_below (before_first is_slash rest) (after_first is_slash rest)) None) slashed
    ∙ ap (λ f. place_below f (after_first is_slash rest)) (first_part folder name none)
    ∙ ap (place_below folder) (second_part folder name none)

no_slash_end : (unit end : List ℕ) → IsUnitName unit → list_any is_slash end ≡ false → list_any is_slash (unit ++ end) ≡ false
no_slash_end unit end named none = list_any-append is_slash unit end ∙ or_false (list_any is_slash unit) (list_any is_slash end) (no_slash unit named) none

place_there : (system : List ℕ) (rest : List ℕ) → place_of system (path_of system rest) ≡ place_in rest
place_there system rest =
    ap (λ p. option_and_then place_in (after_front (path_of system []) p)) (sym (append_assoc (unit_folder system) (slash ∷ []) rest))
    ∙ ap (option_and_then place_in) (front_there (path_of system []) rest)

stands_there : (system : List ℕ) (folder name : List ℕ) (end : List ℕ) (unit : List ℕ) → folder ≡ unit ++ end → IsUnitName unit → list_any is_slash end ≡ false →
    place_of system (path_of system (unit ++ (end ++ slash ∷ name))) ≡ place_below (unit ++ end) name
stands_there system folder name end unit is named none =
    place_there system (unit ++ (end ++ slash ∷ name)) ∙ ap place_in (sym (append_assoc unit end (slash ∷ name))) ∙ in_folder_there (unit ++ end) name (no_slash_end unit end named none)

place_from : (system path : List ℕ) (place : UnitPlace) → StandsAt system path place → place_of system path ≡ Some place
place_from system path (File unit) is =
    ap (place_of system) is.1 ∙ place_there system unit
    ∙ ap (λ b. cond b (Some (File unit)) (cond (list_any is_slash unit) (place_below (before_first is_slash unit) (after_first is_slash unit)) None)) (unit_to unit is.0)
place_from system path (DropIn unit stem) is =
    ap (place_of system) is.2 ∙ stands_there system (unit ++ codes ".d") (stem ++ codes ".conf") (codes ".d") unit refl is.0 refl ∙ drop_in_there unit stem is.0 is.1
place_from system path (Want unit name) is = elim is.2 [
  | inl wants ↦ ap (place_of system) wants ∙ stands_there system (unit ++ codes ".wants") name (codes ".wants") unit refl is.0 refl ∙ wants_there unit name is.0 is.1
  | inr requires ↦ ap (place_of system) requires ∙ stands_there system (unit ++ codes ".requires") name (codes ".requires") unit refl is.0 refl ∙ requires_there unit name is.0 is.1
]

cut_path : (system path folder name unit end : List ℕ) → path ≡ path_of system (folder ++ slash ∷ name) → folder ≡ unit ++ end → path ≡ path_of system (unit ++ (end ++ slash ∷ name))
cut_path system path folder name unit end is folder_is = is ∙ ap (λ f. path_of system (f ++ slash ∷ name)) folder_is ∙ ap (path_of system) (append_assoc unit end (slash ∷ name))

below_stands : (system path folder name : List ℕ) (place : UnitPlace) → path ≡ path_of system (folder ++ slash ∷ name) → Below folder name place → StandsAt system path place
below_stands system path folder name (File unit) is there = absurd there
below_stands system path folder name (DropIn unit stem) is there =
    (there.0, there.1, cut_path system path folder name unit (codes ".d") is there.2 ∙ ap (λ n. path_of system (unit ++ (codes ".d" ++ slash ∷ n))) there.3)
below_stands system path folder name (Want unit other) is there = (
  there.0,
  there.1,
  elim there.3 [
    | inl wants ↦ inl (cut_path system path folder name unit (codes ".wants") is wants ∙ ap (λ n. path_of system (unit ++ (codes ".wants" ++ slash ∷ n))) there.2)
    | inr requires ↦ inr (cut_path system path folder name unit (codes ".requires") is requires ∙ ap (λ n. path_of system (unit ++ (codes ".requires" ++ slash ∷ n))) there.2)
  ],
)

no_place : (place : UnitPlace) → None ≡ Some place → ⊥
no_place place is = both_ways true (ap (λ o. is_none o) is) refl

in_to : (system path rest : List ℕ) (place : UnitPlace) → path ≡ path_of system rest → place_in rest ≡ Some place → StandsAt system path place
in_to system path rest place is stands = by (is_unit rest) (list_any is_slash rest) refl refl stands
  where
    by : (named slashed : Bool) → is_unit rest ≡ named → list_any is_slash rest ≡ slashed →
        cond named (Some (File rest)) (cond slashed (place_below (before_first is_slash rest) (after_first is_slash rest)) None) ≡ Some place → StandsAt system path place
    by true slashed named some stands = subst (StandsAt system path) (same_Some (File rest) place stands) (unit_from rest named, is)
    by false true named some stands =
        below_stands system path (before_first is_slash rest) (after_first is_slash rest) place (is ∙ ap (path_of system) (cut_at rest some))
        (below_to (before_first is_slash rest) (after_first is_slash rest) place stands)
    by false false named some stands = absurd (no_place place stands)

place_to : (system path : List ℕ) (place : UnitPlace) → place_of system path ≡ Some place → StandsAt system path place
place_to system path place is = by (after_front (path_of system []) path) refl is
  where
    by : (o : Option (List ℕ)) → after_front (path_of system []) path ≡ o → option_and_then place_in o ≡ Some place → StandsAt system path place
    by None front is = absurd (cc)
    by (Some rest) front is = in_to system path rest place (front_is (path_of system []) path rest front ∙ append_assoc (unit_folder system) (slash ∷ []) rest) is

-- what stands at a path is told by its names, and nothing else is
pub places_named : ArePlacesNamed
places_named = λ system path place. (place_to system path place, place_from system path place)
