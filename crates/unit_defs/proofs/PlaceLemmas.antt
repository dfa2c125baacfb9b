-- Which paths are the files of units.
use Rattle.std.proofs.Common.{◌≡◌, ℕ, ◌&&◌, Bool, true, false, cond, List, ◌++◌, length, drop, nat_eq, codes, Option, None, Some, is_none, option_and_then, refl, sym, ap, ◌∙◌}
use Rattle.std.specs.List.{after_first, before_first, list_any, starts_with}
use Rattle.std.specs.Option.{option_or}
use Rattle.std.proofs.lemmas.Bool.{both_ways}
use Rattle.std.proofs.lemmas.Bool.Decides.{Decides-eqb}
use Rattle.std.proofs.lemmas.Slice.Eq.{starts_is}
use Rattle.switch_names.specs.UnitName.{IsUnitName, is_unit, named_unit}
use Rattle.unit_defs.specs.declared.place.UnitPlace.{UnitPlace}
use Rattle.unit_defs.specs.declared.place.UnitPlace.TheVariants.{File, DropIn, Want}
use Rattle.unit_defs.specs.Found.{is_file}
use Rattle.switch_names.specs.Path.{is_slash}
use Rattle.switch_names.specs.Texts.{before_end}
use Rattle.switch_names.proofs.Cuts.{front_there}
use Rattle.unit_defs.specs.Place.{drop_in, drop_in_of, is_drop_in_name, place_after, place_below, place_in, want, want_of}
use Rattle.host_trait.proofs.NameOrder.{name_exact, name_itself}
use Rattle.unit_defs.proofs.NameLemmas.{name_by, not_named}

-- ---- what a path says, by the names in it

file_by : (b : Bool) (rest unit : List ℕ) (other : Option UnitPlace) → Some unit ≡ cond b (Some rest) None → Some (File unit) ≡ cond b (Some (File rest)) other
file_by true rest unit other is = ap (λ u. Some (File u)) (name_by true rest unit is)
file_by false rest unit other is = absurd (cc)

pub placed_file : (rest unit : List ℕ) → Some unit ≡ named_unit rest → Some (File unit) ≡ place_in rest
placed_file rest unit is = file_by (is_unit rest) rest unit _ is

-- a drop-in by what its folder and its name have before their endings
pub placed_drop_in : (folder name front stem unit copy : List ℕ) (holds : Bool) → Some front ≡ before_end (codes ".d") folder → Some stem ≡ before_end (codes ".conf") name →
    holds ≡ is_drop_in_name stem → holds ≡ true → Some unit ≡ named_unit front → copy ≡ stem → Some (DropIn unit copy) ≡ drop_in folder name
placed_drop_in folder name front stem unit copy holds is_front is_stem tested passes is same =
    ap (λ text. Some (DropIn unit text)) same ∙ by (is_unit front) is ∙ ap (λ b. cond (b && is_unit front) (Some (DropIn front stem)) None) (sym passes ∙ tested) ∙ (λ i. drop_in_of (is_front i) (is_stem i))
  where
    by : (b : Bool) → Some unit ≡ cond b (Some front) None → Some (DropIn unit stem) ≡ cond b (Some (DropIn front stem)) None
    by true is = ap (λ text. Some (DropIn text stem)) (name_by true front unit is)
    by false is = absurd (both_ways false refl (ap (λ o. is_none o) is))

-- a wanted unit by what its folder has before its ending
pub placed_want : (end folder name front unit wanted : List ℕ) → Some front ≡ before_end end folder → Some unit ≡ named_unit front → Some wanted ≡ named_unit name → Some (Want unit wanted) ≡ want end folder name
placed_want end folder name front unit wanted is_front is_unit_name is_wanted = by (is_unit front) (is_unit name) is_unit_name is_wanted ∙ ap (λ o. want_of o name) is_front
  where
    by : (a b : Bool) → Some unit ≡ cond a (Some front) None → Some wanted ≡ cond b (Some name) None → Some (Want unit wanted) ≡ cond (a && b) (Some (Want front name)) None
    by true true first second = λ i. Some (Want (name_by true front unit first i) (name_by true name wanted second i))
    by true false first second = absurd (both_ways false refl (ap (λ o. is_none o) second))
    by false b first second = absurd (both_ways false refl (ap (λ o. is_none o) first))

-- where the unit is no name there is no drop-in
pub no_drop_in : (folder name front stem : List ℕ) → Some front ≡ before_end (codes ".d") folder → Some stem ≡ before_end (codes ".conf") name → None ≡ named_unit front → None ≡ drop_in folder name
no_drop_in folder name front stem is_front is_stem none =
    by (is_drop_in_name stem) ∙ sym (ap (λ b. cond (is_drop_in_name stem && b) (Some (DropIn front stem)) None) (not_named front none)) ∙ (λ i. drop_in_of (is_front i) (is_stem i))
  where
    by : (a : Bool) → None ≡ cond (a && false) (Some (DropIn front stem)) None
    by true = refl
    by false = refl

-- where one of the two is no name there is no wanted unit
pub no_unit_wants : (end folder name front : List ℕ) → Some front ≡ before_end end folder → None ≡ named_unit front → None ≡ want end folder name
no_unit_wants end folder name front is_front none =
    sym (ap (λ b. cond (b && is_unit name) (Some (Want front name)) None) (not_named front none)) ∙ ap (λ o. want_of o name) is_front

pub no_unit_wanted : (end folder name front : List ℕ) → Some front ≡ before_end end folder → None ≡ named_unit name → None ≡ want end folder name
no_unit_wanted end folder name front is_front none =
    by (is_unit front) ∙ sym (ap (λ b. cond (is_unit front && b) (Some (Want front name)) None) (not_named name none)) ∙ ap (λ o. want_of o name) is_front
  where
    by : (a : Bool) → None ≡ cond (a && false) (Some (Want front name)) None
    by true = refl
    by false = refl

module _ (rest : List ℕ) (none : None ≡ named_unit rest) where
  abbrev below : Option UnitPlace
  below = place_below (before_first is_slash rest) (after_first is_slash rest)

  placed_by : (b : Bool) → list_any is_slash rest ≡ b → place_in rest ≡ cond b below None
  placed_by b is = ap (λ t. cond t (Some (File rest)) (cond (list_any is_slash rest) below None)) (not_named rest none) ∙ ap (λ t. cond t below None) is

  pub placed_nowhere : list_any is_slash rest ≡ false → None ≡ place_in rest
  placed_nowhere lacks = sym (placed_by false lacks)

  pub placed_below : (folder name : List ℕ) (place : Option UnitPlace) → list_any is_slash rest ≡ true → folder ≡ before_first is_slash rest → name ≡ after_first is_slash rest →
      place ≡ place_below folder name → place ≡ place_in rest
  placed_below folder name place has is_folder is_name is =
      is ∙ ap (λ f. place_below f name) is_folder ∙ ap (place_below (before_first is_slash rest)) is_name ∙ sym (placed_by true has)

-- ---- which paths are files

drop_in_no_file : (unit : List ℕ) (folder name : Option (List ℕ)) → is_file unit (drop_in_of folder name) ≡ false
drop_in_no_file unit None name = refl
drop_in_no_file unit (Some folder) None = refl
drop_in_no_file unit (Some folder) (Some name) = by (is_drop_in_name name && is_unit folder)
  where
    by : (b : Bool) → is_file unit (cond b (Some (DropIn folder name)) None) ≡ false
    by true = refl
    by false = refl

want_no_file : (unit : List ℕ) (folder : Option (List ℕ)) (name : List ℕ) → is_file unit (want_of folder name) ≡ false
want_no_file unit None name = refl
want_no_file unit (Some folder) name = by (is_unit folder && is_unit name)
  where
    by : (b : Bool) → is_file unit (cond b (Some (Want folder name)) None) ≡ false
    by true = refl
    by false = refl

either_no_file : (unit : List ℕ) (a b : Option UnitPlace) → is_file unit a ≡ false → is_file unit b ≡ false → is_file unit (option_or a b) ≡ false
either_no_file unit None b first second = second
either_no_file unit (Some a) b first second = first

below_no_file : (unit folder name : List ℕ) → is_file unit (place_below folder name) ≡ false
below_no_file unit folder name =
    either_no_file unit (drop_in folder name) _ (drop_in_no_file unit (before_end (codes ".d") folder) (before_end (codes ".conf") name))
    (either_no_file unit (want (codes ".wants") folder name) (want (codes ".requires") folder name)
    (want_no_file unit (before_end (codes ".wants") folder) name) (want_no_file unit (before_end (codes ".requires") folder) name))

in_folder : (unit rest : List ℕ) → is_file unit (place_in rest) ≡ true → rest ≡ unit
in_folder unit rest is = by (is_unit rest) (list_any is_slash rest) is
  where
    by : (named slashed : Bool) → is_file unit (cond named (Some (File rest)) (cond slashed (place_below (before_first is_slash rest) (after_first is_slash rest)) None)) ≡ true → rest ≡ unit
    by true slashed is = name_exact rest unit is
    by false true is = absurd (both_ways _ (below_no_file unit (before_first is_slash rest) (after_first is_slash rest)) is)
    by false false is = absurd (both_ways false refl is)

-- the path of what is a unit's file
pub file_path : (front path unit : List ℕ) → is_file unit (place_after front path) ≡ true → path ≡ front ++ unit
file_path front path unit is = by (starts_with nat_eq path front) refl is
  where
    by : (b : Bool) → starts_with nat_eq path front ≡ b → is_file unit (option_and_then place_in (cond b (Some (drop (length front) path)) None)) ≡ true → path ≡ front ++ unit
    by true starts is = (starts_is Decides-eqb path front (starts_with nat_eq path front) refl).0 starts ∙ ap (λ rest. front ++ rest) (in_folder unit (drop (length front) path) is)
    by false starts is = absurd (cc)

-- at the path of a unit's file there is one
pub file_there : (front unit : List ℕ) → IsUnitName unit → is_file unit (place_after front (front ++ unit)) ≡ true
file_there front unit named =
    ap (λ o. is_file unit (option_and_then place_in o)) (front_there front unit)
    ∙ ap (λ f. is_file unit (cond (is_none f) (Some (File unit)) (cond (list_any is_slash unit) (place_below (before_first is_slash unit) (after_first is_slash unit)) None))) named
    ∙ name_itself unit
