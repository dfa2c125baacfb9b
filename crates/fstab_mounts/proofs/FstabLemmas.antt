-- The units of lines, and the first of each name.
use Rattle.std.proofs.Common.{◌≡◌, ℕ, ◌<◌, ◌||◌, Bool, true, false, not, cond, List, [], ◌∷◌, ◌++◌, length, filter, map, Bor, None, arith, refl, sym, ap, ◌∙◌}
use Rattle.std.proofs.lemmas.Bool.{false_from_ne_true, false≢true, not-true}
use Rattle.std.proofs.lemmas.List.Elements.{filter-append}
use Rattle.std.proofs.lemmas.Str.{IsUtf8-from_is_utf8, is_utf8-from_IsUtf8}
use Rattle.std.specs.Str.{IsUtf8, is_utf8}
use Rattle.switch_names.specs.Names.{Name, has, is_name}
use Rattle.switch_names.proofs.Names.{name_turned}
use Rattle.fstab_mounts.specs.declared.fs_unit.FsUnit.{FsUnit}
use Rattle.fstab_mounts.specs.Fields.{fields_of}
use Rattle.fstab_mounts.specs.Fstab.{first_of_each, unit_of_fields, unit_of_line}

-- a line that isn't UTF-8 gives nothing
pub no_text : (line : List ℕ) → (IsUtf8 line → ⊥) → None ≡ unit_of_line line
no_text line bad = sym (ap (λ b. cond b (unit_of_fields (fields_of line)) None) (false_from_ne_true (is_utf8 line) (λ is. bad (IsUtf8-from_is_utf8 line is))))

pub some_text : (line : List ℕ) → IsUtf8 line → unit_of_fields (fields_of line) ≡ unit_of_line line
some_text line text = sym (ap (λ b. cond b (unit_of_fields (fields_of line)) None) (is_utf8-from_IsUtf8 line text))

-- fewer than four fields give nothing
pub few : (fields : List (Bor (List ℕ))) → length fields < 4 → None ≡ unit_of_fields (map (λ (f : Bor (List ℕ)). f.now) fields)
few [] h = refl
few (a ∷ []) h = refl
few (a ∷ b ∷ []) h = refl
few (a ∷ b ∷ d ∷ []) h = refl
few (a ∷ b ∷ d ∷ e ∷ more) h = absurd (omega arith)

pub not_false : (b : Bool) → not b ≡ false → b ≡ true
not_false true h = refl
not_false false h = absurd (false≢true (sym h))

abbrev pub units_names : List FsUnit → List Name
units_names units = map (λ (unit : FsUnit). unit.unit) units

-- one more unit is new or not
pub first_more : (units : List FsUnit) (unit : FsUnit) → first_of_each (units ++ unit ∷ []) ≡ first_of_each units ++ cond (has (units_names units) unit.unit) [] (unit ∷ [])
first_more [] unit = refl
first_more (x ∷ units) unit =
    ap (λ rest. x ∷ filter (λ (other : FsUnit). not (is_name x.unit other.unit)) rest) (first_more units unit)
    ∙ ap (λ rest. x ∷ rest) (filter-append (λ (other : FsUnit). not (is_name x.unit other.unit)) (first_of_each units) (cond (has (units_names units) unit.unit) [] (unit ∷ [])))
    ∙ ap (λ rest. x ∷ (filter (λ (other : FsUnit). not (is_name x.unit other.unit)) (first_of_each units) ++ rest)) (tail (is_name unit.unit x.unit) (has (units_names units) unit.unit) (name_turned x.unit unit.unit))
  where
    tail : (t h : Bool) → is_name x.unit unit.unit ≡ t → filter (λ (other : FsUnit). not (is_name x.unit other.unit)) (cond h [] (unit ∷ [])) ≡ cond (t || h) [] (unit ∷ [])
    tail true true e = refl
    tail false true e = refl
    tail true false e = ap (λ b. cond (not b) (unit ∷ []) []) e
    tail false false e = ap (λ b. cond (not b) (unit ∷ []) []) e

-- the names with one more
pub names_more : (units : List FsUnit) (unit : FsUnit) (name : Name) → has (units_names (units ++ unit ∷ [])) name ≡ cond (is_name unit.unit name) true (has (units_names units) name)
names_more [] unit name = turned (is_name name unit.unit) (is_name unit.unit name) (name_turned name unit.unit)
  where
    turned : (a b : Bool) → a ≡ b → (a || false) ≡ cond b true false
    turned true b e = ap (λ t. cond t true false) e
    turned false b e = ap (λ t. cond t true false) e
names_more (x ∷ units) unit name = ap (λ h. is_name name x.unit || h) (names_more units unit name) ∙ by (is_name name x.unit) (is_name unit.unit name) (has (units_names units) name)
  where
    by : (a b h : Bool) → (a || cond b true h) ≡ cond b true (a || h)
    by true true h = refl
    by true false h = refl
    by false b h = refl
