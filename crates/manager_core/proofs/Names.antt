-- The bytes of units' names and of texts.
use Rattle.std.proofs.Common.{◌≡◌, ℕ, ◌<◌, ◌==◌, Bool, true, false, cond, List, [], ◌∷◌, position, None, Some, is_none, zero, suc, refl, ap, ◌∙◌, subst, arith}
use Rattle.std.specs.List.{All, AllByRecursion, slice_index}
use Rattle.std.specs.Str.{IsUtf8, is_utf8}
use Rattle.std.proofs.lemmas.Bool.{both_ways, eqb-true}
use Rattle.std.proofs.lemmas.Str.{IsUtf8-from_ascii, IsUtf8-from_is_utf8, is_utf8-from_IsUtf8}
use Rattle.switch_names.specs.Path.{is_no_path_byte}
use Rattle.switch_names.specs.UnitName.{IsUnitName, is_no_unit_byte, unit_fault, named_unit}
use Rattle.switch_names.proofs.Positions.{All-from_no_position}
use Rattle.switch_names.proofs.UnitNames.{IsShortName-from_name, not_utf8, unit_utf8}
use Rattle.host_trait.specs.Manager.{IsPlain}
use Rattle.manager_core.specs.Reading.{text_of, utf8_of}
use Rattle.manager_core.specs.StateText.{IsText}

-- no byte of these is this one
abbrev pub HasNo : ℕ → List ℕ → Type 0
HasNo mark bytes = AllByRecursion (λ byte. (byte == mark) ≡ false) bytes

by_recursion : (P : ℕ → Type 0) (bytes : List ℕ) → All P bytes → AllByRecursion P bytes
by_recursion P [] h = tt
by_recursion P (byte ∷ bytes) h = (h 0 byte (omega arith), by_recursion P bytes (λ k d l. h (suc k) d (omega arith)))

all_weaker : {P Q : ℕ → Type 0} → ((byte : ℕ) → P byte → Q byte) → (bytes : List ℕ) → AllByRecursion P bytes → AllByRecursion Q bytes
all_weaker f [] h = tt
all_weaker f (byte ∷ bytes) h = (f byte h.0, all_weaker f bytes h.1)

unit_bytes : (name : List ℕ) → IsUnitName name → AllByRecursion (λ byte. is_no_unit_byte byte ≡ false) name
unit_bytes name is = by_recursion _ name (IsShortName-from_name name is).bytes

pub name_utf8 : (name : List ℕ) → IsUnitName name → is_utf8 name ≡ true
name_utf8 name is = is_utf8-from_IsUtf8 name (unit_utf8 name is)

-- bytes that aren't UTF-8 are no unit's name
pub no_unit : (bytes : List ℕ) → is_utf8 bytes ≡ false → named_unit bytes ≡ None
no_unit bytes not = elim (is_none (unit_fault bytes)) as (λ b. is_none (unit_fault bytes) ≡ b → cond b (Some bytes) None ≡ None) [
  | true ↦ λ e. absurd (both_ways _ not (name_utf8 bytes (let none : unit_fault bytes ≡ None = grind (arith, e) in none)))
  | false ↦ λ e. refl
] refl

-- neither the name of a unit nor a text has a byte of another sort
apart : (p : ℕ → Bool) (mark : ℕ) → p mark ≡ true → (byte : ℕ) → p byte ≡ false → (byte == mark) ≡ false
apart p mark is byte isnt = elim (byte == mark) as (λ b. (byte == mark) ≡ b → b ≡ false) [
  | true ↦ λ e. absurd (both_ways _ isnt (ap p (eqb-true byte mark e) ∙ is))
  | false ↦ λ e. refl
] refl

pub name_has_no : (mark : ℕ) → is_no_unit_byte mark ≡ true → (name : List ℕ) → IsUnitName name → HasNo mark name
name_has_no mark is name unit = all_weaker (apart is_no_unit_byte mark is) name (unit_bytes name unit)

pub text_has_no : (mark : ℕ) → is_no_path_byte mark ≡ true → (text : List ℕ) → IsPlain text → HasNo mark text
text_has_no mark is text plain = all_weaker (apart is_no_path_byte mark is) text (by_recursion _ text (All-from_no_position is_no_path_byte text plain))

-- what is read as a name or a text is one
pub unit_is : (bytes unit : List ℕ) → named_unit bytes ≡ Some unit → (bytes ≡ unit) × IsUnitName unit
unit_is bytes unit is = elim (is_none (unit_fault bytes)) as (λ b. is_none (unit_fault bytes) ≡ b → cond b (Some bytes) None ≡ Some unit → (bytes ≡ unit) × IsUnitName unit) [
  | true ↦ λ e i.
      let none : unit_fault bytes ≡ None = grind (arith, e) in
      let same : bytes ≡ unit = cc in
      (same, subst IsUnitName same none)
  | false ↦ λ e i. absurd (let n : None ≡ Some unit = i in cc)
] refl is

pub name_is_read : (unit : List ℕ) → IsUnitName unit → named_unit unit ≡ Some unit
name_is_read unit is = ap (λ fault. cond (is_none fault) (Some unit) None) is

pub text_is : (bytes text : List ℕ) → text_of bytes ≡ Some text → (bytes ≡ text) × IsText text
text_is bytes text is =
    elim (position is_no_path_byte bytes) as (λ o. position is_no_path_byte bytes ≡ o → cond (is_none o) (utf8_of bytes) None ≡ Some text → (bytes ≡ text) × IsText text) [
      | None ↦ λ plain i. elim (is_utf8 bytes) as (λ b. is_utf8 bytes ≡ b → cond b (Some bytes) None ≡ Some text → (bytes ≡ text) × IsText text) [
        | true ↦ λ utf8 j.
            let same : bytes ≡ text = cc in
            (same, subst IsText same (record { plain = plain; utf8 = IsUtf8-from_is_utf8 bytes utf8 }))
        | false ↦ λ utf8 j. absurd (let n : None ≡ Some text = j in cc)
      ] refl i
      | Some at ↦ λ plain i. absurd (let n : None ≡ Some text = i in cc)
    ] refl is

pub text_is_read : (text : List ℕ) → IsText text → text_of text ≡ Some text
text_is_read text is =
    ap (λ place. cond (is_none place) (utf8_of text) None) is.plain ∙ ap (λ b. cond b (Some text) None) (is_utf8-from_IsUtf8 text is.utf8)
