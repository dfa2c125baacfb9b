-- Names of units, by their stems and endings.
use Rattle.std.proofs.Common.{◌≡◌, ℕ, ◌+◌, ◌-◌, ◌<◌, ◌≤◌, ◌==◌, true, false, List, [], ◌∷◌, ◌++◌, length, take, position, is_none, option_map, Some, nat_lt, refl, sym, ◌∙◌, ap, subst, arith, rules, append_assoc, length-append, length-take}
use Rattle.std.specs.List.{All, position_or_len, before_first, after_first}
use Rattle.std.proofs.lemmas.Grind.{common_steps}
use Rattle.std.specs.Str.{IsUtf8, is_utf8}
use Rattle.std.proofs.lemmas.Bool.{false_from_ne_true}
use Rattle.std.proofs.lemmas.Bool.Decides.{Decides-eqb, nat_tests}
use Rattle.std.proofs.lemmas.Str.{IsUtf8-from_ascii, IsUtf8-from_is_utf8}
use Rattle.std.proofs.lemmas.Str.Ascii.{IsAscii-from_all}
use Rattle.std.proofs.lemmas.List.Elements.{All-append, All-from_recursion, All-same, All-take, All-push}
use Rattle.std.proofs.lemmas.Slice.Eq.{ends_is}
use Rattle.switch_names.specs.UnitKind.{ending_of, kind_of}
use Rattle.switch_names.specs.UnitName.{IsUnitName, is_at_sign, is_no_unit_byte, stem_of, name_ending, instance_of, is_unit, template_of, unit_fault}
use Rattle.switch_names.specs.declared.name_fault.NameFault.TheVariants.{Byte, Kind}
use Rattle.switch_names.specs.declared.unit_kind.UnitKind.{UnitKind}
use Rattle.switch_names.specs.declared.unit_kind.UnitKind.TheVariants.{Service, Socket, Target, Mount, Automount, Swap, Path, Slice, Timer, Scope, Device}
use Rattle.switch_names.proofs.Endings.{kind_of-stem, ends-from_kind, longer-from_kind}
use Rattle.switch_names.proofs.Faultless.{HasNone-from_sought, sought-from_HasNone, no_place}
use Rattle.switch_names.proofs.Outcomes.{none_from_test}
use Rattle.switch_names.proofs.Positions.{All-from_no_position, no_position-from_All}

pub name_ending-of_kind : (text : List ℕ) (kind : UnitKind) → kind_of text ≡ Some kind → name_ending text ≡ ending_of kind
name_ending-of_kind text kind is = rw is

-- the stem and the ending make up the name
pub stem_parts : (text stem : List ℕ) (kind : UnitKind) → kind_of text ≡ Some kind → stem ≡ take (length text - length (ending_of kind)) text → (stem ≡ stem_of text) × (text ≡ stem ++ name_ending text)
stem_parts text stem kind is taken =
    let ending = name_ending-of_kind text kind is in
    let same : stem ≡ stem_of text = taken ∙ ap (λ e. take (length text - length e) text) (sym ending) in
    let whole : text ≡ take (length text - length (ending_of kind)) text ++ ending_of kind = (ends_is Decides-eqb text (ending_of kind) true (sym (ends-from_kind text kind is))).0 refl in
    (same, cc (whole, taken, ending))

abbrev pub AreUnitBytes : List ℕ → Type 0
AreUnitBytes text = All (λ byte. is_no_unit_byte byte ≡ false) text

ending_bytes : (kind : UnitKind) → AreUnitBytes (ending_of kind)
ending_bytes Service = All-from_recursion (λ byte. is_no_unit_byte byte ≡ false) (ending_of Service) (search rules)
ending_bytes Socket = All-from_recursion (λ byte. is_no_unit_byte byte ≡ false) (ending_of Socket) (search rules)
ending_bytes Target = All-from_recursion (λ byte. is_no_unit_byte byte ≡ false) (ending_of Target) (search rules)
ending_bytes Mount = All-from_recursion (λ byte. is_no_unit_byte byte ≡ false) (ending_of Mount) (search rules)
ending_bytes Automount = All-from_recursion (λ byte. is_no_unit_byte byte ≡ false) (ending_of Automount) (search rules)
ending_bytes Swap = All-from_recursion (λ byte. is_no_unit_byte byte ≡ false) (ending_of Swap) (search rules)
ending_bytes Path = All-from_recursion (λ byte. is_no_unit_byte byte ≡ false) (ending_of Path) (search rules)
ending_bytes Slice = All-from_recursion (λ byte. is_no_unit_byte byte ≡ false) (ending_of Slice) (search rules)
ending_bytes Timer = All-from_recursion (λ byte. is_no_unit_byte byte ≡ false) (ending_of Timer) (search rules)
ending_bytes Scope = All-from_recursion (λ byte. is_no_unit_byte byte ≡ false) (ending_of Scope) (search rules)
ending_bytes Device = All-from_recursion (λ byte. is_no_unit_byte byte ≡ false) (ending_of Device) (search rules)

-- a stem and the ending of a kind are a name, if they are short
pub IsUnitName-from_stem : (stem : List ℕ) (kind : UnitKind) → 0 < length stem → length stem + length (ending_of kind) ≤ 255 → AreUnitBytes stem → IsUnitName (stem ++ ending_of kind)
IsUnitName-from_stem stem kind more short bytes =
    let text : List ℕ = stem ++ ending_of kind in
    let all = All-append (λ byte. is_no_unit_byte byte ≡ false) stem (ending_of kind) bytes (ending_bytes kind) in
    let len : length text ≡ length stem + length (ending_of kind) = length-append stem (ending_of kind) in
    sought-from_HasNone (length text == 0) (nat_lt 255 (length text)) (option_map Byte (position is_no_unit_byte text)) (is_none (kind_of text)) Kind
    record {
      not_empty = grind (arith, len);
      not_long = grind (arith, len);
      no_byte = ap (option_map Byte) (no_position-from_All is_no_unit_byte text all);
      not_last = ap is_none (kind_of-stem stem kind more);
    }

-- a name is short, and of the bytes of names
pub record IsShortName (name : List ℕ) : Type 0 where
  pub short : length name ≤ 255
  pub bytes : AreUnitBytes name

pub IsShortName-from_name : (name : List ℕ) → IsUnitName name → IsShortName name
IsShortName-from_name name is =
    let none = HasNone-from_sought (length name == 0) (nat_lt 255 (length name)) (option_map Byte (position is_no_unit_byte name)) (is_none (kind_of name)) Kind is in
    let long = none.not_long in
    record { short = grind (arith, long); bytes = All-from_no_position is_no_unit_byte name (no_place Byte _ none.no_byte) }

pub ascii_byte : (byte : ℕ) → is_no_unit_byte byte ≡ false → byte < 128
ascii_byte byte is = grind (arith, nat_tests)

-- a name is UTF-8
pub unit_utf8 : (name : List ℕ) → IsUnitName name → IsUtf8 name
unit_utf8 name is =
    let bytes = (IsShortName-from_name name is).bytes in
    IsUtf8-from_ascii name (IsAscii-from_all name (λ k d l. ascii_byte _ (bytes k d l)))

-- bytes that aren't UTF-8 name no unit
pub no_unit : (bytes : List ℕ) → ¬ IsUtf8 bytes → is_unit bytes ≡ false
no_unit bytes bad = false_from_ne_true (is_unit bytes) (λ is. bad (unit_utf8 bytes (none_from_test (unit_fault bytes) is)))

pub not_utf8 : (text : List ℕ) → (IsUtf8 text → ⊥) → is_utf8 text ≡ false
not_utf8 text bad = false_from_ne_true (is_utf8 text) (λ is. bad (IsUtf8-from_is_utf8 text is))

-- a name is something and then the ending of its kind
pub record HasParts (name : List ℕ) (kind : UnitKind) : Type 0 where
  pub stem : 0 < length (stem_of name)
  pub len : length name ≡ length (stem_of name) + length (ending_of kind)
  pub whole : name ≡ stem_of name ++ ending_of kind

pub HasParts-from_kind : (name : List ℕ) (kind : UnitKind) → kind_of name ≡ Some kind → HasParts name kind
HasParts-from_kind name kind of =
    let ending = name_ending-of_kind name kind of in
    let parts = stem_parts name (stem_of name) kind of (ap (λ e. take (length name - length e) name) ending) in
    let whole : name ≡ stem_of name ++ ending_of kind = parts.1 ∙ ap (λ e. stem_of name ++ e) ending in
    let len : length name ≡ length (stem_of name) + length (ending_of kind) = ap length whole ∙ length-append (stem_of name) (ending_of kind) in
    record { stem = omega (arith, longer-from_kind name kind of); len = len; whole = whole }

stem_bytes : (name : List ℕ) → AreUnitBytes name → AreUnitBytes (stem_of name)
stem_bytes name bytes = All-take (λ byte. is_no_unit_byte byte ≡ false) (length name - length (name_ending name)) name bytes

-- the stem of a name and the ending of another kind are a name, if they are no longer
pub IsUnitName-with_ending : (name : List ℕ) (kind other : UnitKind) → IsUnitName name → kind_of name ≡ Some kind → length (ending_of other) ≤ length (ending_of kind) → IsUnitName (stem_of name ++ ending_of other)
IsUnitName-with_ending name kind other is of shorter =
    let short = IsShortName-from_name name is in
    let parts = HasParts-from_kind name kind of in
    IsUnitName-from_stem (stem_of name) other parts.stem (omega (arith, short.short, parts.len)) (stem_bytes name short.bytes)

-- the name without its instance is one of the same kind
pub template_is_name : (name before : List ℕ) (kind : UnitKind) → IsUnitName name → kind_of name ≡ Some kind → position_or_len is_at_sign (stem_of name) < length (stem_of name) → before ≡ before_first is_at_sign (stem_of name) → IsUnitName (before ++ 64 ∷ ending_of kind) × (kind_of (before ++ 64 ∷ ending_of kind) ≡ Some kind)
template_is_name name before kind is of at cut =
    let short = IsShortName-from_name name is in
    let stem : List ℕ = before ++ 64 ∷ [] in
    let place : ℕ = position_or_len is_at_sign (stem_of name) in
    let front : AreUnitBytes before = All-same (λ byte. is_no_unit_byte byte ≡ false) before (before_first is_at_sign (stem_of name)) cut (All-take (λ byte. is_no_unit_byte byte ≡ false) place (stem_of name) (stem_bytes name short.bytes)) in
    let bytes : AreUnitBytes stem = All-push (λ byte. is_no_unit_byte byte ≡ false) before 64 front refl in
    let joined : stem ++ ending_of kind ≡ before ++ 64 ∷ ending_of kind = append_assoc before (64 ∷ []) (ending_of kind) in
    let len : length stem ≡ length before + 1 = length-append before (64 ∷ []) in
    let more : 0 < length stem = omega arith in
    let fewer : length before ≤ place = omega (arith, ap length cut ∙ length-take place (stem_of name)) in
    let small : length stem + length (ending_of kind) ≤ 255 = omega (arith, short.short, (HasParts-from_kind name kind of).len) in
    subst (λ text. IsUnitName text × (kind_of text ≡ Some kind)) joined (IsUnitName-from_stem stem kind more small bytes, kind_of-stem stem kind more)

-- the template of a name with an instance, from its parts
pub template_of-parts : (name before instance : List ℕ) (kind : UnitKind) → kind_of name ≡ Some kind → before ≡ before_first is_at_sign (stem_of name) → instance ≡ after_first is_at_sign (stem_of name) → (length instance == 0) ≡ false → Some (before ++ 64 ∷ ending_of kind) ≡ template_of name
template_of-parts name before instance kind of cut after more =
    let some : (length (instance_of name) == 0) ≡ false = ap (λ i. length i == 0) (sym after) ∙ more in
    rw some (ap Some (ap (λ b. b ++ 64 ∷ ending_of kind) cut ∙ ap (λ e. before_first is_at_sign (stem_of name) ++ 64 ∷ e) (sym (name_ending-of_kind name kind of))))

-- the stem of a stem and an ending
pub stem_of-stem : (stem : List ℕ) (kind : UnitKind) → 0 < length stem → stem_of (stem ++ ending_of kind) ≡ stem
stem_of-stem stem kind more =
    let name : List ℕ = stem ++ ending_of kind in
    let len : length name - length (ending_of kind) ≡ length stem = omega (arith, length-append stem (ending_of kind)) in
    ap (λ e. take (length name - length e) name) (name_ending-of_kind name kind (kind_of-stem stem kind more)) ∙ ap (λ n. take n name) len ∙ grind (arith, common_steps)
