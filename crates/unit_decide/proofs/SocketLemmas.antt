-- Words that are names of sockets.
use Rattle.std.proofs.Common.{◌≡◌, ◌<◌, ◌&&◌, ◌==◌, ℕ, Bool, true, false, List, [], ◌∷◌, length, filter, ◌++◌, not, codes, position, nat_lt, Option, None, Some, is_none, option_map, unwrap_or, if◌then◌else◌, refl, sym, ap, ◌∙◌, arith}
use Rattle.std.specs.List.{flat_map}
use Rattle.std.specs.Str.{IsUtf8}
use Rattle.std.specs.Option.{option_map_or}
use Rattle.std.specs.BTreeMap.{is_at}
use Rattle.std.specs.Cmp.Lexicographic.{slice_cmp}
use Rattle.std.specs.Ordering.{nat_cmp}
use Rattle.std.proofs.lemmas.Map.Text.{is_eq-slice_cmp}
use Rattle.std.proofs.lemmas.Map.Views.{any-filter_same}
use Rattle.std.proofs.lemmas.Slice.Eq.{bytes_eq-Decides}
use Rattle.std.proofs.lemmas.Bool.{false_from_ne_true, and_parts}
use Rattle.std.proofs.lemmas.Bool.Decides.{nat_tests}
use Rattle.std.proofs.lemmas.Str.{IsUtf8-from_ascii}
use Rattle.std.proofs.lemmas.Str.Ascii.{IsAscii-from_all}
use Rattle.switch_names.specs.declared.name_fault.NameFault.TheVariants.{Byte, Kind}
use Rattle.switch_names.specs.declared.unit_kind.UnitKind.{UnitKind}
use Rattle.switch_names.specs.declared.unit_kind.UnitKind.TheVariants.{Service, Socket}
use Rattle.switch_names.specs.UnitKind.{kind_of}
use Rattle.switch_names.specs.UnitName.{IsUnitName, is_no_unit_byte, stem_of, unit_fault}
use Rattle.switch_names.proofs.Endings.{kind_of-stem}
use Rattle.switch_names.proofs.Faultless.{HasNone-from_sought}
use Rattle.switch_names.proofs.UnitNames.{HasParts-from_kind, IsShortName-from_name, IsUnitName-with_ending, unit_utf8}
use Rattle.switch_names.proofs.Outcomes.{none_from_test}
use Rattle.unit_decide.specs.Facts.{unit_kind}
use Rattle.unit_decide.specs.Kinds.{is_kind}
use Rattle.switch_names.specs.Names.{Name, has}
use Rattle.unit_decide.specs.Sockets.{is_socket_activated, is_socket_name, own_socket, socket_words, sockets_key, sockets_of, words}
use Rattle.unit_decide.proofs.TableLemmas.{service_from_test}
use Rattle.unit_text.specs.declared.assignment.Assignment.{Assignment}
use Rattle.unit_decide.specs.Flags.{is_not_socket_activated}
use Rattle.unit_text.specs.UnitText.{has_value, values_of}

-- the name of a socket is the name of a unit
pub IsUnitName-from_socket : (word : List ℕ) → is_socket_name word ≡ true → IsUnitName word
IsUnitName-from_socket word is = none_from_test (unit_fault word) (and_parts (is_none (unit_fault word)) _ is).0

-- the name of a socket is UTF-8
socket_utf8 : (word : List ℕ) → is_socket_name word ≡ true → IsUtf8 word
socket_utf8 word is = unit_utf8 word (IsUnitName-from_socket word is)

-- bytes that aren't UTF-8 name no socket
pub no_socket : (word : List ℕ) → ¬ IsUtf8 word → is_socket_name word ≡ false
no_socket word bad = false_from_ne_true (is_socket_name word) (λ is. bad (socket_utf8 word is))

socket_from_test : (kind : UnitKind) → is_kind kind Socket ≡ true → kind ≡ Socket
socket_from_test Socket is = refl
socket_from_test _ is = absurd cc

socket_kind : (kind : Option UnitKind) → option_map_or (λ k. is_kind k Socket) kind false ≡ true → kind ≡ Some Socket
socket_kind None is = absurd cc
socket_kind (Some kind) is = ap Some (socket_from_test kind is)

-- the name of a socket has that kind
pub kind_of-socket : (word : List ℕ) → is_socket_name word ≡ true → kind_of word ≡ Some Socket
kind_of-socket word is = socket_kind (kind_of word) (and_parts (is_none (unit_fault word)) _ is).1

-- a service's own name with `.socket` is one byte shorter, and so it is the name of a socket
pub own_is_socket : (unit : Name) → IsUnitName unit → kind_of unit ≡ Some Service → is_socket_name (own_socket unit) ≡ true
own_is_socket unit is of =
    let name : IsUnitName (own_socket unit) = IsUnitName-with_ending unit Service Socket is of (omega arith) in
    let kind : kind_of (own_socket unit) ≡ Some Socket = kind_of-stem (stem_of unit) Socket (HasParts-from_kind unit Service of).stem in
    rw (name, kind)

kind_from_some : (kind : Option UnitKind) → is_none kind ≡ false → is_kind (unwrap_or kind Service) Service ≡ true → kind ≡ Some Service
kind_from_some None some is = absurd cc
kind_from_some (Some kind) some is = ap Some (service_from_test kind is)

-- the name of a unit of kind service has that kind
service_kind : (unit : Name) → IsUnitName unit → is_kind (unit_kind unit) Service ≡ true → kind_of unit ≡ Some Service
service_kind unit is service =
    let none = HasNone-from_sought (length unit == 0) (nat_lt 255 (length unit)) (option_map Byte (position is_no_unit_byte unit)) (is_none (kind_of unit)) Kind is in
    kind_from_some (kind_of unit) none.not_last service

same_name : (unit other : Name) → is_at (slice_cmp nat_cmp unit) other ≡ true → unit ≡ other
same_name unit other is = (bytes_eq-Decides unit other).0 (sym (is_eq-slice_cmp unit other) ∙ is)

-- what is found in a filtered list passes
passes : (p : Name → Bool) (names : List Name) (unit : Name) → has (filter p names) unit ≡ true → p unit ≡ true
passes p names unit found =
    (and_parts (p unit) _ (sym (any-filter_same (is_at (slice_cmp nat_cmp unit)) p (p unit) (λ other same. ap p (sym (same_name unit other same))) names) ∙ found)).0

pub none_found : (unit : Name) → has [] unit ≡ true → ⊥
none_found unit found = cc

-- what a service is paired with are names of sockets
pub paired_is_socket : (text : List Assignment) (unit socket : Name) → has (sockets_of text unit) socket ≡ true → is_socket_name socket ≡ true
paired_is_socket text unit socket found =
    elim (is_socket_activated text unit) as (λ b. has (if b then filter is_socket_name (socket_words text unit) else []) socket ≡ true → is_socket_name socket ≡ true) [
      | true ↦ λ found. passes is_socket_name (socket_words text unit) socket found
      | false ↦ λ found. absurd (none_found socket found)
    ] found

pub paired_kind : (text : List Assignment) (unit socket : Name) → has (sockets_of text unit) socket ≡ true → unit_kind socket ≡ Socket
paired_kind text unit socket found = ap (λ kind. unwrap_or kind Service) (kind_of-socket socket (paired_is_socket text unit socket found))

-- a service that names no socket is paired with the one of its own name
pub paired_with_own : (text : List Assignment) (unit : Name) → IsUnitName unit → is_socket_activated text unit ≡ true → has_value text sockets_key ≡ false → sockets_of text unit ≡ own_socket unit ∷ []
paired_with_own text unit is activated none =
    let service = (and_parts (is_kind (unit_kind unit) Service) _ activated).0 in
    rw (activated, none, own_is_socket unit is (service_kind unit is service))

-- the sockets of a service that sockets may start
pub paired_by : (text : List Assignment) (unit : Name) (kind : UnitKind) → kind_of unit ≡ Some kind → true ≡ is_kind kind Service → false ≡ is_not_socket_activated text
    → sockets_of text unit ≡ filter is_socket_name (socket_words text unit)
paired_by text unit kind of service activated =
    ap (λ b. if b then filter is_socket_name (socket_words text unit) else [])
    (ap (λ k. is_kind (unwrap_or k Service) Service && not (is_not_socket_activated text)) of ∙ (λ i. sym service i && not (sym activated i)))

-- whether values were found tells whether the key has one
words_by : (text : List Assignment) (unit : Name) (values : List (List ℕ)) (none : Bool) → values ≡ values_of text sockets_key → none ≡ (length values == 0)
    → socket_words text unit ≡ (if not none then flat_map words (values_of text sockets_key) else own_socket unit ∷ [])
words_by text unit values none are test =
    ap (λ b. if b then flat_map words (values_of text sockets_key) else own_socket unit ∷ [])
    (ap (λ vs. not (length vs == 0)) (sym are) ∙ ap not (sym test))

pub paired_own : (text : List Assignment) (unit : Name) (kind : UnitKind) (values : List (List ℕ)) (stem : List ℕ) → kind_of unit ≡ Some kind → true ≡ is_kind kind Service → false ≡ is_not_socket_activated text
    → values ≡ values_of text sockets_key → true ≡ (length values == 0) → stem ≡ stem_of unit → filter is_socket_name ((stem ++ codes ".socket") ∷ []) ≡ sockets_of text unit
paired_own text unit kind values stem of service activated are none is =
    ap (λ s. filter is_socket_name ((s ++ codes ".socket") ∷ [])) is
    ∙ sym (paired_by text unit kind of service activated ∙ ap (filter is_socket_name) (words_by text unit values true are none))

pub paired_named : (text : List Assignment) (unit : Name) (kind : UnitKind) (values : List (List ℕ)) → kind_of unit ≡ Some kind → true ≡ is_kind kind Service → false ≡ is_not_socket_activated text
    → values ≡ values_of text sockets_key → false ≡ (length values == 0) → filter is_socket_name (flat_map words values) ≡ sockets_of text unit
paired_named text unit kind values of service activated are some =
    ap (λ vs. filter is_socket_name (flat_map words vs)) are
    ∙ sym (paired_by text unit kind of service activated ∙ ap (filter is_socket_name) (words_by text unit values false are some))
