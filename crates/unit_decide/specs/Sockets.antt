-- The sockets that a service is paired with: systemd.service(5), "Sockets=".
use Rattle.std.specs.Prelude.{ℕ, ◌&&◌, Bool, false, not, List, [], ◌∷◌, ◌++◌, codes, filter, is_none, if◌then◌else◌}
use Rattle.std.specs.List.{flat_map, slice_split}
use Rattle.std.specs.Option.{option_map_or}
use Rattle.switch_names.specs.declared.unit_kind.UnitKind.TheVariants.{Service, Socket}
use Rattle.switch_names.specs.UnitKind.{kind_of}
use Rattle.switch_names.specs.UnitName.{stem_of, unit_fault}
use Rattle.unit_decide.specs.Facts.{unit_kind}
use Rattle.unit_decide.specs.Flags.{is_not_socket_activated}
use Rattle.unit_decide.specs.Kinds.{is_kind}
use Rattle.switch_names.specs.Names.{Name}
use Rattle.unit_text.specs.declared.assignment.Assignment.{Assignment}
use Rattle.unit_text.specs.declared.unit_key.UnitKey.{UnitKey}
use Rattle.unit_text.specs.Lines.{is_blank}
use Rattle.unit_text.specs.UnitKey.{key_of}
use Rattle.unit_text.specs.UnitText.{has_value, values_of}

-- what stands between the spaces and tabs of a text, empty texts among them
abbrev pub words : List ℕ → List (List ℕ)
words text = slice_split is_blank text

-- the name of a unit of kind socket
abbrev pub is_socket_name : List ℕ → Bool
is_socket_name word = is_none (unit_fault word) && option_map_or (λ kind. is_kind kind Socket) (kind_of word) false

-- the socket of a unit's own name: its stem with `.socket`
abbrev pub own_socket : Name → Name
own_socket unit = stem_of unit ++ codes ".socket"

abbrev pub sockets_key : UnitKey
sockets_key = key_of (codes "Service") (codes "Sockets")

-- a service that sockets may start
abbrev pub is_socket_activated : List Assignment → Name → Bool
is_socket_activated text unit = is_kind (unit_kind unit) Service && not (is_not_socket_activated text)

-- the words of `Sockets`, or the socket of the unit's own name where that key has no value
abbrev pub socket_words : List Assignment → Name → List (List ℕ)
socket_words text unit =
    if has_value text sockets_key then flat_map words (values_of text sockets_key) else own_socket unit ∷ []

-- the sockets that a unit is paired with
abbrev pub sockets_of : List Assignment → Name → List Name
sockets_of text unit = if is_socket_activated text unit then filter is_socket_name (socket_words text unit) else []
