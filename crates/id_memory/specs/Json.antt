-- Ids as a JSON object: RFC 8259, sections 4 and 6.
use Rattle.std.specs.Prelude.{ℕ, List, [], ◌∷◌, ◌++◌, nat_le, Option, None, Some, option_map, option_and_then, if◌then◌else◌}
use Rattle.std.specs.Str.{is_utf8}
use Rattle.serde_json.specs.Data.{Data, Members, no_members, member, number, unsigned, object}
use Rattle.serde_json.specs.Find.{as_number, as_object, as_u64}
use Rattle.serde_json.specs.Read.{read}
use Rattle.serde_json.specs.Written.{compact_text}
use Rattle.id_memory.specs.declared.id_row.IdRow.{IdRow}
use Rattle.host_trait.specs.Ids.{Ids}
use Rattle.switch_names.specs.Ids.{id_max}
use Rattle.id_memory.specs.Ids.{ids_of, rows_of}

-- the id that a value is: a number in digits alone, at most the greatest id
abbrev pub id_in : Data → Option ℕ
id_in value = option_and_then (λ id. if nat_le id id_max then Some id else None) (option_and_then as_u64 (as_number value))

-- a row before others, where they are all ids
abbrev pub with_row : List ℕ → Option ℕ → Option (List IdRow) → Option (List IdRow)
with_row name id rows = option_and_then (λ i. option_map (λ more. record { name = name; id = i } ∷ more) rows) id

-- the rows that members of an object are, where each value is an id
abbrev pub rows_in : Members → Option (List IdRow)
rows_in no_members = Some []
rows_in (member name value rest) = with_row name (id_in value) (rows_in rest)

-- the members of the JSON object that bytes are, in byte order, each name once
abbrev pub members_in : List ℕ → Option Members
members_in bytes = if is_utf8 bytes then option_and_then as_object (read bytes) else None

abbrev pub rows_read : List ℕ → Option (List IdRow)
rows_read bytes = option_and_then rows_in (members_in bytes)

-- the ids that bytes give, where they are a JSON object of ids
abbrev pub ids_read : List ℕ → Option Ids
ids_read bytes = option_map ids_of (rows_read bytes)

-- a member for each row
abbrev pub members_of : List IdRow → Members
members_of [] = no_members
members_of (row ∷ rows) = member row.name (number (unsigned row.id)) (members_of rows)

abbrev pub rows_text : List IdRow → List ℕ
rows_text rows = compact_text (object (members_of rows)) ++ 10 ∷ []

-- the ids as a JSON object without blanks, in byte order of names, and a line feed
abbrev pub ids_text : Ids → List ℕ
ids_text ids = rows_text (rows_of ids)
