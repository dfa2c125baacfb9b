-- Refusals in words, on standard error.
use Rattle.std.specs.Prelude.{ℕ, ◌++◌, ◌∷◌, List, [], codes}
use Rattle.std.specs.Fmt.{decimal}
use Rattle.switch_parts.specs.declared.refusal.MapFile.{MapFile}
use Rattle.switch_parts.specs.declared.refusal.MapFile.TheVariants.{Gid, Uid}
use Rattle.switch_parts.specs.declared.refusal.Refusal.{Refusal}
use Rattle.switch_parts.specs.declared.refusal.Refusal.TheVariants.{EtcEntry, GenerationsFull, IdMap, InTheWay, NoFreeId, NoPrevious, NoProfile, NoSystem, Owner, Reserved, Table, TooMany, Unfinished, UnitText, UnknownGroup, UsersSpec}
use Rattle.switch_parts.specs.declared.refusal.TableFile.{TableFile}
use Rattle.switch_parts.specs.declared.refusal.TableFile.TheVariants.{Group, Passwd, Shadow}
use Rattle.switch_parts.specs.declared.refusal.What.{What}
use Rattle.switch_parts.specs.declared.refusal.What.TheVariants.{Entries, LeafBytes, Rows, Units}
use Rattle.users_spec.specs.declared.place.Place.{Place}
use Rattle.users_spec.specs.declared.place.Place as places
use Rattle.users_spec.specs.declared.spec_fault.SpecFault.{SpecFault}
use Rattle.users_spec.specs.declared.spec_fault.SpecFault.TheVariants.{Field, Json, Memory, Twice}
use Rattle.users_spec.specs.declared.spec_fault.SpecFault as faults

-- a place of an account specification
abbrev pub place_text : Place → List ℕ
place_text places.TheVariants.Top = codes "top"
place_text (places.TheVariants.User number) = codes "users[" ++ (decimal number ++ codes "]")
place_text (places.TheVariants.Group number) = codes "groups[" ++ (decimal number ++ codes "]")

-- a key behind its place: of the top the key alone
abbrev pub keyed_text : Place → List ℕ → List ℕ
keyed_text places.TheVariants.Top key = key
keyed_text (places.TheVariants.User number) key = place_text (places.TheVariants.User number) ++ (codes "." ++ key)
keyed_text (places.TheVariants.Group number) key = place_text (places.TheVariants.Group number) ++ (codes "." ++ key)

-- a key of a place, and without a key the place alone
abbrev pub key_text : Place → List ℕ → List ℕ
key_text place [] = place_text place
key_text place (byte ∷ rest) = keyed_text place (byte ∷ rest)

-- what is wrong with an account specification
abbrev pub spec_text : SpecFault → List ℕ
spec_text Json = codes "not JSON"
spec_text (Field place key) = key_text place key
spec_text (Twice name) = codes "twice " ++ name
spec_text (faults.TheVariants.Name place) = codes "name of " ++ place_text place
spec_text Memory = codes "no memory"

-- the name of a table
abbrev pub table_text : TableFile → List ℕ
table_text Group = codes "group"
table_text Passwd = codes "passwd"
table_text Shadow = codes "shadow"

-- the name of a map of ids
abbrev pub map_text : MapFile → List ℕ
map_text Uid = codes "uid-map"
map_text Gid = codes "gid-map"

-- what there can be too much of
abbrev pub what_text : What → List ℕ
what_text Units = codes "units"
what_text Entries = codes "entries"
what_text Rows = codes "rows"
what_text LeafBytes = codes "bytes"

-- why a command was refused
abbrev pub refusal_text : Refusal → List ℕ
refusal_text NoPrevious = codes "no previous generation"
refusal_text NoSystem = codes "no such system"
refusal_text (TooMany what count) = codes "too many: " ++ (what_text what ++ (32 ∷ decimal count))
refusal_text (InTheWay path) = codes "in the way: " ++ path
refusal_text (UnitText unit line) = codes "unit " ++ (unit ++ (codes " line " ++ decimal line))
refusal_text (UsersSpec why) = codes "users specification: " ++ spec_text why
refusal_text (Table file line) = codes "table " ++ (table_text file ++ (codes " line " ++ decimal line))
refusal_text (IdMap file) = codes "id map " ++ map_text file
refusal_text (NoFreeId name) = codes "no free id for " ++ name
refusal_text (UnknownGroup user group) = codes "user " ++ (user ++ (codes " has unknown group " ++ group))
refusal_text (Reserved path) = codes "reserved " ++ path
refusal_text (EtcEntry path) = codes "etc entry " ++ path
refusal_text (Owner path) = codes "owner of " ++ path
refusal_text GenerationsFull = codes "no further generation"
refusal_text NoProfile = codes "no profile"
refusal_text Unfinished = codes "a switch is unfinished"
