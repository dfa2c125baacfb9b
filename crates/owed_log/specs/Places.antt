-- Where a switch that was cut has left what it owes: NixOS manual, "Unit handling".
use Rattle.std.specs.Prelude.{◌∷◌, Bool, List, codes, map}
use Rattle.log_text.specs.Lists.{record_order}
use Rattle.owed_lists.specs.Lists.{place_of}
use Rattle.switch_names.specs.Names.{Name, has}

-- where the log stands
unfoldable pub log_place : Name
log_place = codes "run/nixos/owed-log"

-- where an older program kept the three lists, in the order in which they go
abbrev pub old_places : List Name
old_places = map place_of record_order

-- whether a place is that of the log, or of a list of an older program
abbrev pub is_owed_place : Name → Bool
is_owed_place q = has (log_place ∷ old_places) q
