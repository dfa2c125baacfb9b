-- The contents that a switch takes of a system's etc.
use Rattle.std.specs.Prelude.{ℕ, ◌&&◌, ◌||◌, Bool, false, not, List, [], codes}
use Rattle.std.specs.Option.{option_map_or}
use Rattle.switch_names.specs.Names.{Name}
use Rattle.switch_names.specs.Texts.{after_front}
use Rattle.host_trait.specs.World.{Leaves}
use Rattle.etc_manifest.specs.Companion.{has_mode, is_before, is_companion}
use Rattle.etc_manifest.specs.Entries.{has_leaf}
use Rattle.etc_manifest.specs.Place.{etc_folder, path_in}

-- an entry has this name, and a `.mode`
abbrev pub is_entry_with_mode : (Name → Bool) → Name → Bool
is_entry_with_mode has name = has_mode has name && not (is_companion has name)

-- the companion of such an entry has this name, with this ending
abbrev pub is_companion_with : (Name → Bool) → List ℕ → Name → Bool
is_companion_with has end name = is_before end (is_entry_with_mode has) name

-- what is taken by its name: the entries that have a `.mode`, and the companions of entries, as only these have any
abbrev pub is_taken : (Name → Bool) → Name → Bool
is_taken has name =
    is_entry_with_mode has name || is_companion_with has (codes ".mode") name
    || is_companion_with has (codes ".uid") name || is_companion_with has (codes ".gid") name

-- the content at a place is taken of a system's etc
abbrev pub takes_entries : Leaves → Name → Name → Bool
takes_entries leaves system place =
    option_map_or (is_taken (has_leaf leaves (etc_folder system))) (after_front (path_in (etc_folder system) []) place) false
