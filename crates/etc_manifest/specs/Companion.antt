-- Files beside an entry that say how it is placed: `.mode`, `.uid` and `.gid` of nixpkgs' `setup-etc`.
use Rattle.std.specs.Prelude.{ℕ, ◌-◌, ◌&&◌, ◌||◌, Bool, false, List, [], ◌∷◌, ◌++◌, length, take, codes, nat_eq, Option, None, Some, option_map, if◌then◌else◌}
use Rattle.std.specs.List.{ends_with}
use Rattle.std.specs.Option.{option_map_or}
use Rattle.switch_names.specs.Names.{Name}
use Rattle.switch_names.specs.Texts.{before_end}
use Rattle.host_trait.specs.World.{Leaves, content_of}
use Rattle.leaf_limits.specs.Limits.{is_long}
use Rattle.etc_manifest.specs.declared.reading.Parts.{Parts}
use Rattle.etc_manifest.specs.Place.{path_in}

-- whether a name is another with this ending, and that one passes a test
abbrev pub is_before : List ℕ → (Name → Bool) → Name → Bool
is_before end test name = option_map_or test (before_end end name) false

-- leaves stand at a name and at its `.mode`
abbrev pub has_mode : (Name → Bool) → Name → Bool
has_mode has name = has name && has (name ++ codes ".mode")

-- the `.mode` of a leaf is a companion, and the `.uid` and `.gid` of one that has a `.mode`
abbrev pub is_companion : (Name → Bool) → Name → Bool
is_companion has name =
    is_before (codes ".mode") has name || is_before (codes ".uid") (has_mode has) name || is_before (codes ".gid") (has_mode has) name

-- a text without the line feed at its end, where it has one
abbrev pub without_line_feed : List ℕ → List ℕ
without_line_feed text = if ends_with nat_eq text (10 ∷ []) then take (length text - 1) text else text

-- the content at a path, where it isn't too long
abbrev pub short_content : Leaves → List ℕ → Option (List ℕ)
short_content leaves at = if is_long leaves at then None else content_of leaves at

-- what the companion of an entry says, where a leaf stands there: nothing, where that has no content or one that is too long
abbrev pub companion : (Name → Bool) → Leaves → List ℕ → Name → List ℕ → Option (Option (List ℕ))
companion has leaves folder name end =
    if has (name ++ end) then Some (option_map without_line_feed (short_content leaves (path_in folder (name ++ end)))) else None

-- who owns a file by its companion: the id 0, where there is none
abbrev pub owner_text : Option (Option (List ℕ)) → Option (List ℕ)
owner_text None = Some (codes "+0")
owner_text (Some text) = text

-- the companion of an entry has a content that is too long
abbrev pub has_long : (Name → Bool) → Leaves → List ℕ → Name → List ℕ → Bool
has_long has leaves folder name end = has (name ++ end) && is_long leaves (path_in folder (name ++ end))

-- and so has one that says who owns it
abbrev pub has_long_owner : (Name → Bool) → Leaves → List ℕ → Name → Bool
has_long_owner has leaves folder name = has_long has leaves folder name (codes ".uid") || has_long has leaves folder name (codes ".gid")

-- what a copy of an entry is made of, as far as its leaves have content that isn't too long
abbrev pub parts_of : (Name → Bool) → Leaves → List ℕ → Name → Parts
parts_of has leaves folder name = record {
  bytes = short_content leaves (path_in folder name);
  uid = owner_text (companion has leaves folder name (codes ".uid"));
  gid = owner_text (companion has leaves folder name (codes ".gid"));
}
