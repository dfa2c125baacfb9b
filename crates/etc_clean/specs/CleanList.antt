-- The list of what a switch has copied into /etc: setup-etc.pl of nixpkgs, "/etc/.clean".
use Rattle.std.specs.Prelude.{◌≡◌, ◌==◌, ◌&&◌, ℕ, not, Bool, true, List, [], ◌∷◌, ◌++◌, codes, filter, Option, None, Some, is_none}
use Rattle.std.specs.List.{AllByRecursion, flat_map, slice_split}
use Rattle.std.specs.Str.{is_utf8}
use Rattle.host_trait.specs.Leaf.{open_file}
use Rattle.switch_names.specs.Names.{Name}
use Rattle.switch_names.specs.Path.{path_fault}
use Rattle.host_trait.specs.declared.leaf.LeafKind.{LeafKind}
use Rattle.host_trait.specs.World.{Leaves, content_of}
use Rattle.etc_manifest.specs.Place.{is_reserved}
use Rattle.etc_clean.specs.Names.{place}

-- the name of the clean list below etc
unfoldable pub clean_name : Name
clean_name = codes ".clean"

-- a text is a path
unfoldable pub is_path_text : List ℕ → Bool
is_path_text text = is_utf8 text && is_none (path_fault text)

-- a line names a place: it is a path whose first name isn't reserved
abbrev pub is_clean_name : List ℕ → Bool
is_clean_name line = is_path_text line && not (is_reserved line)

-- the names that a clean list says: those of its lines that name a place
abbrev pub clean_names : List ℕ → List Name
clean_names bytes = filter is_clean_name (slice_split (λ byte. byte == 10) bytes)

-- a clean list as it is written: one name a line
abbrev pub clean_text : List Name → List ℕ
clean_text names = flat_map (λ name. name ++ 10 ∷ []) names

-- the leaf of a clean list: a file of mode 0644 that root owns
abbrev pub clean_leaf : List Name → LeafKind
clean_leaf names = open_file (clean_text names)

-- the names that a content says: one that isn't there says none
abbrev pub names_in : Option (List ℕ) → List Name
names_in None = []
names_in (Some bytes) = clean_names bytes

-- the names of the clean list that stands
abbrev pub clean_of : Leaves → List Name
clean_of leaves = names_in (content_of leaves (place clean_name))

-- each of these is a path whose first name isn't reserved
abbrev pub AreCleanNames : List Name → Type 0
AreCleanNames names = AllByRecursion (λ name. is_clean_name name ≡ true) names

-- such names are read as they were written
abbrev pub ReadBackLaw : Type 0
ReadBackLaw = (names : List Name) → AreCleanNames names → clean_names (clean_text names) ≡ names
