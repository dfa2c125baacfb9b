-- Places below /etc: NixOS manual, `environment.etc`.
use Rattle.std.specs.Prelude.{ℕ, Bool, List, [], ◌∷◌, ◌++◌, codes}
use Rattle.std.specs.List.{before_first}
use Rattle.switch_names.specs.Names.{Name, has}
use Rattle.switch_names.specs.Path.{slash, is_slash}

-- where a system keeps what it wants below /etc
unfoldable pub etc_folder : List ℕ → List ℕ
etc_folder system = system ++ codes "/etc"

-- the path of what has this name below a folder
abbrev pub path_in : List ℕ → Name → List ℕ
path_in folder name = folder ++ slash ∷ name

-- what stands before the first slash of a name
abbrev pub first_name : Name → Name
first_name name = before_first is_slash name

-- what a switch keeps below /etc by itself: its own two leaves, and the account tables
unfoldable pub reserved_names : List Name
reserved_names =
    codes "static" ∷ codes ".clean" ∷ codes "passwd" ∷ codes "group" ∷ codes "shadow" ∷ codes "subuid" ∷ codes "subgid" ∷ []

-- a place that no entry may have
abbrev pub is_reserved : Name → Bool
is_reserved name = has reserved_names (first_name name)
