-- The entries of /etc of a made machine.
use Rattle.std.specs.Prelude.{◌==◌, ◌++◌, ◌∷◌, ◌/◌, ◌%◌, ℕ, zero, suc, List, [], codes, if◌then◌else◌}
use Rattle.std.specs.Fmt.{decimal}
use Rattle.host_trait.specs.declared.leaf.LeafKind.{LeafKind}
use Rattle.made_world.specs.Draws.{draw_at}
use Rattle.made_world.specs.Putting.{file_in, new_system, old_system}
use Rattle.switch_names.specs.Names.{Name}

-- where the entry with this number stands below a system
abbrev pub entry_place : ℕ → List ℕ
entry_place number = codes "etc/e" ++ (decimal (number % 50) ++ (codes "/f" ++ decimal number))

-- its bytes, where a mark stands after the number
abbrev pub entry_text : ℕ → List ℕ → List ℕ
entry_text number mark = codes "text " ++ (decimal number ++ (mark ++ 10 ∷ []))

-- an entry that is linked
abbrev pub linked_in : Name → ℕ → List (Name × LeafKind)
linked_in system number = file_in system (entry_place number) (entry_text number []) ∷ []

-- an entry that is copied, with its mode and its owners
abbrev pub copied_in : Name → ℕ → List ℕ → List (Name × LeafKind)
copied_in system number mark =
    file_in system (entry_place number) (entry_text number mark)
    ∷ file_in system (entry_place number ++ codes ".mode") (codes "0644")
    ∷ file_in system (entry_place number ++ codes ".uid") (codes "+0")
    ∷ file_in system (entry_place number ++ codes ".gid") (codes "+0")
    ∷ []

-- what it has in the systems, by its draw: of four entries two are linked in both, one is copied in both and changed in the
-- new one, and one is linked in one of them
abbrev pub entry_by : ℕ → ℕ → ℕ → List (Name × LeafKind)
entry_by kind number draw =
    if kind == 2 then copied_in old_system number [] ++ copied_in new_system number (codes " new")
    else if kind == 3 then linked_in (if draw / 4 % 2 == 0 then old_system else new_system) number
    else linked_in old_system number ++ linked_in new_system number

-- its files
abbrev pub entry_leaves : ℕ → ℕ → List (Name × LeafKind)
entry_leaves number draw = entry_by (draw % 4) number draw

-- the files of the first so many entries, which take the next draws
abbrev pub entries_leaves : ℕ → ℕ → List (Name × LeafKind)
entries_leaves seed zero = []
entries_leaves seed (suc count) = entries_leaves seed count ++ entry_leaves count (draw_at seed (suc count))
