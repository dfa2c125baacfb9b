-- The world that a run changes: leaves by path, as a file tree without its folders has them, and a service manager.
use Rattle.std.specs.Prelude.{◌≡◌, ◌≢◌, ℕ, ◌&&◌, ◌||◌, not, Bool, true, IsSome, List, nat_eq, codes, count_by, ◌++◌, ◌∷◌, [], drop, filter, Option, None, Some, is_none, slice_get, if◌then◌else◌, refl}
use Rattle.std.specs.Coded.{Coded, code_by, coded×, coded_list, coded_ℕ}
use Rattle.std.specs.Cmp.Lexicographic.{pointwise}
use Rattle.std.specs.FinMap.{FinMap, get, insert, remove, keys}
use Rattle.std.specs.FinMap as map
use Rattle.std.specs.List.{starts_with}
use Rattle.switch_names.specs.Names.{IsListOf}
use Rattle.switch_names.specs.Path.{IsPath, is_below, names_of, path_fault}
pub use Rattle.host_trait.specs.Bytes.{bytes_cmp}
use Rattle.host_trait.specs.declared.leaf.LeafKind.{LeafKind}
use Rattle.host_trait.specs.declared.leaf.LeafKind.TheVariants.{File, Link}
use Rattle.host_trait.specs.declared.manager_state.ManagerState.{ManagerState}
use Rattle.host_trait.specs.Manager.{empty_manager}
use Rattle.host_trait.specs.States.{UnitStates}

-- the leaves of a tree by path
abbrev pub Leaves : Type 0
Leaves = FinMap bytes_cmp LeafKind

-- all that a run sees and changes
pub record WorldState : Type 0 where
  pub leaves : Leaves
  pub manager : ManagerState
  -- the places to which leaves were moved, of which they were removed, or whose files were extended, the oldest first
  pub written : List (List ℕ)

abbrev pub world_code : Coded LeafKind → Coded ManagerState → Coded WorldState
world_code leaf manager =
    code_by (Leaves × (ManagerState × List (List ℕ))) (coded× (map.code (coded_list coded_ℕ) leaf) (coded× manager (coded_list (coded_list coded_ℕ))))
    (λ w. (w.leaves, (w.manager, w.written))) (λ parts. record { leaves = parts.0; manager = parts.1.0; written = parts.1.1 }) (λ _. refl)

-- the world without a leaf, with a manager that has done nothing
abbrev pub empty_world : WorldState
empty_world = record { leaves = map.empty; manager = empty_manager; written = [] }

-- whether two paths are equal
abbrev pub is_path : List ℕ → List ℕ → Bool
is_path p q = pointwise nat_eq p q

-- whether one of two paths lies strictly below the other
abbrev pub is_in_line : List ℕ → List ℕ → Bool
is_in_line p q = is_below p q || is_below q p

-- no leaf stands strictly above or below a path
abbrev pub IsClear : Leaves → List ℕ → Type 0
IsClear leaves at = (q : List ℕ) → is_in_line q at ≡ true → get leaves q ≡ None

-- a leaf stands strictly above or below a path
abbrev pub IsInTheWay : Leaves → List ℕ → Type 0
IsInTheWay leaves at = (q : List ℕ) × (is_in_line q at ≡ true) × IsSome (get leaves q)

-- leaves stand at paths, and none strictly above or below another
pub record IsSound (leaves : Leaves) : Type 0 where
  pub paths : (q : List ℕ) → IsSome (get leaves q) → IsPath q
  pub apart : (q : List ℕ) → IsSome (get leaves q) → IsClear leaves q

-- the leaf at one path is moved to another
abbrev pub with_moved : Leaves → List ℕ → List ℕ → Option LeafKind → Leaves
with_moved leaves from to None = leaves
with_moved leaves from to (Some leaf) = insert (remove leaves from) to leaf

abbrev pub moved : Leaves → List ℕ → List ℕ → Leaves
moved leaves from to = with_moved leaves from to (get leaves from)

-- where a leaf is written before it takes its place
unfoldable pub stage : List ℕ
stage = codes "nix/var/nixswitch.stage"

-- the world without the leaf at the stage, whatever was written
abbrev pub seen : WorldState → WorldState
seen w = record w { leaves = remove w.leaves stage; written = [] }

-- what two runs have to leave alike: the leaves but for the stage, the states of units, and what is loaded
pub record Shown : Type 0 where
  pub leaves : Leaves
  pub states : UnitStates
  pub loaded : List ℕ

abbrev pub shown : WorldState → Shown
shown w = record { leaves = remove w.leaves stage; states = w.manager.states; loaded = w.manager.loaded }

-- two trees have the same at a path, unless that is the stage
abbrev pub IsSameAt : Leaves → Leaves → List ℕ → Type 0
IsSameAt leaves other path = path ≢ stage → get leaves path ≡ get other path

-- the world with a leaf put at a path
abbrev pub with_leaf : List ℕ → LeafKind → WorldState → WorldState
with_leaf at leaf w = record w { leaves = insert w.leaves at leaf }

-- the world without the leaf at a path, which counts as written
abbrev pub without_leaf : List ℕ → WorldState → WorldState
without_leaf at w = record w { leaves = remove w.leaves at; written = w.written ++ at ∷ [] }

-- a file with more bytes at its end
abbrev pub extended : LeafKind → List ℕ → LeafKind
extended (File bytes mode uid gid) more = File (bytes ++ more) mode uid gid
extended (Link target) more = Link target

-- the leaves with more bytes at the end of the file at a path
abbrev pub with_extended : Leaves → List ℕ → List ℕ → Option LeafKind → Leaves
with_extended leaves at more None = leaves
with_extended leaves at more (Some leaf) = insert leaves at (extended leaf more)

abbrev pub with_more : Leaves → List ℕ → List ℕ → Leaves
with_more leaves at more = with_extended leaves at more (get leaves at)

-- the world with a manager in another state
abbrev pub with_manager : ManagerState → WorldState → WorldState
with_manager manager w = record w { manager = manager }

-- whether a path equals another or lies below it, and isn't the stage
abbrev pub is_listed : List ℕ → List ℕ → Bool
is_listed under q = (is_path q under || is_below q under) && not (is_path q stage)

-- the paths of the leaves at or below a path, in order
abbrev pub listed : List ℕ → Leaves → List (List ℕ)
listed under leaves = filter (is_listed under) (keys leaves)

-- a name is the first one of a path with a leaf, the stage's left out
abbrev pub IsTop : Leaves → List ℕ → Type 0
IsTop leaves name = (q : List ℕ) × IsSome (get leaves q) × (q ≢ stage) × (slice_get (names_of q) 0 ≡ Some name)

-- these are the first names of all such paths, in order
abbrev pub AreTops : Leaves → List (List ℕ) → Type 0
AreTops leaves tops = IsListOf tops (IsTop leaves)

-- whether a path is another than the stage
unfoldable pub is_elsewhere : List ℕ → Bool
is_elsewhere q = not (is_path q stage)

-- how many leaves there are, the stage's left out
abbrev pub leaf_count : Leaves → ℕ
leaf_count leaves = count_by is_elsewhere (keys leaves)

-- the bytes of a leaf that is a file
abbrev pub file_bytes : Option LeafKind → Option (List ℕ)
file_bytes None = None
file_bytes (Some (File bytes mode uid gid)) = Some bytes
file_bytes (Some (Link target)) = None

-- a file stands at a path
abbrev pub IsFileAt : Leaves → List ℕ → Type 0
IsFileAt leaves at = IsSome (file_bytes (get leaves at))

-- the path in the store that a link's target names
abbrev pub store_place : List ℕ → Option (List ℕ)
store_place target = if starts_with nat_eq target (codes "/nix/store/") && is_none (path_fault (drop 1 target)) then Some (drop 1 target) else None

abbrev pub file_at : Leaves → Option (List ℕ) → Option (List ℕ)
file_at leaves None = None
file_at leaves (Some at) = file_bytes (get leaves at)

abbrev pub leaf_content : Leaves → Option LeafKind → Option (List ℕ)
leaf_content leaves None = None
leaf_content leaves (Some (File bytes mode uid gid)) = Some bytes
leaf_content leaves (Some (Link target)) = file_at leaves (store_place target)

-- the bytes of the file at a path, or of the file in the store that a link there leads to
abbrev pub content_of : Leaves → List ℕ → Option (List ℕ)
content_of leaves at = leaf_content leaves (get leaves at)
