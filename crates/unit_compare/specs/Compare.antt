-- What changed between two texts of a unit: NixOS manual, "Unit handling".
use Rattle.std.specs.Prelude.{◌≡◌, ℕ, ◌&&◌, ◌||◌, Bool, true, false, not, List, [], ◌∷◌, ◌++◌, filter, map, nat_eq, codes, IsTrue, if◌then◌else◌}
use Rattle.std.specs.Cmp.Lexicographic.{pointwise}
use Rattle.std.specs.List.{list_all, list_any}
use Rattle.switch_names.specs.declared.unit_kind.UnitKind.{UnitKind}
use Rattle.switch_names.specs.declared.unit_kind.UnitKind.TheVariants.{Service, Socket, Target, Mount, Automount, Swap, Path, Slice, Timer, Scope, Device}
use Rattle.unit_text.specs.declared.assignment.Assignment.{Assignment}
use Rattle.unit_text.specs.declared.unit_key.UnitKey.{UnitKey}
use Rattle.unit_text.specs.UnitKey.{key_of, is_same_key}
use Rattle.unit_text.specs.UnitText.{values_of}
use Rattle.unit_compare.specs.declared.comparison.Comparison.{Comparison}
use Rattle.unit_compare.specs.declared.comparison.Comparison.TheVariants.{Same, ReloadOnly, Changed}

-- the keys of the section `Unit` that say nothing of a running unit
abbrev pub ignored_names : List (List ℕ)
ignored_names =
    codes "Description" ∷ codes "Documentation" ∷ codes "OnFailure" ∷ codes "OnSuccess" ∷ codes "OnFailureJobMode" ∷ codes "IgnoreOnIsolate"
    ∷ codes "StopWhenUnneeded" ∷ codes "RefuseManualStart" ∷ codes "RefuseManualStop" ∷ codes "AllowIsolate" ∷ codes "CollectMode" ∷ codes "SourcePath" ∷ []

-- one of these names, whatever the section
unfoldable pub is_ignored_name : List ℕ → Bool
is_ignored_name key = list_any (pointwise nat_eq key) ignored_names

-- a key says nothing of a running unit: each of `Install`, and those of `Unit`
abbrev pub is_ignored : UnitKey → Bool
is_ignored key =
    pointwise nat_eq key.section (codes "Install") || (pointwise nat_eq key.section (codes "Unit") && is_ignored_name key.key)

-- both are the same values in the same order
abbrev pub are_same_values : List (List ℕ) → List (List ℕ) → Bool
are_same_values = pointwise (pointwise nat_eq)

-- a key that isn't ignored has other values in the new text than in the old one
abbrev pub differs : List Assignment → List Assignment → UnitKey → Bool
differs old new key = not (is_ignored key) && not (are_same_values (values_of old key) (values_of new key))

-- the kind of the units that mount a file system
abbrev pub is_mount : UnitKind → Bool
is_mount Service = false
is_mount Socket = false
is_mount Target = false
is_mount Mount = true
is_mount Automount = false
is_mount Swap = false
is_mount Path = false
is_mount Slice = false
is_mount Timer = false
is_mount Scope = false
is_mount Device = false

-- a reload takes up a change of this key: of the reload triggers and, for a mount, of its options
abbrev pub is_reload_key : UnitKind → UnitKey → Bool
is_reload_key kind key =
    is_same_key key (key_of (codes "Unit") (codes "X-Reload-Triggers")) || (is_mount kind && is_same_key key (key_of (codes "Mount") (codes "Options")))

-- the keys that differ, among those that either text assigns
abbrev pub differing : List Assignment → List Assignment → List UnitKey
differing old new = filter (differs old new) (map (λ a. a.at) (old ++ new))

-- the outcome by the keys that differ: none, reload keys alone, or others
abbrev pub outcome_of : UnitKind → List UnitKey → Comparison
outcome_of kind [] = Same
outcome_of kind (key ∷ rest) = if list_all (is_reload_key kind) (key ∷ rest) then ReloadOnly else Changed

-- what changed between an old and a new text of a unit
unfoldable pub comparison : UnitKind → List Assignment → List Assignment → Comparison
comparison kind old new = outcome_of kind (differing old new)

-- no key differs
abbrev pub AreSame : List Assignment → List Assignment → Type 0
AreSame old new = (key : UnitKey) → differs old new key ≡ false

-- a key differs, and a reload takes up each that does
pub record AreReloadOnly (kind : UnitKind) (old new : List Assignment) : Type 0 where
  pub key : UnitKey
  pub other : IsTrue (differs old new key)
  pub taken_up : (each : UnitKey) → IsTrue (differs old new each) → IsTrue (is_reload_key kind each)

-- a key differs whose change no reload takes up
pub record AreChanged (kind : UnitKind) (old new : List Assignment) : Type 0 where
  pub key : UnitKey
  pub other : IsTrue (differs old new key)
  pub not_taken_up : is_reload_key kind key ≡ false
