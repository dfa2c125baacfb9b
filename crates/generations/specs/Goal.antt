-- The goal of a rollback: Nix manual, "Profiles".
use Rattle.std.specs.Prelude.{◌≡◌, ◌&&◌, ◌==◌, ◌++◌, ◌∷◌, ◌^◌, ℕ, Bool, false, true, List, [], codes, nat_eq, Option, None, Some, is_some, if◌then◌else◌}
use Rattle.std.specs.Cmp.Lexicographic.{pointwise}
use Rattle.std.specs.FinMap.{get}
use Rattle.std.specs.Fmt.{decimal}
use Rattle.host_trait.specs.Leaf.{open_file}
use Rattle.generations.specs.Digits.{BearsNumber}
use Rattle.generations.specs.Places.{generation_at, greatest_below, link_name, link_path, profile}
use Rattle.host_trait.specs.declared.leaf.LeafKind.{LeafKind}
use Rattle.host_trait.specs.declared.leaf.LeafKind.TheVariants.{File, Link}
use Rattle.host_trait.specs.World.{Leaves, content_of}

-- where the goal is recorded
unfoldable pub goal_place : List ℕ
goal_place = codes "run/nixos/rollback-goal"

-- the text of a goal: digits and a line feed
abbrev pub goal_text : ℕ → List ℕ
goal_text n = decimal n ++ (10 ∷ [])

-- the leaf of a goal: its text, which all may read
abbrev pub goal_leaf : ℕ → LeafKind
goal_leaf n = open_file (goal_text n)

-- a generation that stands and names a system
abbrev pub names_system : Option (Option (List ℕ)) → Bool
names_system None = false
names_system (Some target) = is_some target

abbrev pub has_target : Leaves → ℕ → Bool
has_target leaves n = names_system (generation_at leaves n)

-- a content is a text
abbrev pub is_content : Option (List ℕ) → List ℕ → Bool
is_content None text = false
is_content (Some bytes) text = pointwise nat_eq bytes text

-- the number of which a content is the text
abbrev pub BearsGoal : Option (List ℕ) → Option ℕ → Type 0
BearsGoal None number = number ≡ None
BearsGoal (Some bytes) number = BearsNumber goal_text bytes number

-- the goal that is recorded names this generation, which names a system
abbrev pub is_recorded : Leaves → ℕ → Bool
is_recorded leaves n = has_target leaves n && is_content (content_of leaves goal_place) (goal_text n)

-- a leaf is the link to a generation
abbrev pub is_link : Option LeafKind → List ℕ → Bool
is_link None text = false
is_link (Some (File bytes mode uid gid)) text = false
is_link (Some (Link target)) text = pointwise nat_eq target text

-- the profile names this generation, which stands
abbrev pub is_current : Leaves → ℕ → Bool
is_current leaves n = is_some (generation_at leaves n) && is_link (get leaves profile) (link_name n)

-- the generation that is recorded, or 0
unfoldable pub recorded : Leaves → ℕ
recorded leaves = greatest_below (is_recorded leaves) (2 ^ 32)

-- the greatest one below the current that names a system, or 0
unfoldable pub previous : Leaves → ℕ
previous leaves = greatest_below (has_target leaves) (greatest_below (is_current leaves) (2 ^ 32))

-- a number but 0
abbrev pub some_number : ℕ → Option ℕ
some_number n = if n == 0 then None else Some n

-- the goal of a rollback: the generation that is recorded, else the previous one
abbrev pub goal : Leaves → Option ℕ
goal leaves = if recorded leaves == 0 then some_number (previous leaves) else Some (recorded leaves)

-- two trees have the same links of generations
abbrev pub HasSameLinks : Leaves → Leaves → Type 0
HasSameLinks w m = (n : ℕ) → get m (link_path n) ≡ get w (link_path n)

-- a moment of a rollback to a generation before its goal is removed: what was recorded and the profile stand, or the goal is
-- recorded
pub data IsBefore (n : ℕ) (w m : Leaves) : Type 0 where
  Unrecorded : content_of m goal_place ≡ content_of w goal_place → get m profile ≡ get w profile → IsBefore n w m
  Recorded : get m goal_place ≡ Some (goal_leaf n) → IsBefore n w m

-- at each such moment the goal is the same
abbrev pub GoalLaw : Type 0
GoalLaw = (n : ℕ) (w m : Leaves) → has_target w n ≡ true → goal w ≡ Some n → HasSameLinks w m → IsBefore n w m → goal m ≡ Some n
