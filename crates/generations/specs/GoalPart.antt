-- The part that removes the goal of a rollback: Nix manual, "Profiles".
use Rattle.std.specs.Prelude.{◌||◌, ◌∷◌, Bool, true, false, List, [], Option, None}
use Rattle.generations.specs.Goal.{goal_place}
use Rattle.host_trait.specs.World.{Leaves, content_of, is_path}
use Rattle.leaf_limits.specs.Limits.{content_past}
use Rattle.switch_names.specs.Names.{Name}
use Rattle.switch_parts.specs.declared.refusal.Refusal.{Refusal}
use Rattle.switch_parts.specs.declared.refusal.What.TheVariants.{LeafBytes}
use Rattle.switch_parts.specs.Leaves.{is_near, leaf_part}
use Rattle.switch_parts.specs.Limits.{too_many}
use Rattle.switch_parts.specs.Part.{Part}
use Rattle.switch_parts.specs.Store.{is_in_store}
use Rattle.tree_put.specs.declared.written_place.WrittenPlace.{WrittenPlace}
use Rattle.tree_put.specs.WrittenPlace.{written}

-- the place that is written
abbrev pub goal_places : List WrittenPlace
goal_places = written false goal_place ∷ []

-- the goal's own place
abbrev pub owns_goal : Name → Bool
owns_goal q = is_path q goal_place

-- what is looked at: that place, the store, to which a link there may lead, and what could be in its way
abbrev pub reads_goal : Name → Bool
reads_goal q = owns_goal q || (is_in_store q || is_near goal_places q)

-- the refusal of a goal that is taken and too long
abbrev pub goal_too_long : Leaves → Option Refusal
goal_too_long leaves = too_many LeafBytes (content_past (content_of leaves goal_place))

-- why the goal refuses a command, or nothing: where the profile goes back it is taken
abbrev pub goal_refusal : Bool → Leaves → Option Refusal
goal_refusal true leaves = goal_too_long leaves
goal_refusal false leaves = None

-- the part that leaves no goal, and takes the one that stands where the profile goes back
abbrev pub goal_part : Bool → Part
goal_part back = leaf_part owns_goal reads_goal (λ leaves. goal_places) (goal_refusal back) (λ leaves q. None)
