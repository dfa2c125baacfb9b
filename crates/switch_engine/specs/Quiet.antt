-- What a command writes quietly: where a leaf stands already, none is put.
use Rattle.std.specs.Prelude.{◌≡◌, ◌||◌, ◌++◌, [], Bool, true, List, Option, None, Some, codes, not}
use Rattle.std.specs.FinMap.{get}
use Rattle.activation_stage.specs.Quiet.{activation_first}
use Rattle.host_trait.specs.declared.leaf.LeafKind.{LeafKind}
use Rattle.host_trait.specs.World.{Leaves, WorldState}
use Rattle.switch_engine.specs.declared.command.Command.{Command}
use Rattle.switch_engine.specs.Commands.{brought_to}
use Rattle.switch_engine.specs.Rows.{final, switched_leaf}
use Rattle.switch_names.specs.Names.{Name}
use Rattle.switch_names.specs.Path.{is_below}
use Rattle.switch_parts.specs.Leaves.{End}
use Rattle.switch_parts.specs.Quiet.{IsQuietAt, times}

-- whether a place lies below /etc, or is one of the memory of accounts
abbrev pub is_quiet : Name → Bool
is_quiet q = is_below q (codes "etc") || is_below q (codes "var/lib/nixos")

-- whether a place is none of these
abbrev pub is_not_quiet : Name → Bool
is_not_quiet q = not (is_quiet q)

-- each quiet place is written at most once for each leaf that it gets, and not at all where each is the one that stood
pub record IsQuietRun (on_the_way : Leaves → Name → List LeafKind) (end : End) (w v : WorldState) : Type 0 where
  pub places : List Name
  pub written : v.written ≡ w.written ++ places
  pub quiet : (q : Name) → is_quiet q ≡ true → IsQuietAt (on_the_way w.leaves q) (end w.leaves q) (get w.leaves q) (times q places)

-- the leaves that are put at a place before its end, where the units are switched to a system
abbrev pub first_by : Option Name → Leaves → Name → List LeafKind
first_by None leaves q = []
first_by (Some system) leaves q = activation_first system leaves q

-- the same for a command
abbrev pub command_first : Command → Leaves → Name → List LeafKind
command_first command leaves q = first_by (brought_to command leaves) leaves q

-- a switch of the units to a system is quiet
abbrev pub IsQuietSwitch : Name → WorldState → WorldState → Type 0
IsQuietSwitch system w v = IsQuietRun (activation_first system) (switched_leaf system) w v

-- a command is quiet
abbrev pub IsQuietCommand : Command → WorldState → WorldState → Type 0
IsQuietCommand command w v = IsQuietRun (command_first command) (final command) w v
