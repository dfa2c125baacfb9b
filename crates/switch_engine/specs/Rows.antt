-- What a command leaves, and why it is refused, by its row: NixOS manual, "Changing the configuration".
use Rattle.std.specs.Prelude.{Bool, true, false, Option, None, Some, is_none, option_map, if◌then◌else◌}
use Rattle.std.specs.FinMap.{get}
use Rattle.std.specs.Option.{option_or}
use Rattle.accounts_stage.specs.Rows.{rows_too_many}
use Rattle.activation_stage.specs.ActivationPart.{activation_part}
use Rattle.activation_stage.specs.Owners.{owners_after}
use Rattle.boot_entries.specs.Entries.{version_path}
use Rattle.etc_farm.specs.EtcPart.{entries_too_many}
use Rattle.etc_manifest.specs.Owners.{OwnerIds}
use Rattle.boot_entries.specs.BootDefault.{boot_default_part}
use Rattle.generations.specs.After.{gens_after}
use Rattle.generations.specs.declared.gens.Gens.{Gens}
use Rattle.generations.specs.declared.moving.Move.{Move}
use Rattle.generations.specs.GoalPart.{goal_part}
use Rattle.generations.specs.Move.{gens_moved}
use Rattle.host_trait.specs.declared.leaf.LeafKind.{LeafKind}
use Rattle.host_trait.specs.World.{Leaves, content_of}
use Rattle.leaf_limits.specs.declared.too_long.TooLong.{TooLong}
use Rattle.leaf_limits.specs.Limits.{first_long}
use Rattle.switch_engine.specs.declared.command.Command.{Command}
use Rattle.switch_engine.specs.Commands.{is_back, lacks_system, missing, new_system, row}
use Rattle.switch_engine.specs.Lengths.{too_long_by}
use Rattle.switch_names.specs.Names.{Name}
use Rattle.switch_parts.specs.declared.refusal.Refusal.{Refusal}
use Rattle.switch_parts.specs.declared.refusal.Refusal.TheVariants.{InTheWay, NoSystem}
use Rattle.switch_parts.specs.Limits.{long_refusal}
use Rattle.switch_parts.specs.Part.{Part, both, final_leaf, no_part}
use Rattle.tree_put.specs.First.{first_in_the_way}
use Rattle.unit_stage.specs.System.{units_too_many}
use Rattle.unit_stage.specs.Units.{units_part}

-- what is brought into use by a switch to a system, where these are the owners of what is put below /etc; that is made
-- between the stops and the starts; as the machine starts up its target is started too
abbrev pub switch_part : Bool → Name → OwnerIds → Part
switch_part start_up system owners = both (units_part start_up system) (activation_part system owners)

-- the same with the owners of the tables that are left
abbrev pub switch_in : Bool → Name → Leaves → Part
switch_in start_up system leaves = switch_part start_up system (owners_after system leaves)

-- the leaf that a switch of the units to a system leaves at a place, as the machine starts up or later
abbrev pub switched_leaf : Name → Leaves → Name → Option LeafKind
switched_leaf system leaves q = final_leaf (switch_in false system leaves) leaves q

-- a part, where this is so
abbrev pub part_if : Bool → Part → Part
part_if true part = part
part_if false part = no_part

-- the part of the goal of a rollback with a move of the profile: it goes, and where the profile goes back it is taken
abbrev pub goal_by : Move → Part
goal_by move = goal_part (is_back (Some move))

-- what a move of the profile is about: the boot default, where the boot menu is that of these generations, and that goal
abbrev pub default_part : Move → Name → Gens → Part
default_part move system gens = both (boot_default_part move system gens) (goal_by move)

-- the same, where the profile is moved
abbrev pub default_if : Option Move → Name → Gens → Part
default_if None system gens = no_part
default_if (Some move) system gens = default_part move system gens

-- the generations that stand after a move, where the profile is moved
abbrev pub gens_to : Option Move → Name → Leaves → Gens
gens_to None system leaves = gens_after system leaves
gens_to (Some move) system leaves = gens_moved move system leaves

-- the parts of a command that is about a system: what it switches, and the boot default
abbrev pub parts : Bool → Bool → Option Move → Name → OwnerIds → Gens → Part
parts start_up switches moves system owners gens = both (part_if switches (switch_part start_up system owners)) (default_if moves system gens)

-- the same with the owners of the tables that are left, and the generations that stand after a move of the profile
abbrev pub parts_in : Bool → Bool → Option Move → Name → Leaves → Part
parts_in start_up switches moves system leaves = parts start_up switches moves system (owners_after system leaves) (gens_to moves system leaves)

-- the parts of a command
abbrev pub part_of : Command → Leaves → Part
part_of command leaves = parts_in (row command leaves).start_up (row command leaves).switches (row command leaves).moves (new_system command leaves) leaves

-- what there is too much of for a command that is about a system, or nothing, where it switches the units: units, then entries
-- below /etc, and then rows of account tables
abbrev pub too_many_by : Bool → Name → Leaves → Option Refusal
too_many_by true system leaves = option_or (units_too_many leaves system) (option_or (entries_too_many leaves system) (rows_too_many leaves))
too_many_by false system leaves = None

-- why the parts of such a command are refused, or nothing, however long what they put is: something is in the way, or a part is refused
abbrev pub refusal_before_length : Bool → Bool → Option Move → Name → Leaves → Option Refusal
refusal_before_length start_up switches moves system leaves =
    let part = parts_in start_up switches moves system leaves in option_or (option_map InTheWay (first_in_the_way (part.places leaves) leaves)) (part.refusal leaves)

-- why they are refused, or nothing, where this is the log that would be too long: for that, or last because the log or another file
-- would be put longer than can be read again
abbrev pub refusal_in_parts : Option TooLong → Bool → Bool → Option Move → Name → Leaves → Option Refusal
refusal_in_parts log start_up switches moves system leaves =
    option_or (refusal_before_length start_up switches moves system leaves) (long_refusal (first_long log ((parts_in start_up switches moves system leaves).long leaves)))

-- what there is too much of for such a command, or nothing: bytes of a content that it takes, and then what is counted
abbrev pub too_much_by : Bool → Option Move → Name → Leaves → Option Refusal
too_much_by switches moves system leaves = option_or (too_long_by switches moves system (gens_to moves system leaves) leaves) (too_many_by switches system leaves)

-- why such a command is refused, or nothing: there is too much of something, or its parts are refused
abbrev pub refusal_by : Option TooLong → Bool → Bool → Option Move → Name → Leaves → Option Refusal
refusal_by log start_up switches moves system leaves = option_or (too_much_by switches moves system leaves) (refusal_in_parts log start_up switches moves system leaves)

-- the same for a command
abbrev pub parts_refusal : Option TooLong → Command → Leaves → Option Refusal
parts_refusal log command leaves = refusal_by log (row command leaves).start_up (row command leaves).switches (row command leaves).moves (new_system command leaves) leaves

-- why the system of such a command is refused before its parts are looked at, or nothing: it isn't there, or a content that is taken
-- is too long
abbrev pub version_refusal : Bool → Option Move → Name → Leaves → Option Refusal
version_refusal switches moves system leaves =
    if is_none (content_of leaves (version_path system)) then Some NoSystem else too_long_by switches moves system (gens_to moves system leaves) leaves

-- why the system of a command is refused, or nothing: it isn't there, or its parts are refused
abbrev pub system_refusal : Option TooLong → Command → Leaves → Option Refusal
system_refusal log command leaves =
    if is_none (content_of leaves (version_path (new_system command leaves))) then Some NoSystem else parts_refusal log command leaves

-- why a command is refused, or nothing, where this is the log that would be too long: the generations give it no system, or its
-- system is refused
abbrev pub refusal_with : Option TooLong → Command → Leaves → Option Refusal
refusal_with log command leaves = if lacks_system command leaves then Some (missing command) else system_refusal log command leaves

-- why a command is refused, or nothing, however long a log it would put
abbrev pub refusal : Command → Leaves → Option Refusal
refusal command leaves = refusal_with None command leaves

-- the leaf that a command leaves at a place: its owner's end, else as it was
abbrev pub final : Command → Leaves → Name → Option LeafKind
final command leaves q = if (row command leaves).changes then final_leaf (part_of command leaves) leaves q else get leaves q
