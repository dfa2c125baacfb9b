-- What each command does, a row for each: NixOS manual, "Changing the configuration".
use Rattle.std.specs.Prelude.{◌≡◌, ◌&&◌, Bool, true, false, [], ℕ, Option, None, Some, is_none, option_map, unwrap_or, if◌then◌else◌}
use Rattle.generations.specs.declared.moving.Move.{Move}
use Rattle.generations.specs.declared.moving.Move.TheVariants.{Point, Set}
use Rattle.generations.specs.Boot.{boot_system}
use Rattle.generations.specs.Goal.{goal}
use Rattle.generations.specs.Places.{generation_at}
use Rattle.host_trait.specs.World.{Leaves}
use Rattle.switch_engine.specs.declared.command.Command.{Command}
use Rattle.switch_engine.specs.declared.command.Command.TheVariants.{Switch, Test, Boot, DryActivate, Rollback, StartUp}
use Rattle.switch_engine.specs.declared.row.Row.{Row}
use Rattle.switch_names.specs.Names.{Name}
use Rattle.switch_parts.specs.declared.refusal.Refusal.{Refusal}
use Rattle.switch_parts.specs.declared.refusal.Refusal.TheVariants.{NoPrevious, NoProfile}

-- the system that a generation names, where it names one
abbrev pub named_by : Option (Option Name) → Name
named_by None = []
named_by (Some None) = []
named_by (Some (Some system)) = system

-- the system of a generation, where there is one
abbrev pub system_of : Option ℕ → Leaves → Name
system_of None leaves = []
system_of (Some n) leaves = named_by (generation_at leaves n)

-- what a command does, given the leaves where it begins: a rollback goes to the generation that is its goal there, and a start-up is
-- about the system that the machine boots into there
abbrev pub row : Command → Leaves → Row
row (Switch system) leaves = record { system = system; moves = Some Set; switches = true; start_up = false; changes = true }
row (Test system) leaves = record { system = system; moves = None; switches = true; start_up = false; changes = true }
row (Boot system) leaves = record { system = system; moves = Some Set; switches = false; start_up = false; changes = true }
row (DryActivate system) leaves = record { system = system; moves = None; switches = true; start_up = false; changes = false }
row Rollback leaves = record { system = system_of (goal leaves) leaves; moves = option_map Point (goal leaves); switches = true; start_up = false; changes = true }
row StartUp leaves = record { system = unwrap_or (boot_system leaves) []; moves = None; switches = true; start_up = true; changes = true }

-- a command goes by the generations, and they give it no system
abbrev pub lacks_system : Command → Leaves → Bool
lacks_system (Switch system) leaves = false
lacks_system (Test system) leaves = false
lacks_system (Boot system) leaves = false
lacks_system (DryActivate system) leaves = false
lacks_system Rollback leaves = is_none (goal leaves)
lacks_system StartUp leaves = is_none (boot_system leaves)

-- why a command is refused to which the generations give no system
abbrev pub missing : Command → Refusal
missing StartUp = NoProfile
missing command = NoPrevious

-- the system that a command is about in a world
abbrev pub new_system : Command → Leaves → Name
new_system command leaves = (row command leaves).system

-- a command that changes nothing, wherever it begins
abbrev pub IsQuery : Command → Type 0
IsQuery command = (leaves : Leaves) → (row command leaves).changes ≡ false

-- a command for the next boot alone, which does nothing to the units, wherever it begins
abbrev pub IsBoot : Command → Type 0
IsBoot command = (leaves : Leaves) → (row command leaves).switches ≡ false

-- the profile goes back to a generation
abbrev pub is_back : Option Move → Bool
is_back None = false
is_back (Some Set) = false
is_back (Some (Point n)) = true

-- a command takes the profile back to a generation
abbrev pub goes_back : Command → Leaves → Bool
goes_back command leaves = is_back (row command leaves).moves

-- a system, where this is so
abbrev pub if_so : Bool → Name → Option Name
if_so is system = if is then Some system else None

-- a system, where the profile is moved to it
abbrev pub if_moved : Option Move → Name → Option Name
if_moved moves system = option_map (λ move. system) moves

-- the move of a row that changes something
abbrev pub moved_by : Row → Option Move
moved_by its = if its.changes then its.moves else None

-- the system to which a row switches the units, or would switch them
abbrev pub switched_by : Row → Option Name
switched_by its = if_so its.switches its.system

-- the system to which a row does switch the units
abbrev pub brought_by : Row → Option Name
brought_by its = if_so (its.changes && its.switches) its.system

-- the system to which a row moves the profile
abbrev pub set_by : Row → Option Name
set_by its = if_moved (moved_by its) its.system

-- the system to which a command switches the units, or would switch them
abbrev pub switched_to : Command → Leaves → Option Name
switched_to command leaves = switched_by (row command leaves)

-- the system to which a command does switch the units
abbrev pub brought_to : Command → Leaves → Option Name
brought_to command leaves = brought_by (row command leaves)

-- the system to which a command moves the profile
abbrev pub set_to : Command → Leaves → Option Name
set_to command leaves = set_by (row command leaves)
