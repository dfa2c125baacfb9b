-- Which contents a command takes: a file that is longer than may be read refuses it. The greatest length is this project's own.
use Rattle.std.specs.Prelude.{◌&&◌, ◌||◌, Bool, true, false, Option, None, Some}
use Rattle.accounts_stage.specs.Lengths.{takes_accounts}
use Rattle.boot_entries.specs.Sources.{taken_of}
use Rattle.boot_entries.specs.Entries.{version_path}
use Rattle.etc_farm.specs.EtcPart.{takes_etc}
use Rattle.generations.specs.declared.gens.Gens.{Gens}
use Rattle.generations.specs.declared.moving.Move.{Move}
use Rattle.generations.specs.Goal.{goal_place}
use Rattle.host_trait.specs.World.{Leaves}
use Rattle.leaf_limits.specs.Limits.{long_past}
use Rattle.owed_log.specs.Places.{is_owed_place}
use Rattle.switch_engine.specs.Commands.{is_back}
use Rattle.switch_names.specs.Names.{Name, has, is_name}
use Rattle.switch_parts.specs.declared.refusal.Refusal.{Refusal}
use Rattle.switch_parts.specs.declared.refusal.What.TheVariants.{LeafBytes}
use Rattle.switch_parts.specs.Limits.{too_many}
use Rattle.unit_stage.specs.System.{takes_switched}

-- a switch to a system, where the units are switched, takes the content at a place: the log or a list of an older program, or for the
-- units, the accounts or /etc
abbrev pub takes_switch : Bool → Name → Leaves → Name → Bool
takes_switch true system leaves q = is_owed_place q || (takes_switched leaves system q || (takes_accounts system q || takes_etc leaves system q))
takes_switch false system leaves q = false

-- the boot menu of these generations, where the profile is moved, takes it
abbrev pub takes_menu : Option Move → Gens → Name → Bool
takes_menu None gens q = false
takes_menu (Some move) gens q = has (taken_of gens) q

-- so is the goal of a rollback, where the profile goes back
abbrev pub takes_goal : Option Move → Name → Bool
takes_goal moves q = is_back moves && is_name q goal_place

-- a move of the profile takes it: for the boot menu, or as the goal
abbrev pub takes_moved : Option Move → Gens → Name → Bool
takes_moved moves gens q = takes_menu moves gens q || takes_goal moves q

-- a command that is about a system takes it: the file that each system has, and what its parts take
abbrev pub takes_by : Bool → Option Move → Name → Gens → Leaves → Name → Bool
takes_by switches moves system gens leaves q = is_name q (version_path system) || (takes_switch switches system leaves q || takes_moved moves gens q)

-- the refusal of the first content in byte order that is taken and too long, where there is one
abbrev pub too_long_by : Bool → Option Move → Name → Gens → Leaves → Option Refusal
too_long_by switches moves system gens leaves = too_many LeafBytes (long_past (takes_by switches moves system gens leaves) leaves)
