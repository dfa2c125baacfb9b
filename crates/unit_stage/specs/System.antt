-- The system in use, and the links to a system: NixOS manual, "What happens during a system switch?".
use Rattle.std.specs.Prelude.{◌≡◌, ◌||◌, ℕ, ◌++◌, Bool, false, List, Option, None, Some, codes, option_and_then, option_map}
use Rattle.std.specs.FinMap.{get}
use Rattle.std.specs.Option.{option_or}
use Rattle.switch_names.specs.SystemName.{named_system}
use Rattle.host_trait.specs.declared.leaf.LeafKind.{LeafKind}
use Rattle.host_trait.specs.declared.leaf.LeafKind.TheVariants.{Link}
use Rattle.host_trait.specs.World.{Leaves}
use Rattle.generations.specs.Places.{link_target, target_of}
use Rattle.leaf_limits.specs.Limits.{long_past}
use Rattle.owed_plan.specs.Store.{IsInStore}
use Rattle.switch_names.specs.Names.{Name}
use Rattle.unit_defs.specs.Count.{units_past}
use Rattle.unit_defs.specs.Taken.{takes_units}
use Rattle.unit_defs.specs.Units.{first_fault_of}
use Rattle.switch_parts.specs.Limits.{too_many}
use Rattle.switch_parts.specs.declared.refusal.Refusal.{Refusal}
use Rattle.switch_parts.specs.declared.refusal.Refusal.TheVariants.{UnitText}
use Rattle.switch_parts.specs.declared.refusal.What.TheVariants.{LeafBytes, Units}

-- where the link to the system in use stands
unfoldable pub current_place : List ℕ
current_place = codes "run/current-system"

-- the system in use: the one that the link names, where it names one
abbrev pub current_system : Leaves → Option (List ℕ)
current_system leaves = option_and_then target_of (get leaves current_place)

-- how many units the system in use has, where these are too many
abbrev pub old_units_past : Leaves → Option ℕ
old_units_past leaves = option_and_then (units_past leaves) (current_system leaves)

-- the refusal of too many units: those of the system that comes into use are counted first, then those of the one in use
abbrev pub units_too_many : Leaves → List ℕ → Option Refusal
units_too_many leaves system = option_or (too_many Units (units_past leaves system)) (too_many Units (old_units_past leaves))

-- the refusal of the first faulty file of a system's units
abbrev pub text_refusal : Leaves → List ℕ → Option Refusal
text_refusal leaves system = option_map (λ fault. UnitText fault.0 fault.1) (first_fault_of leaves system)

-- whether the units of a system take the content at a path, where there is a system
abbrev pub takes_old : Leaves → Option Name → Name → Bool
takes_old leaves None q = false
takes_old leaves (Some system) q = takes_units leaves system q

-- whether a switch to a system takes the content at a path for its units: for those of the system, or those of the one in use
abbrev pub takes_switched : Leaves → Name → Name → Bool
takes_switched leaves system q = takes_units leaves system q || takes_old leaves (current_system leaves) q

-- the refusal of the first content that is taken and too long
abbrev pub units_too_long : Leaves → List ℕ → Option Refusal
units_too_long leaves system = too_many LeafBytes (long_past (takes_switched leaves system) leaves)

-- why what the units of a system define can't be read, or nothing: too many units, or else the first faulty file
abbrev pub defs_refusal : Leaves → List ℕ → Option Refusal
defs_refusal leaves system = option_or (units_too_many leaves system) (text_refusal leaves system)

-- why the units of a system can't be read, or nothing: what they define can't, or else a content is too long
abbrev pub unit_refusal : Leaves → List ℕ → Option Refusal
unit_refusal leaves system = option_or (defs_refusal leaves system) (units_too_long leaves system)

-- the link to a system
abbrev pub system_leaf : List ℕ → LeafKind
system_leaf system = Link (link_target system)

-- where the definitions of a system lie
abbrev pub definitions_of : List ℕ → List ℕ
definitions_of system = link_target system ++ codes "/etc"

-- the path is that of a system in the store, which a link to it names
pub record IsSystem (system : List ℕ) : Type 0 where
  pub inside : IsInStore system
  pub named : named_system (link_target system) ≡ Some system
