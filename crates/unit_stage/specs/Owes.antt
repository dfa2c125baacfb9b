-- What a switch owes each unit, and what pays it: NixOS manual, "Unit handling".
use Rattle.std.specs.Prelude.{◌≡◌, ◌⊎◌, ◌&&◌, ◌+◌, ◌++◌, ◌*◌, ◌≤◌, Bool, true, false, IsTrue, List, Option, length, not}
use Rattle.std.specs.List.{AllByRecursion, list_any}
use Rattle.std.specs.Option.{IsSomeAnd}
use Rattle.host_trait.specs.declared.entry.Act.{Act}
use Rattle.host_trait.specs.declared.entry.Act.TheVariants.{Stop}
use Rattle.host_trait.specs.declared.entry.Entry.{Entry}
use Rattle.host_trait.specs.States.{state_of}
use Rattle.host_trait.specs.World.{WorldState}
use Rattle.leaf_limits.specs.Limits.{leaf_max}
use Rattle.log_text.specs.declared.lists.Lists.{Lists}
use Rattle.log_text.specs.Lists.{record_order}
use Rattle.log_text.specs.Log.{list_text}
use Rattle.owed_plan.specs.Lists.{Debt, OnList, ToStop}
use Rattle.owed_plan.specs.Owed.{IsDue}
use Rattle.owed_plan.specs.Steady.{IsSteady}
use Rattle.owed_plan.specs.Systems.{systems_at}
use Rattle.unit_stage.specs.System.{current_system, definitions_of}
use Rattle.switch_names.specs.Names.{IsListOf, Name, is_name}
use Rattle.unit_stage.specs.Waiting.{AreListsFor}

-- a switch to a system owes a unit of a world this
abbrev pub Owes : Bool → Name → WorldState → Debt → Name → Type 0
Owes start_up system w debt unit =
    (lists : Lists) × AreListsFor start_up w.leaves system lists × IsDue (systems_at w.leaves (current_system w.leaves) system) (state_of w.manager.states) lists debt unit

-- an act that stops a unit
abbrev pub is_stop : Act → Bool
is_stop Stop = true
is_stop act = false

-- an entry pays what is owed a unit: a stop by a stop, and what a list stands for by another act under the definitions of the system
abbrev pub pays : Name → Debt → Name → Entry → Bool
pays system ToStop unit entry = is_stop entry.act && is_name unit entry.unit
pays system (OnList which) unit entry = not (is_stop entry.act) && is_name unit entry.unit && is_name entry.loaded (definitions_of system)

-- one of some entries pays what is owed a unit
abbrev pub IsPaid : Name → Debt → Name → List Entry → Type 0
IsPaid system debt unit entries = IsTrue (list_any (pays system debt unit) entries)

-- a switch to a system owes a unit of a world something
abbrev pub OwesUnit : Bool → Name → WorldState → Name → Type 0
OwesUnit start_up system w unit = (debt : Debt) × Owes start_up system w debt unit

-- a switch of the units to a system, where there is one, owes a unit of a world this
abbrev pub OwesTo : Bool → Option Name → WorldState → Debt → Name → Type 0
OwesTo start_up to w debt unit = IsSomeAnd to (λ system. Owes start_up system w debt unit)

-- it owes a unit of a world something
abbrev pub OwesUnitTo : Bool → Option Name → WorldState → Name → Type 0
OwesUnitTo start_up to w unit = (debt : Debt) × OwesTo start_up to w debt unit

-- one of some entries pays what it owes a unit
abbrev pub IsPaidTo : Option Name → Debt → Name → List Entry → Type 0
IsPaidTo to debt unit entries = IsSomeAnd to (λ system. IsPaid system debt unit entries)

-- What a switch of the units has entered since it began in a world: only units that were owed something have been called,
-- and every other is in the state that it was in.
pub record HasEntered (start_up : Bool) (to : Option Name) (first w : WorldState) : Type 0 where
  pub entered : List Entry
  pub journal : w.manager.journal ≡ first.manager.journal ++ entered
  pub owed_alone : AllByRecursion (λ entry. OwesUnitTo start_up to first entry.unit) entered
  pub others : (unit : Name) → ¬ OwesUnitTo start_up to first unit → state_of w.manager.states unit ≡ state_of first.manager.states unit

-- A switch of the units has gone on from one world to another: what it owed the units is paid or still owed, and no unit is owed
-- something that was owed nothing.
pub record HasGoneOn (start_up : Bool) (to : Option Name) (first w : WorldState) : Type 0 where
  pub since : HasEntered start_up to first w
  pub paid_or_owed : (debt : Debt) (unit : Name) → OwesTo start_up to first debt unit → IsPaidTo to debt unit since.entered ⊎ OwesTo start_up to w debt unit
  pub no_more_owed : (unit : Name) → OwesUnitTo start_up to w unit → OwesUnitTo start_up to first unit

-- names, a line each, can stand in each of the lists of a file that can be read again, with 64 bytes more for each
abbrev pub FitInEach : List Name → Type 0
FitInEach names = length record_order * (length (list_text names) + 64) ≤ leaf_max

-- no target is to be stopped for good and started, and none is on another list; and a log has room for the names of
-- the units that are owed something in each of its lists
pub record IsSteadyWorld (start_up : Bool) (system : Name) (w : WorldState) : Type 0 where
  pub marks : (lists : Lists) → AreListsFor start_up w.leaves system lists → IsSteady (systems_at w.leaves (current_system w.leaves) system) (state_of w.manager.states) lists
  pub room : (names : List Name) → IsListOf names (OwesUnit start_up system w) → FitInEach names
