-- The calls by which what is owed is given, in their order: NixOS manual, "What happens during a system switch?".
use Rattle.std.specs.Prelude.{◌&&◌, ◌++◌, ◌∷◌, List, [], map, not, if◌then◌else◌}
use Rattle.std.specs.List.{flat_map}
use Rattle.host_trait.specs.declared.entry.Act.{Act}
use Rattle.host_trait.specs.declared.entry.Act.TheVariants.{Stop, Reload, Restart, Start}
use Rattle.host_trait.specs.declared.unit_state.State.{State}
use Rattle.log_text.specs.declared.lists.Which.{Which}
use Rattle.log_text.specs.declared.lists.Which.TheVariants.{Starts, Restarts, Reloads}
use Rattle.log_text.specs.Lists.{list_names, with_list}
use Rattle.owed_plan.specs.declared.duty.Duty.{Duty}
use Rattle.owed_plan.specs.declared.owed.Owed.{Owed}
use Rattle.host_trait.specs.Manager.{is_active}
use Rattle.owed_plan.specs.Owed.{sockets_first}
use Rattle.switch_names.specs.Names.{Name, has}
use Rattle.unit_decide.specs.Facts.{unit_kind}

-- a call on a unit
abbrev pub duty : Act → Name → Duty
duty act unit = record { act = act; unit = unit }

-- a unit is reloaded where it stays active, and started elsewhere
abbrev pub reload_act : (Name → State) → List Name → Name → Act
reload_act states stops unit = if is_active (states unit) && not (has stops unit) then Reload else Start

-- the act by which a unit of a list is given what it waits for, by the states before the stops, and the stops
abbrev pub act_on : Which → (Name → State) → List Name → Name → Act
act_on Starts states stops unit = Start
act_on Restarts states stops unit = Restart
act_on Reloads states stops unit = reload_act states stops unit

-- the lists in the order in which what their units wait for is given
abbrev pub give_order : List Which
give_order = Reloads ∷ Restarts ∷ Starts ∷ []

-- the stops, sockets first
abbrev pub stop_calls : Owed → List Duty
stop_calls owed = map (duty Stop) (sockets_first unit_kind owed.stops)

-- the calls of a list in the order of its names, but the starts in this order
abbrev pub listed_calls : Owed → List Name → (Name → State) → Which → List Duty
listed_calls owed order states which = map (λ unit. duty (act_on which states owed.stops unit) unit) (list_names (with_list owed.lists Starts order) which)

-- the stops, sockets first; then reloads, restarts, and the starts in this order
abbrev pub calls_of : Owed → List Name → (Name → State) → List Duty
calls_of owed order states = stop_calls owed ++ flat_map (listed_calls owed order states) give_order
