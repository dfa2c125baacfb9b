-- What a service manager makes of a call: systemctl(1), "Unit Commands" and "Manager State Commands".
use Rattle.std.specs.Prelude.{ℕ, List, [], ◌∷◌, ◌++◌}
use Rattle.host_trait.specs.Manager.{IsPlain, acted, halted, loading, state_after}
use Rattle.host_trait.specs.States.{with_state}
use Rattle.host_trait.specs.declared.entry.Act.{Act}
use Rattle.host_trait.specs.declared.entry.Act.TheVariants as act
use Rattle.host_trait.specs.declared.manager_state.ManagerState.{ManagerState}
use Rattle.manager_core.specs.declared.call.Call.{Call}
use Rattle.manager_core.specs.declared.call.Call.TheVariants.{Stop, Start, Restart, Reload, Halt, DaemonReload}

-- a manager after a call
abbrev pub done : Call → ManagerState → ManagerState
done (Stop unit) manager = acted act.Stop unit manager
done (Start unit) manager = acted act.Start unit manager
done (Restart unit) manager = acted act.Restart unit manager
done (Reload unit) manager = acted act.Reload unit manager
done (Halt unit) manager = halted unit manager
done (DaemonReload text) manager = loading text manager

-- the text of a call has neither a NUL nor a line feed
abbrev pub IsPlainCall : Call → Type 0
IsPlainCall (Stop unit) = Unit
IsPlainCall (Start unit) = Unit
IsPlainCall (Restart unit) = Unit
IsPlainCall (Reload unit) = Unit
IsPlainCall (Halt unit) = Unit
IsPlainCall (DaemonReload text) = IsPlain text

-- an act stands in the journal, with what is loaded at that moment
abbrev pub entered : Act → List ℕ → ManagerState → ManagerState
entered one unit manager = record manager { journal = manager.journal ++ record { unit = unit; act = one; loaded = manager.loaded } ∷ [] }

-- an act has brought its unit to the state that it leaves it in
abbrev pub effected : Act → List ℕ → ManagerState → ManagerState
effected one unit manager = record manager { states = with_state unit (state_after one unit manager) manager.states }
