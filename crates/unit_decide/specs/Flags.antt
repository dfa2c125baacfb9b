-- Flags by which a unit tells a switch what to do with it: NixOS manual, "Unit handling", and systemd.unit(5).
use Rattle.std.specs.Prelude.{◌&&◌, Bool, true, false, not, List, codes}
use Rattle.unit_text.specs.declared.assignment.Assignment.{Assignment}
use Rattle.unit_text.specs.UnitKey.{key_of}
use Rattle.unit_text.specs.UnitText.{flag_of}

-- the unit is stopped where the new system doesn't define it
abbrev pub stop_on_removal : List Assignment → Bool
stop_on_removal text = flag_of text (key_of (codes "Unit") (codes "X-StopOnRemoval")) true

-- the target is stopped at each switch
abbrev pub stop_on_reconfiguration : List Assignment → Bool
stop_on_reconfiguration text = flag_of text (key_of (codes "Unit") (codes "X-StopOnReconfiguration")) false

-- only other units may start the unit
abbrev pub refuse_manual_start : List Assignment → Bool
refuse_manual_start text = flag_of text (key_of (codes "Unit") (codes "RefuseManualStart")) false

-- only other units may stop the unit
abbrev pub refuse_manual_stop : List Assignment → Bool
refuse_manual_stop text = flag_of text (key_of (codes "Unit") (codes "RefuseManualStop")) false

-- the unit is started and stopped by hand alone
abbrev pub only_manual_start : List Assignment → Bool
only_manual_start text = flag_of text (key_of (codes "Unit") (codes "X-OnlyManualStart")) false

-- the changed unit is reloaded
abbrev pub reload_if_changed : List Assignment → Bool
reload_if_changed text = flag_of text (key_of (codes "Service") (codes "X-ReloadIfChanged")) false

-- the changed unit is restarted
abbrev pub restart_if_changed : List Assignment → Bool
restart_if_changed text = flag_of text (key_of (codes "Service") (codes "X-RestartIfChanged")) true

-- the changed service is stopped under its old definition and started under its new one, not restarted
abbrev pub stop_if_changed : List Assignment → Bool
stop_if_changed text = flag_of text (key_of (codes "Service") (codes "X-StopIfChanged")) true

-- no socket starts the service
abbrev pub is_not_socket_activated : List Assignment → Bool
is_not_socket_activated text = flag_of text (key_of (codes "Service") (codes "X-NotSocketActivated")) false

-- a switch may start the unit
abbrev pub may_start : List Assignment → Bool
may_start text = not (refuse_manual_start text) && not (only_manual_start text)
