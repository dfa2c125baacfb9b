-- The decision on an Active unit: NixOS manual, "Unit handling".
use Rattle.std.specs.Prelude.{◌≡◌, ◌&&◌, ◌||◌, Bool, true, false, not, if◌then◌else◌}
use Rattle.switch_names.specs.declared.unit_kind.UnitKind.TheVariants.{Target, Mount, Service}
use Rattle.unit_decide.specs.declared.decision.Decision.{Decision}
use Rattle.unit_decide.specs.declared.decision.Decision.TheVariants.{Nothing, Stop, Start, StopStart, SocketStart, Restart, Reload}
use Rattle.unit_decide.specs.declared.facts.Facts.{Facts}
use Rattle.unit_decide.specs.Kinds.{is_kind, is_left_alone, is_reload_only, is_same}

-- no row before those of a change fits
pub record IsChanged (f : Facts) : Type 0 where
  pub defined : f.in_new ≡ true
  pub before : f.in_old ≡ true
  pub no_target : is_kind f.kind Target ≡ false
  pub differs : is_same f.outcome ≡ false
  pub acted_on : is_left_alone f.kind ≡ false

-- the first row that fits; the last argument says that one of the unit's sockets is live
unfoldable pub decide : Facts → Bool → Decision
decide f live =
    if not f.in_new && f.in_old && f.stop_on_removal then Stop
    else if not f.in_new then Nothing
    else if is_kind f.kind Target && f.stop_on_reconfiguration && f.may_start then StopStart
    else if is_kind f.kind Target && f.stop_on_reconfiguration then Stop
    else if is_kind f.kind Target && f.may_start then Start
    else if is_kind f.kind Target || not f.in_old || is_same f.outcome then Nothing
    else if is_left_alone f.kind then Nothing
    else if is_reload_only f.outcome then Reload
    else if f.is_root_mount then Reload
    else if is_kind f.kind Mount then Restart
    else if f.reload_if_changed then Reload
    else if not f.restart_if_changed || f.refuse_manual_stop || f.only_manual_start then Nothing
    else if not (is_kind f.kind Service) || not f.stop_if_changed then Restart
    else if live then SocketStart
    else StopStart
