-- After some of the stops the same is owed.
use Rattle.std.proofs.Common.{◌≡◌, ◌⊎◌, ◌&&◌, Bool, true, IsTrue, inl, inr, refl, sym, subst, ◌∙◌, ap}
use Rattle.std.proofs.lemmas.Bool.{and_from, and_parts, or_cases, or_left, or_right}
use Rattle.host_trait.specs.declared.unit_state.State.{State}
use Rattle.host_trait.specs.declared.unit_state.State.TheVariants.{Active}
use Rattle.owed_plan.specs.Law.{IsSound, SameOwed}
use Rattle.host_trait.specs.Manager.{is_active}
use Rattle.host_trait.proofs.NameOrder.{passes_among}
use Rattle.host_trait.proofs.StateMaps.{active_from_test}
use Rattle.owed_plan.specs.Lists.{is_live, pending}
use Rattle.log_text.specs.declared.lists.Lists.{Lists}
use Rattle.log_text.specs.declared.lists.Which.{Which}
use Rattle.log_text.specs.declared.lists.Which.TheVariants as kinds
use Rattle.log_text.specs.Lists.{list_names}
use Rattle.owed_plan.specs.Owed.{Activates, Decides, IsBySelf, IsForOthers, Stops, Waits, has_live}
use Rattle.owed_plan.specs.Pull.{IsRoot, Running, Pending, Pulled}
use Rattle.unit_defs.specs.Pull.{FromRoot, FromWant}
use Rattle.owed_plan.specs.Systems.{Systems, Counts, IsDefined}
use Rattle.owed_plan.proofs.KindLemmas.{put_elim}
use Rattle.owed_plan.proofs.NameLemmas.{any_more}
use Rattle.owed_plan.proofs.PartLemmas.{IsPartly}
use Rattle.switch_names.specs.declared.unit_kind.UnitKind.{UnitKind}
use Rattle.switch_names.specs.declared.unit_kind.UnitKind.TheVariants.{Service, Socket, Target}
use Rattle.unit_decide.specs.declared.decision.Decision.{Decision}
use Rattle.unit_decide.specs.declared.decision.Decision.TheVariants.{Nothing, Reload, Restart, SocketStart, Start, Stop, StopStart}
use Rattle.unit_decide.specs.declared.facts.Facts.{Facts}
use Rattle.unit_decide.specs.Decision.{decide}
use Rattle.switch_names.specs.Names.{Name, has}
use Rattle.unit_decide.proofs.TableLemmas.{reload_defined, reload_same, restart_defined, restart_same, socket_nothing, socket_start_either, socket_start_more, socket_start_service, start_defined, start_same, stop_same, stop_start_defined, stop_start_either, stop_start_less, target_not_stopped, target_started, target_stop_started}

no_service : (kind : UnitKind) → kind ≡ Target → kind ≡ Service → ⊥
no_service kind target service = cc

no_socket : (kind : UnitKind) → kind ≡ Target → kind ≡ Socket → ⊥
no_socket kind target socket = cc

-- what a state and the lists give of live sockets and stops
module _ (systems : Systems) (states : Name → State) (lists : Lists) where
  live_from_active : (socket : Name) → states socket ≡ Active → is_live states lists socket ≡ true
  live_from_active socket active = or_left (is_active (states socket)) (has (pending lists) socket) (ap is_active active)

  live_from_pending : (socket : Name) → has (pending lists) socket ≡ true → is_live states lists socket ≡ true
  live_from_pending socket listed = or_right (is_active (states socket)) (has (pending lists) socket) listed

  live_either : (socket : Name) → is_live states lists socket ≡ true → (states socket ≡ Active) ⊎ (has (pending lists) socket ≡ true)
  live_either socket live =
      elim (or_cases (is_active (states socket)) (has (pending lists) socket) live) [
        | inl active ↦ inl (active_from_test (states socket) active)
        | inr listed ↦ inr listed
      ]

  has_live_from : (service socket : Name) → Counts systems service socket → is_live states lists socket ≡ true → has_live systems states lists service ≡ true
  has_live_from service socket counts live =
      passes_among (λ other. (systems.facts other).in_new && is_live states lists other) (systems.sockets service) socket counts.0
      (and_from (systems.facts socket).in_new (is_live states lists socket) counts.1 live)

  pub stops_active : (unit : Name) → Stops systems states lists unit → states unit ≡ Active
  stops_active unit (Stops.ByStop decides) = decides.active
  stops_active unit (Stops.ByStopStart decides) = decides.active
  stops_active unit (Stops.BySocketStart decides) = decides.active
  stops_active unit (Stops.ByService service activates active) = active

  -- what is stopped has one of the three decisions, or is a socket
  not_stopped : (unit : Name) (decision : Decision) → (decision ≡ Stop → ⊥) → (decision ≡ StopStart → ⊥) → (decision ≡ SocketStart → ⊥) → (decision ≡ Nothing → ⊥) → IsSound systems → Decides systems states lists unit decision → Stops systems states lists unit → ⊥
  not_stopped unit decision stop stop_start socket_start nothing sound decides (Stops.ByStop other) = stop (sym decides.row ∙ other.row)
  not_stopped unit decision stop stop_start socket_start nothing sound decides (Stops.ByStopStart other) = stop_start (sym decides.row ∙ other.row)
  not_stopped unit decision stop stop_start socket_start nothing sound decides (Stops.BySocketStart other) = socket_start (sym decides.row ∙ other.row)
  not_stopped unit decision stop stop_start socket_start nothing sound decides (Stops.ByService service activates active) =
      nothing (sym decides.row ∙ socket_nothing (systems.facts unit) (has_live systems states lists unit) activates.1.1 (sound.sockets service unit activates.1.0))

  reload_not_stopped : (unit : Name) → IsSound systems → Decides systems states lists unit Reload → Stops systems states lists unit → ⊥
  reload_not_stopped unit sound decides stops = not_stopped unit Reload (λ e. cc e) (λ e. cc e) (λ e. cc e) (λ e. cc e) sound decides stops

  restart_not_stopped : (unit : Name) → IsSound systems → Decides systems states lists unit Restart → Stops systems states lists unit → ⊥
  restart_not_stopped unit sound decides stops = not_stopped unit Restart (λ e. cc e) (λ e. cc e) (λ e. cc e) (λ e. cc e) sound decides stops

  root_defined : (unit : Name) → IsRoot systems states lists unit → IsDefined systems unit
  root_defined unit (Running defined target active may) = defined
  root_defined unit (Pending defined target listed) = defined

  pulled_defined : IsSound systems → (unit : Name) → Pulled systems states lists unit → IsDefined systems unit
  pulled_defined sound unit (FromRoot _ root) = root_defined unit root
  pulled_defined sound unit (FromWant _ by reached wanted) = sound.wanted by unit wanted

  -- what is on a list is defined
  pub owed_defined : IsSound systems → (which : Which) (unit : Name) → Waits systems states lists which unit → IsDefined systems unit
  owed_defined sound which unit (Waits.BySelf (IsBySelf.ByDecision decision puts decides)) =
      let facts = systems.facts unit in
      let live = has_live systems states lists unit in
      put_elim (λ one made. decide facts live ≡ made → IsDefined systems unit) (start_defined facts live) (stop_start_defined facts live) (restart_defined facts live) (reload_defined facts live) which decision puts decides.row
  owed_defined sound which unit (Waits.BySelf (IsBySelf.ByList listed defined)) = defined
  owed_defined sound which unit (Waits.ForOthers starts (IsForOthers.ByService service activates)) = activates.1.1
  owed_defined sound which unit (Waits.ForOthers starts (IsForOthers.ByPull pulled stops own socketed)) = pulled_defined sound unit pulled

  -- what is listed and defined is owed
  pub owed_listed : (which : Which) (unit : Name) → IsTrue (has (list_names lists which) unit) → IsDefined systems unit → Waits systems states lists which unit
  owed_listed which unit listed defined = Waits.BySelf (IsBySelf.ByList listed defined)

  -- what is stopped to be started waits for a start
  pub owed_again : (unit : Name) → Decides systems states lists unit StopStart → Waits systems states lists kinds.Starts unit
  owed_again unit decides = Waits.BySelf (IsBySelf.ByDecision StopStart refl decides)

  -- a target that is started is pulled
  pub start_pulled : IsSound systems → (unit : Name) → (systems.facts unit).kind ≡ Target → Waits systems states lists kinds.Starts unit → Pulled systems states lists unit
  start_pulled sound unit target (Waits.BySelf (IsBySelf.ByDecision Start puts decides)) =
      let row = decides.row in
      let live = has_live systems states lists unit in
      FromRoot unit (Running (start_defined (systems.facts unit) live row) target decides.active (target_started (systems.facts unit) live row))
  start_pulled sound unit target (Waits.BySelf (IsBySelf.ByDecision StopStart puts decides)) =
      let row = decides.row in
      let live = has_live systems states lists unit in
      FromRoot unit (Running (stop_start_defined (systems.facts unit) live row) target decides.active (target_stop_started (systems.facts unit) live target row))
  start_pulled sound unit target (Waits.BySelf (IsBySelf.ByDecision decision puts decides)) = absurd cc
  start_pulled sound unit target (Waits.BySelf (IsBySelf.ByList listed defined)) = FromRoot unit (Pending defined target listed)
  start_pulled sound unit target (Waits.ForOthers starts (IsForOthers.ByService service activates)) = absurd (no_socket (systems.facts unit).kind target (sound.sockets service unit activates.1.0))
  start_pulled sound unit target (Waits.ForOthers starts (IsForOthers.ByPull pulled stops own socketed)) = pulled

  -- a defined socket that is stopped is started again
  stopped_socket_starts : (socket : Name) → IsDefined systems socket → (systems.facts socket).kind ≡ Socket → Stops systems states lists socket → Waits systems states lists kinds.Starts socket
  stopped_socket_starts socket defined is (Stops.ByStop decides) =
      absurd (cc (sym decides.row ∙ socket_nothing (systems.facts socket) (has_live systems states lists socket) defined is))
  stopped_socket_starts socket defined is (Stops.ByStopStart decides) = owed_again socket decides
  stopped_socket_starts socket defined is (Stops.BySocketStart decides) =
      absurd (cc (sym decides.row ∙ socket_nothing (systems.facts socket) (has_live systems states lists socket) defined is))
  stopped_socket_starts socket defined is (Stops.ByService service activates active) = Waits.ForOthers refl (IsForOthers.ByService service activates)

module _ (systems : Systems) (states : Name → State) (lists : Lists) (later : Name → State) (kept : Lists) (sound : IsSound systems) (partly : IsPartly systems states lists later kept) where
  -- what is listed afterwards and defined was owed
  pub listed_before : (which : Which) (unit : Name) → IsTrue (has (list_names kept which) unit) → IsDefined systems unit → Waits systems states lists which unit
  listed_before which unit listed defined =
      elim (partly.from which unit listed) [
        | inl was ↦ owed_listed systems states lists which unit was defined
        | inr owes ↦ owes
      ]

  -- a target that may start is on the start list where it is stopped
  root_stopped : (unit : Name) → IsDefined systems unit → (systems.facts unit).kind ≡ Target → IsTrue (systems.facts unit).may_start → Stops systems states lists unit → IsRoot systems later kept unit
  root_stopped unit defined target may (Stops.ByStop decides) =
      absurd (target_not_stopped (systems.facts unit) (has_live systems states lists unit) defined target may decides.row)
  root_stopped unit defined target may (Stops.ByStopStart decides) = Pending defined target (partly.starts unit (owed_again systems states lists unit decides))
  root_stopped unit defined target may (Stops.BySocketStart decides) =
      absurd (no_service (systems.facts unit).kind target (socket_start_service (systems.facts unit) (has_live systems states lists unit) decides.row))
  root_stopped unit defined target may (Stops.ByService service activates active) =
      absurd (no_socket (systems.facts unit).kind target (sound.sockets service unit activates.1.0))

  root_kept : (unit : Name) → IsRoot systems states lists unit → IsRoot systems later kept unit
  root_kept unit (Running defined target active may) =
      elim (partly.after unit active) [
        | inl still ↦ Running defined target still may
        | inr stops ↦ root_stopped unit defined target may stops
      ]
  root_kept unit (Pending defined target listed) = Pending defined target (partly.starts unit (owed_listed systems states lists kinds.Starts unit listed defined))

  pull_to : (unit : Name) → Pulled systems states lists unit → Pulled systems later kept unit
  pull_to unit (FromRoot _ root) = FromRoot unit (root_kept unit root)
  pull_to unit (FromWant _ by reached wanted) = FromWant unit by (pull_to by reached) wanted

  root_pulled : (unit : Name) → IsRoot systems later kept unit → Pulled systems states lists unit
  root_pulled unit (Running defined target active may) = FromRoot unit (Running defined target (partly.before unit active) may)
  root_pulled unit (Pending defined target listed) = start_pulled systems states lists sound unit target (listed_before kinds.Starts unit listed defined)

  pub pull_from : (unit : Name) → Pulled systems later kept unit → Pulled systems states lists unit
  pull_from unit (FromRoot _ root) = root_pulled unit root
  pull_from unit (FromWant _ by reached wanted) = FromWant unit by (pull_from by reached) wanted

  -- a live socket stays live
  live_kept : (socket : Name) → IsDefined systems socket → (systems.facts socket).kind ≡ Socket → is_live states lists socket ≡ true → is_live later kept socket ≡ true
  live_kept socket defined is live =
      elim (live_either systems states lists socket live) [
        | inl active ↦ elim (partly.after socket active) [
          | inl still ↦ live_from_active systems later kept socket still
          | inr stops ↦ live_from_pending systems later kept socket (partly.starts socket (stopped_socket_starts systems states lists socket defined is stops))
        ]
        | inr listed ↦ live_from_pending systems later kept socket (partly.starts socket (owed_listed systems states lists kinds.Starts socket listed defined))
      ]

  has_live_kept : (unit : Name) → has_live systems states lists unit ≡ true → has_live systems later kept unit ≡ true
  has_live_kept unit live =
      any_more (λ socket. (systems.facts socket).in_new && is_live states lists socket) (λ socket. (systems.facts socket).in_new && is_live later kept socket) (systems.sockets unit)
      (λ socket among both.
      let parts = and_parts (systems.facts socket).in_new (is_live states lists socket) both in
      and_from (systems.facts socket).in_new (is_live later kept socket) parts.0 (live_kept socket parts.0 (sound.sockets unit socket among) parts.1))
      live

  -- a decision that sockets don't change is the same before and after
  decides_from : (decision : Decision) → ((f : Facts) (live other : Bool) → decide f live ≡ decision → decide f other ≡ decision) → (unit : Name) → Decides systems later kept unit decision → Decides systems states lists unit decision
  decides_from decision same unit decides = record {
    active = partly.before unit decides.active;
    row = same (systems.facts unit) (has_live systems later kept unit) (has_live systems states lists unit) decides.row;
  }

  decides_to : (decision : Decision) → ((f : Facts) (live other : Bool) → decide f live ≡ decision → decide f other ≡ decision) → (unit : Name) → later unit ≡ Active → Decides systems states lists unit decision → Decides systems later kept unit decision
  decides_to decision same unit active decides = record {
    active = active;
    row = same (systems.facts unit) (has_live systems states lists unit) (has_live systems later kept unit) decides.row;
  }

  stop_start_from : (unit : Name) → Decides systems later kept unit StopStart → Decides systems states lists unit StopStart
  stop_start_from unit decides = record {
    active = partly.before unit decides.active;
    row = stop_start_less (systems.facts unit) (has_live systems states lists unit) (has_live systems later kept unit) (has_live_kept unit) decides.row;
  }

  socket_start_to : (unit : Name) → later unit ≡ Active → Decides systems states lists unit SocketStart → Decides systems later kept unit SocketStart
  socket_start_to unit active decides = record {
    active = active;
    row = socket_start_more (systems.facts unit) (has_live systems states lists unit) (has_live systems later kept unit) (has_live_kept unit) decides.row;
  }

  -- a service that is left to a socket which was active was left to it before
  activates_from : (service socket : Name) → Activates systems later kept service socket → states socket ≡ Active → Activates systems states lists service socket
  activates_from service socket activates active =
      let live = live_from_active systems states lists socket active in
      let row = socket_start_more (systems.facts service) (has_live systems later kept service) (has_live systems states lists service) (λ more. has_live_from systems states lists service socket activates.1 live) activates.0.row in
      (record { active = partly.before service activates.0.active; row = row }, activates.1, live)

  stops_from : (unit : Name) → Stops systems later kept unit → Stops systems states lists unit
  stops_from unit (Stops.ByStop decides) = Stops.ByStop (decides_from Stop stop_same unit decides)
  stops_from unit (Stops.ByStopStart decides) = Stops.ByStopStart (stop_start_from unit decides)
  stops_from unit (Stops.BySocketStart decides) =
      elim (socket_start_either (systems.facts unit) (has_live systems later kept unit) (has_live systems states lists unit) decides.row) [
        | inl row ↦ Stops.ByStopStart (record { active = partly.before unit decides.active; row = row })
        | inr row ↦ Stops.BySocketStart (record { active = partly.before unit decides.active; row = row })
      ]
  stops_from unit (Stops.ByService service activates active) =
      Stops.ByService service (activates_from service unit activates (partly.before unit active)) (partly.before unit active)

  stops_to : (unit : Name) → Stops systems states lists unit → later unit ≡ Active → Stops systems later kept unit
  stops_to unit (Stops.ByStop decides) active = Stops.ByStop (decides_to Stop stop_same unit active decides)
  stops_to unit (Stops.ByStopStart decides) active =
      elim (stop_start_either (systems.facts unit) (has_live systems states lists unit) (has_live systems later kept unit) decides.row) [
        | inl row ↦ Stops.ByStopStart (record { active = active; row = row })
        | inr row ↦ Stops.BySocketStart (record { active = active; row = row })
      ]
  stops_to unit (Stops.BySocketStart decides) active = Stops.BySocketStart (socket_start_to unit active decides)
  stops_to unit (Stops.ByService service activates was) active =
      let is = socket_start_service (systems.facts service) (has_live systems states lists service) activates.0.row in
      let socket = sound.sockets service unit activates.1.0 in
      let still = partly.order service unit is socket (Stops.ByService service activates was) active activates.0.active in
      Stops.ByService service (socket_start_to service still activates.0, activates.1, live_from_active systems later kept unit active) active

  -- what isn't stopped is still active
  still_active : (unit : Name) → (Stops systems states lists unit → ⊥) → states unit ≡ Active → later unit ≡ Active
  still_active unit stays active =
      elim (partly.after unit active) [
        | inl still ↦ still
        | inr stops ↦ absurd (stays stops)
      ]

  -- what waits for a start is listed
  on_starts : (which : Which) (unit : Name) → which ≡ kinds.Starts → Waits systems states lists kinds.Starts unit → IsBySelf systems later kept which unit
  on_starts which unit starts waits =
      subst (λ one. IsBySelf systems later kept one unit) (sym starts) (IsBySelf.ByList (partly.starts unit waits) (owed_defined systems states lists sound kinds.Starts unit waits))

  by_self_to : (which : Which) (unit : Name) → Waits systems states lists which unit → IsBySelf systems later kept which unit
  by_self_to which unit (Waits.BySelf (IsBySelf.ByDecision decision puts decides)) =
      put_elim (λ one made. Decides systems states lists unit made → IsBySelf systems later kept one unit) (λ decided. on_starts kinds.Starts unit refl (Waits.BySelf (IsBySelf.ByDecision Start refl decided)))
      (λ decided. on_starts kinds.Starts unit refl (owed_again systems states lists unit decided))
      (λ decided. IsBySelf.ByDecision Restart refl (decides_to Restart restart_same unit (still_active unit (restart_not_stopped systems states lists unit sound decided) decided.active) decided))
      (λ decided. IsBySelf.ByDecision Reload refl (decides_to Reload reload_same unit (still_active unit (reload_not_stopped systems states lists unit sound decided) decided.active) decided)) which decision puts decides
  by_self_to which unit (Waits.BySelf (IsBySelf.ByList listed defined)) = IsBySelf.ByList (partly.to which unit listed defined) defined
  by_self_to which unit (Waits.ForOthers starts by) = on_starts which unit starts (Waits.ForOthers refl by)

  owed_to : (which : Which) (unit : Name) → Waits systems states lists which unit → Waits systems later kept which unit
  owed_to which unit waits = Waits.BySelf (by_self_to which unit waits)

  owed_from : (which : Which) (unit : Name) → Waits systems later kept which unit → Waits systems states lists which unit
  owed_from which unit (Waits.BySelf (IsBySelf.ByDecision decision puts decides)) =
      put_elim (λ one made. Decides systems later kept unit made → Waits systems states lists one unit) (λ decided. Waits.BySelf (IsBySelf.ByDecision Start refl (decides_from Start start_same unit decided)))
      (λ decided. owed_again systems states lists unit (stop_start_from unit decided)) (λ decided. Waits.BySelf (IsBySelf.ByDecision Restart refl (decides_from Restart restart_same unit decided)))
      (λ decided. Waits.BySelf (IsBySelf.ByDecision Reload refl (decides_from Reload reload_same unit decided))) which decision puts decides
  owed_from which unit (Waits.BySelf (IsBySelf.ByList listed defined)) = listed_before which unit listed defined
  owed_from which unit (Waits.ForOthers starts (IsForOthers.ByService service activates)) =
      elim (live_either systems later kept unit activates.2) [
        | inl active ↦ Waits.ForOthers starts (IsForOthers.ByService service (activates_from service unit activates (partly.before unit active)))
        | inr listed ↦ subst (λ one. Waits systems states lists one unit) (sym starts) (listed_before kinds.Starts unit listed activates.1.1)
      ]
  owed_from which unit (Waits.ForOthers starts (IsForOthers.ByPull pulled stops own socketed)) =
      Waits.ForOthers starts
      (IsForOthers.ByPull (pull_from unit pulled)
      (λ active. elim (partly.after unit active) [
        | inl still ↦ stops_from unit (stops still)
        | inr stopped ↦ stopped
      ])
      (λ one by. own one (by_self_to one unit (Waits.BySelf by))) socketed)

  -- the same is owed, but for what is stopped already
  pub same_owed : SameOwed systems states later lists kept
  same_owed = record {
    pull = λ unit. (pull_from unit, pull_to unit);
    stops = λ unit. (λ stops. (stops_from unit stops, stops_active systems later kept unit stops), λ both. stops_to unit both.0 both.1);
    others = λ which unit. (owed_from which unit, owed_to which unit);
  }
