-- What is decided on each active unit, told by tests: NixOS manual, "Unit handling".
use Rattle.std.specs.Prelude.{◌&&◌, ◌||◌, Bool, true, false, List, [], filter, map, not, if◌then◌else◌}
use Rattle.std.specs.List.{list_any}
use Rattle.host_trait.specs.States.{UnitStates, listed_states, state_of}
use Rattle.host_trait.specs.declared.unit_state.State.{State}
use Rattle.host_trait.specs.Manager.{is_active}
use Rattle.log_text.specs.declared.lists.Which.{Which}
use Rattle.owed_plan.specs.Lists.{is_put}
use Rattle.owed_plan.specs.Systems.{Systems, systems_in}
use Rattle.owed_plan.specs.declared.known.Inputs.{Inputs}
use Rattle.owed_plan.specs.declared.deciding.UnitDecision.{UnitDecision}
use Rattle.switch_names.specs.Names.{Name, has, is_name}
use Rattle.switch_names.specs.declared.unit_kind.UnitKind.TheVariants.{Target}
use Rattle.unit_decide.specs.Decision.{decide}
use Rattle.unit_decide.specs.Kinds.{is_kind, is_same}
use Rattle.unit_decide.specs.declared.decision.Decision.{Decision}
use Rattle.unit_decide.specs.declared.decision.Decision.TheVariants.{Nothing, SocketStart, Stop, StopStart}
use Rattle.unit_decide.specs.declared.facts.Facts.{Facts}

-- the systems, the states of the units, and whether a unit waits for a start
pub record Situation : Type 0 where
  pub systems : Systems
  pub states : Name → State
  pub waits : Name → Bool

-- the situation as far as it is known
abbrev pub situation_of : Inputs → Situation
situation_of known = record {
  systems = systems_in known.old.now known.new.now;
  states = state_of known.states.now;
  waits = has known.waiting.now;
}

-- the decision is to stop the unit, whether or not it is started then
abbrev pub is_stopped : Decision → Bool
is_stopped Stop = true
is_stopped StopStart = true
is_stopped SocketStart = true
is_stopped decision = false

-- the decision is to stop the unit and to start its live sockets
abbrev pub is_socket_started : Decision → Bool
is_socket_started SocketStart = true
is_socket_started decision = false

-- the decision is to leave the unit as it is
abbrev pub is_nothing : Decision → Bool
is_nothing Nothing = true
is_nothing decision = false

-- a socket that the new system defines is active or waits for a start
abbrev pub is_live_socket : Situation → Name → Bool
is_live_socket situation socket = (situation.systems.facts socket).in_new && (is_active (situation.states socket) || situation.waits socket)

-- the live sockets of a unit that a live socket leaves to its sockets
abbrev pub live_sockets : Situation → Name → List Name
live_sockets situation unit =
    if is_socket_started (decide (situation.systems.facts unit) true) then filter (is_live_socket situation) (situation.systems.sockets unit) else []

-- the unit has a live socket
abbrev pub has_live_socket : Situation → Name → Bool
has_live_socket situation unit = list_any (is_live_socket situation) (situation.systems.sockets unit)

-- a changed unit that both systems define, that is no target, and that gets nothing
abbrev pub is_left : Facts → Decision → Bool
is_left facts decision = is_nothing decision && not (is_kind facts.kind Target) && facts.in_old && facts.in_new && not (is_same facts.outcome)

-- what is decided on an active unit
abbrev pub decision_of : Situation → Name → UnitDecision
decision_of situation unit = record {
  unit = unit;
  decision = decide (situation.systems.facts unit) (has_live_socket situation unit);
  live = live_sockets situation unit;
  is_left = is_left (situation.systems.facts unit) (decide (situation.systems.facts unit) (has_live_socket situation unit));
}

-- what is decided on each active unit
abbrev pub decisions_of : Situation → UnitStates → List UnitDecision
decisions_of situation states = map (λ one. decision_of situation one.unit) (filter (λ one. is_active one.state) (listed_states states))

-- what is decided stops the unit: the unit that it is decided on, or an active one of its live sockets
abbrev pub stops : Situation → Name → UnitDecision → Bool
stops situation unit decided = is_stopped decided.decision && is_name unit decided.unit || has (filter (λ socket. is_active (situation.states socket)) decided.live) unit

-- what is decided puts the unit on a list: it is the one that it is decided on
abbrev pub puts : Which → Name → UnitDecision → Bool
puts which unit decided = is_put which decided.decision && is_name unit decided.unit

-- what is decided starts the unit for another: it is one of the live sockets of that
abbrev pub wakes : Name → UnitDecision → Bool
wakes unit decided = has decided.live unit

-- what is decided leaves the unit, which has changed, as it is
abbrev pub leaves : Name → UnitDecision → Bool
leaves unit decided = decided.is_left && is_name unit decided.unit
