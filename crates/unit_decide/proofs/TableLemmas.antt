-- What the table of decisions says of a unit, whatever else is known of it.
use Rattle.std.proofs.Common.{◌≡◌, ◌⊎◌, ◌&&◌, inl, inr, Bool, true, false, refl, sym, ◌∙◌, arith}
use Rattle.std.proofs.lemmas.Bool.{true_from_ne_false}
use Rattle.switch_names.specs.declared.unit_kind.UnitKind.{UnitKind}
use Rattle.switch_names.specs.declared.unit_kind.UnitKind.TheVariants.{Service, Socket, Target}
use Rattle.unit_decide.specs.declared.decision.Decision.{Decision}
use Rattle.unit_decide.specs.declared.decision.Decision.TheVariants.{Nothing, Stop, Start, StopStart, SocketStart, Restart, Reload}
use Rattle.unit_decide.specs.declared.facts.Facts.{Facts}
use Rattle.unit_decide.specs.Decision.{decide}
use Rattle.unit_decide.specs.Kinds.{is_kind, is_same}

-- a socket that the new system defines is left as it is
pub socket_nothing : (f : Facts) (live : Bool) → f.in_new ≡ true → f.kind ≡ Socket → decide f live ≡ Nothing
unfolding decide
socket_nothing f live new socket = grind arith

-- what is started, stopped and started, reloaded or restarted is defined by the new system
pub start_defined : (f : Facts) (live : Bool) → decide f live ≡ Start → f.in_new ≡ true
unfolding decide
start_defined f live is = grind arith

pub stop_start_defined : (f : Facts) (live : Bool) → decide f live ≡ StopStart → f.in_new ≡ true
unfolding decide
stop_start_defined f live is = grind arith

pub reload_defined : (f : Facts) (live : Bool) → decide f live ≡ Reload → f.in_new ≡ true
unfolding decide
reload_defined f live is = grind arith

pub restart_defined : (f : Facts) (live : Bool) → decide f live ≡ Restart → f.in_new ≡ true
unfolding decide
restart_defined f live is = grind arith

-- whether a socket is live changes none of these decisions
pub nothing_same : (f : Facts) (live later : Bool) → decide f live ≡ Nothing → decide f later ≡ Nothing
unfolding decide
nothing_same f live later is = grind arith

pub stop_same : (f : Facts) (live later : Bool) → decide f live ≡ Stop → decide f later ≡ Stop
unfolding decide
stop_same f live later is = grind arith

pub start_same : (f : Facts) (live later : Bool) → decide f live ≡ Start → decide f later ≡ Start
unfolding decide
start_same f live later is = grind arith

pub reload_same : (f : Facts) (live later : Bool) → decide f live ≡ Reload → decide f later ≡ Reload
unfolding decide
reload_same f live later is = grind arith

pub restart_same : (f : Facts) (live later : Bool) → decide f live ≡ Restart → decide f later ≡ Restart
unfolding decide
restart_same f live later is = grind arith

-- with fewer live sockets there are fewer socket starts, and with more of them there are more
pub stop_start_less : (f : Facts) (live later : Bool) → (live ≡ true → later ≡ true) → decide f later ≡ StopStart → decide f live ≡ StopStart
unfolding decide
stop_start_less f live later more is = grind arith

pub socket_start_more : (f : Facts) (live later : Bool) → (live ≡ true → later ≡ true) → decide f live ≡ SocketStart → decide f later ≡ SocketStart
unfolding decide
socket_start_more f live later more is = grind arith

-- a target that may start is not stopped for good
pub target_not_stopped : (f : Facts) (live : Bool) → f.in_new ≡ true → f.kind ≡ Target → f.may_start ≡ true → decide f live ≡ Stop → ⊥
unfolding decide
target_not_stopped f live new target may is = grind arith

-- what is started may start
pub target_started : (f : Facts) (live : Bool) → decide f live ≡ Start → f.may_start ≡ true
unfolding decide
target_started f live is = grind arith

pub target_stop_started : (f : Facts) (live : Bool) → f.kind ≡ Target → decide f live ≡ StopStart → f.may_start ≡ true
unfolding decide
target_stop_started f live target is = grind arith

-- the row of a defined target is the same, whatever else the old system and the sockets are
pub target_same : (f g : Facts) (live other : Bool) → is_kind f.kind Target ≡ true → f.kind ≡ g.kind → f.in_new ≡ true → f.in_new ≡ g.in_new →
    f.stop_on_reconfiguration ≡ g.stop_on_reconfiguration → f.may_start ≡ g.may_start → decide f live ≡ decide g other
unfolding decide
target_same f g live other target kind defined in_new marked may = grind arith

-- a defined target that is stopped is one that is stopped at each switch and may not start
pub target_marked : (f : Facts) (live : Bool) → f.in_new ≡ true → decide f live ≡ Stop → f.stop_on_reconfiguration ≡ true
unfolding decide
target_marked f live defined is = grind arith

pub target_barred : (f : Facts) (live : Bool) → f.in_new ≡ true → decide f live ≡ Stop → f.may_start ≡ false
unfolding decide
target_barred f live defined is = grind arith

-- no target is reloaded or restarted
pub target_not_reloaded : (f : Facts) (live : Bool) → f.kind ≡ Target → decide f live ≡ Reload → ⊥
unfolding decide
target_not_reloaded f live target is = grind arith

pub target_not_restarted : (f : Facts) (live : Bool) → f.kind ≡ Target → decide f live ≡ Restart → ⊥
unfolding decide
target_not_restarted f live target is = grind arith

is_target_started : (f : Facts) (live later : Bool) → is_kind f.kind Target ≡ true → decide f live ≡ StopStart → decide f later ≡ StopStart
unfolding decide
is_target_started f live later target is = grind arith

is_service_started : (f : Facts) (live : Bool) → is_kind f.kind Target ≡ false → decide f live ≡ StopStart → decide f true ≡ SocketStart
unfolding decide
is_service_started f live other is = grind arith

-- a unit that is stopped and started is that with other sockets too, or it is left to them
pub stop_start_either : (f : Facts) (live later : Bool) → decide f live ≡ StopStart → (decide f later ≡ StopStart) ⊎ (decide f later ≡ SocketStart)
stop_start_either f live true is =
    elim (is_kind f.kind Target) as (λ target. is_kind f.kind Target ≡ target → (decide f true ≡ StopStart) ⊎ (decide f true ≡ SocketStart)) [
      | true ↦ λ target. inl (is_target_started f live true target is)
      | false ↦ λ other. inr (is_service_started f live other is)
    ] refl
stop_start_either f live false is = inl (stop_start_less f false live (λ e. absurd cc) is)

without_sockets : (f : Facts) (live : Bool) → decide f live ≡ SocketStart → decide f false ≡ StopStart
unfolding decide
without_sockets f live is = grind arith

pub socket_start_either : (f : Facts) (live later : Bool) → decide f live ≡ SocketStart → (decide f later ≡ StopStart) ⊎ (decide f later ≡ SocketStart)
socket_start_either f live true is = inr (socket_start_more f live true (λ e. refl) is)
socket_start_either f live false is = inl (without_sockets f live is)

not_service : (f : Facts) (live : Bool) → is_kind f.kind Service ≡ false → decide f live ≡ SocketStart → ⊥
unfolding decide
not_service f live other is = grind arith

-- a kind is the one that the test tells
pub service_from_test : (kind : UnitKind) → is_kind kind Service ≡ true → kind ≡ Service
service_from_test Service is = refl
service_from_test _ is = absurd cc

pub target_from_test : (kind : UnitKind) → is_kind kind Target ≡ true → kind ≡ Target
target_from_test Target is = refl
target_from_test _ is = absurd cc

-- only services are left to their sockets
pub socket_start_service : (f : Facts) (live : Bool) → decide f live ≡ SocketStart → f.kind ≡ Service
socket_start_service f live is =
    service_from_test f.kind (true_from_ne_false (is_kind f.kind Service) (λ other. not_service f live other is))

-- a unit that stays the same is left as it is, unless it is a target
pub settled_nothing : (f : Facts) (live : Bool) → f.in_new ≡ true → is_same f.outcome ≡ true → is_kind f.kind Target ≡ false → decide f live ≡ Nothing
unfolding decide
settled_nothing f live new same other = grind arith

-- a unit that no system defines is left as it is
pub undefined_nothing : (f : Facts) (live : Bool) → f.in_new ≡ false → f.in_old ≡ false → decide f live ≡ Nothing
unfolding decide
undefined_nothing f live new old = grind arith

removed_stopped : (f : Facts) (live : Bool) → f.in_new ≡ false → (f.in_old && f.stop_on_removal) ≡ true → decide f live ≡ Stop
unfolding decide
removed_stopped f live new stopped = grind arith

removed_left : (f : Facts) (live : Bool) → f.in_new ≡ false → (f.in_old && f.stop_on_removal) ≡ false → decide f live ≡ Nothing
unfolding decide
removed_left f live new left = grind arith

-- a unit that the new system doesn't define is stopped or left as it is
pub removed_either : (f : Facts) (live : Bool) → f.in_new ≡ false → (decide f live ≡ Stop) ⊎ (decide f live ≡ Nothing)
removed_either f live new =
    elim (f.in_old && f.stop_on_removal) as (λ stopped. (f.in_old && f.stop_on_removal) ≡ stopped → (decide f live ≡ Stop) ⊎ (decide f live ≡ Nothing)) [
      | true ↦ λ stopped. inl (removed_stopped f live new stopped)
      | false ↦ λ left. inr (removed_left f live new left)
    ] refl

by_decision : (f : Facts) (decision : Decision) → decide f true ≡ decision → (decide f true ≡ decide f false) ⊎ ((decide f true ≡ SocketStart) × (decide f false ≡ StopStart))
by_decision f Nothing is = inl (is ∙ sym (nothing_same f true false is))
by_decision f Stop is = inl (is ∙ sym (stop_same f true false is))
by_decision f Start is = inl (is ∙ sym (start_same f true false is))
by_decision f StopStart is = inl (is ∙ sym (stop_start_less f false true (λ e. refl) is))
by_decision f SocketStart is = inr (is, without_sockets f true is)
by_decision f Restart is = inl (is ∙ sym (restart_same f true false is))
by_decision f Reload is = inl (is ∙ sym (reload_same f true false is))

-- whether a socket is live only tells what starts a service that is stopped first
pub same_or_started : (f : Facts) → (decide f true ≡ decide f false) ⊎ ((decide f true ≡ SocketStart) × (decide f false ≡ StopStart))
same_or_started f = by_decision f (decide f true) refl
