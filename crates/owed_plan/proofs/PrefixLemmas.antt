-- A beginning of the stops in their order, with the lists recorded, is such a part.
use Rattle.std.proofs.Common.{◌≡◌, ◌⊎◌, ℕ, Bool, true, false, not, List, filter, take, if◌then◌else◌, inl, inr, refl, sym, ap, subst, ◌∙◌}
use Rattle.std.proofs.lemmas.Bool.{and_from, and_parts}
use Rattle.host_trait.specs.declared.unit_state.State.{State}
use Rattle.host_trait.specs.declared.unit_state.State.TheVariants.{Active, Inactive}
use Rattle.host_trait.proofs.NameOrder.{has_filter}
use Rattle.owed_plan.specs.Law.{AreStopped, IsRecorded, Law}
use Rattle.log_text.specs.declared.lists.Lists.{Lists}
use Rattle.log_text.specs.declared.lists.Which.TheVariants.{Starts}
use Rattle.log_text.specs.Lists.{list_names}
use Rattle.owed_plan.specs.declared.owed.Owed.{Owed}
use Rattle.owed_plan.specs.Lists.{OnList, ToStop}
use Rattle.owed_plan.specs.Owed.{IsOwed, Stops, Waits, stop_order}
use Rattle.owed_plan.specs.Systems.{Systems}
use Rattle.owed_plan.proofs.CoreLemmas.{owed_listed, same_owed}
use Rattle.owed_plan.proofs.NameLemmas.{has-sockets_first, has-take, take_two}
use Rattle.owed_plan.proofs.PartLemmas.{IsPartly}
use Rattle.switch_names.specs.declared.unit_kind.UnitKind.{UnitKind}
use Rattle.switch_names.specs.declared.unit_kind.UnitKind.TheVariants.{Service, Socket}
use Rattle.unit_decide.specs.Kinds.{is_kind}
use Rattle.switch_names.specs.Names.{Name, has}

-- what is active afterwards wasn't stopped
pub was_active : (found : Bool) (before after : State) → after ≡ (if found then Inactive else before) → after ≡ Active → (found ≡ true → ⊥) × (before ≡ Active)
was_active true before after is active = absurd (cc (sym is ∙ active))
was_active false before after is active = ((λ e. absurd (cc e)), sym is ∙ active)

-- what was active is so afterwards, or is stopped
active_or_stopped : (found : Bool) (before after : State) → after ≡ (if found then Inactive else before) → before ≡ Active → (after ≡ Active) ⊎ (found ≡ true)
active_or_stopped true before after is active = inr refl
active_or_stopped false before after is active = inl (is ∙ active)

service_no_socket : (kind : UnitKind) → kind ≡ Service → is_kind kind Socket ≡ true → ⊥
service_no_socket kind service socket = cc (sym socket ∙ ap (λ k. is_kind k Socket) service)

-- where a service is among the first stops, all sockets of the stops are
sockets_first : (systems : Systems) (stops : List Name) (count : ℕ) (service socket : Name) → (systems.facts service).kind ≡ Service → (systems.facts socket).kind ≡ Socket → has stops socket ≡ true → has (take count (stop_order systems stops)) service ≡ true → has (take count (stop_order systems stops)) socket ≡ true
sockets_first systems stops count service socket is_service is_socket listed taken =
    take_two (filter (λ u. is_kind (systems.facts u).kind Socket) stops) (filter (λ u. not (is_kind (systems.facts u).kind Socket)) stops) count service socket
    (λ first.
    service_no_socket (systems.facts service).kind is_service
    (and_parts (is_kind (systems.facts service).kind Socket) (has stops service) (sym (has_filter (λ u. is_kind (systems.facts u).kind Socket) stops service) ∙ first)).0)
    taken
    (has_filter (λ u. is_kind (systems.facts u).kind Socket) stops socket
    ∙ and_from (is_kind (systems.facts socket).kind Socket) (has stops socket) (ap (λ k. is_kind k Socket) is_socket) listed)

-- a recorded list has the old names or the owed ones
listed_from : (P : Name → Type 0) (old owed new : List Name) → ((unit : Name) → has owed unit ≡ true → P unit) → (new ≡ old) ⊎ (new ≡ owed) → (unit : Name) → has new unit ≡ true → (has old unit ≡ true) ⊎ P unit
listed_from P old owed new exact (inl same) unit listed = inl (subst (λ names. has names unit ≡ true) same listed)
listed_from P old owed new exact (inr same) unit listed = inr (exact unit (subst (λ names. has names unit ≡ true) same listed))

listed_to : (old owed new : List Name) (unit : Name) → (has old unit ≡ true → has owed unit ≡ true) → (new ≡ old) ⊎ (new ≡ owed) → has old unit ≡ true → has new unit ≡ true
listed_to old owed new unit kept (inl same) listed = subst (λ names. has names unit ≡ true) (sym same) listed
listed_to old owed new unit kept (inr same) listed = subst (λ names. has names unit ≡ true) (sym same) (kept listed)

module _ (systems : Systems) (states later : Name → State) (lists kept : Lists) (owed : Owed) (count : ℕ) (is_owed : IsOwed systems states lists owed) (are_stopped : AreStopped systems owed count states later) (is_recorded : IsRecorded owed lists kept) where
  abbrev taken : List Name
  taken = take count (stop_order systems owed.stops)

  taken_stops : (unit : Name) → has taken unit ≡ true → Stops systems states lists unit
  taken_stops unit found =
      ((is_owed ToStop).exact unit).0 (sym (has-sockets_first (λ u. (systems.facts u).kind) owed.stops unit) ∙ has-take count (stop_order systems owed.stops) unit found)

  before : (unit : Name) → later unit ≡ Active → states unit ≡ Active
  before unit active = (was_active (has taken unit) (states unit) (later unit) (are_stopped unit) active).1

  after : (unit : Name) → states unit ≡ Active → (later unit ≡ Active) ⊎ Stops systems states lists unit
  after unit active =
      elim (active_or_stopped (has taken unit) (states unit) (later unit) (are_stopped unit) active) [
        | inl still ↦ inl still
        | inr found ↦ inr (taken_stops unit found)
      ]

  order : (service socket : Name) → (systems.facts service).kind ≡ Service → (systems.facts socket).kind ≡ Socket → Stops systems states lists socket → later socket ≡ Active → states service ≡ Active → later service ≡ Active
  order service socket is_service is_socket stops active was =
      elim (active_or_stopped (has taken service) (states service) (later service) (are_stopped service) was) [
        | inl still ↦ still
        | inr found ↦
            absurd
            ((was_active (has taken socket) (states socket) (later socket) (are_stopped socket) active).0
            (sockets_first systems owed.stops count service socket is_service is_socket (((is_owed ToStop).exact socket).1 stops) found))
      ]

  pub is_partly : IsPartly systems states lists later kept
  is_partly = record {
    before = before;
    after = after;
    order = order;
    starts = λ unit starts. subst (λ names. has names unit ≡ true) (sym is_recorded.starts) (((is_owed (OnList Starts)).exact unit).1 starts);
    from = λ which.
        listed_from (Waits systems states lists which) (list_names lists which) (list_names owed.lists which) (list_names kept which) (λ unit. ((is_owed (OnList which)).exact unit).0) (is_recorded.others which);
    to = λ which unit listed defined.
        listed_to (list_names lists which) (list_names owed.lists which) (list_names kept which) unit (λ was. ((is_owed (OnList which)).exact unit).1 (owed_listed systems states lists which unit was defined)) (is_recorded.others which) listed;
  }

pub law : Law
law systems states later lists kept owed count sound is_owed are_stopped is_recorded =
    same_owed systems states lists later kept sound (is_partly systems states later lists kept owed count is_owed are_stopped is_recorded)
