-- The steps of a switch of the units over a host, one call after another.
use Rattle.std.proofs.Common.{◌≡◌, List, Some, sym, subst, ◌∙◌}
use Rattle.activation_stage.specs.ActivationPart.{CanActivate, IsActivated, IsActivating, activation_in}
use Rattle.activation_stage.specs.declared.activation_plan.ActivationPlan.{ActivationPlan}
use Rattle.activation_stage.specs.Quiet.{ActivatesQuietly}
use Rattle.host_trait.specs.declared.unit_state.State.{State}
use Rattle.host_trait.specs.Host.{HostState, Told, Comes, Leads, Passes}
use Rattle.host_trait.specs.States.{state_of}
use Rattle.host_trait.specs.World.{WorldState, seen}
use Rattle.host_trait.proofs.Moments.{goes_on, leads_as, leads_then, one_world, passes_as, told_after, told_as}
use Rattle.owed_log.specs.declared.log_write.LogWrite.{LogWrite}
use Rattle.log_text.specs.declared.lists.Lists.{Lists}
use Rattle.log_text.specs.declared.lists.Which.{Which}
use Rattle.owed_log.specs.declared.log_write.LogWrite.TheVariants.{Nothing, Append, Put}
use Rattle.owed_log.specs.Places.{log_place}
use Rattle.owed_log.specs.Writing.{CanWrite, IsPrepared, IsWriteFor}
use Rattle.tree_put.specs.Put.{CanPut}
use Rattle.owed_log.proofs.MomentLemmas.{prepared_law}
use Rattle.owed_plan.specs.Calls.{calls_of}
use Rattle.owed_plan.specs.declared.duty.Duty.{Duty}
use Rattle.owed_plan.specs.declared.owed.Owed.{Owed}
use Rattle.switch_engine.specs.Carried.{CanSwitch}
use Rattle.switch_engine.specs.Moments.{HasStopped, HasActivated, IsSwitchMoment, IsSwitched}
use Rattle.switch_engine.specs.Quiet.{IsQuietSwitch}
use Rattle.switch_engine.proofs.PlaceLemmas.{all_clear}
use Rattle.switch_engine.proofs.SwitchLemmas.{bringing, can_activate, can_bring, switched, switched_quietly}
use Rattle.switch_names.specs.Names.{Name}
use Rattle.tree_put.specs.Written.{WritesOnly}
use Rattle.switch_parts.proofs.Parts.{first_free}
use Rattle.unit_stage.specs.Acts.{CanPerform}
use Rattle.unit_stage.specs.declared.unit_plan.UnitPlan.{UnitPlan}
use Rattle.unit_stage.specs.Order.{ArrangesStarts}
use Rattle.unit_stage.specs.Owned.{owns_units}
use Rattle.unit_stage.specs.PlanCalls.{AreCallsOf}
use Rattle.unit_stage.specs.Steps.{CanBring, IsBringMoment, IsStopMoment, with_brought, with_stops}
use Rattle.unit_stage.specs.Units.{units_part}
use Rattle.unit_stage.proofs.OrderLemmas.{arranges}
use Rattle.unit_stage.proofs.TableLemmas.{can_stops}

-- what a host comes to has what two calls say of it
pub leads_both : {a b : HostState} {P Q : WorldState → WorldState → Type 0} → Leads a b P → Leads a b Q → (R : WorldState → WorldState → Type 0) → ((w v : WorldState) → P w v → Q w v → R w v) → Leads a b R
leads_both {b = b} {P = P} first second R both = record {
  to = λ w is.
      let one = first.to w is in let two = second.to w is in
      (two.0, two.1, both w two.0 (subst (λ v. P w v) (one_world b.world one.0 two.0 one.1 two.1) one.2) two.2);
}

-- what has to be written can be, where nothing is in the way of the log
can_write : (w : WorldState) (lists : Lists) (write : LogWrite) → CanPut log_place w → IsPrepared w.leaves lists write → CanWrite write w
can_write w lists Nothing free prepared = tt
can_write w lists (Append text) free prepared = (prepared_law w.leaves lists text prepared).0
can_write w lists (Put text) free prepared = free

-- the world in which the system can come into use
record IsReady (system : Name) (owed : Owed) (w v : WorldState) : Type 0 where
  stopped : WorldState
  came : HasStopped owed w stopped
  activated : HasActivated system stopped v

-- the same world, and what was written on the way to it
record IsReadyQuietly (system : Name) (owed : Owed) (w v : WorldState) : Type 0 where
  stopped : WorldState
  came : HasStopped owed w stopped
  before : WritesOnly owns_units w stopped
  activated : HasActivated system stopped v
  quiet : ActivatesQuietly system stopped v

module _ (system : Name) (plan : UnitPlan) (activation : ActivationPlan) (write : LogWrite) (stops : List Duty) (calls : Which → List Duty) (is_write : write ≡ plan.write)
    (are : (states : Name → State) → plan.duties ≡ calls_of plan.owed plan.ordered.units states → AreCallsOf plan.owed plan.ordered.units states stops calls)
    {a : HostState} (can : Told a (CanSwitch system plan activation)) where
  abbrev owed : Owed
  owed = plan.owed

  abbrev order : List Name
  order = plan.ordered.units

  arranged_at : (w : WorldState) → a.world ≡ Some w → ArrangesStarts owed order
  arranged_at w is = arranges w.leaves system owed order (can.has w is).in_order

  calls_at : (w : WorldState) → a.world ≡ Some w → AreCallsOf owed order (state_of w.manager.states) stops calls
  calls_at w is = are (state_of w.manager.states) (can.has w is).duties

  write_at : (w : WorldState) → a.world ≡ Some w → IsWriteFor w.leaves owed.lists write
  write_at w is = subst (IsWriteFor w.leaves owed.lists) (sym is_write) (can.has w is).write

  pub write_can : Told a (CanWrite write)
  write_can = told_as can (CanWrite write) (λ w is known.
      let clear = all_clear w.leaves (first_free (units_part known.start_up system) (activation_in system w.leaves) w.leaves known.free).way in
      can_write w owed.lists write (record { stage = clear.stage; place = clear.log }) (write_at w is).prepared)

  pub stops_can : Told a (λ w. CanPerform stops w.manager)
  stops_can = told_as can (λ w. CanPerform stops w.manager) (λ w is known. subst (λ calls. CanPerform calls w.manager) (sym (calls_at w is).are_stops) (can_stops owed w.manager))

  module _ {b : HostState} (stop_way : Passes a b (IsStopMoment write stops)) where
    stop_as : (w m : WorldState) → a.world ≡ Some w → IsStopMoment write stops w m → IsSwitchMoment system owed order w m
    stop_as w m is moment = IsSwitchMoment.Stopping write (write_at w is) (subst (λ calls. IsStopMoment write calls w m) (calls_at w is).are_stops moment)

    pub first_way : Passes a b (IsSwitchMoment system owed order)
    first_way = passes_as stop_way (IsSwitchMoment system owed order) stop_as

    module _ (stopped : Comes a b (with_stops write stops)) where
      came : Leads a b (HasStopped owed)
      came = leads_as stopped (HasStopped owed) (λ w u is is_u. (write, write_at w is, is_u ∙ (λ i. seen (with_stops write ((calls_at w is).are_stops i) w))))

      pub activation_can : Told b (CanActivate system activation)
      activation_can =
          told_after stop_way came (CanActivate system activation)
          (λ w u is came. let known = can.has w is in can_activate known.start_up system known.named owed w known.is_owed order (arranged_at w is) known.free u came activation known.planned)

      module _ {c : HostState} (activate_way : Passes b c (IsActivating system)) where
        pub second_way : Passes a c (IsSwitchMoment system owed order)
        second_way = goes_on stop_way came activate_way (IsSwitchMoment system owed order) stop_as (λ w u m is is_u came moment. IsSwitchMoment.Activating u came moment)

        module _ (activated : Leads b c (IsActivated system)) where
          gets_ready : Leads a c (IsReady system owed)
          gets_ready =
              leads_then came (leads_both activate_way.tells activated (HasActivated system) (λ u v moment end. record { moment = moment; end = end })) (IsReady system owed)
              (λ w u v is is_u came activated. record { stopped = u; came = came; activated = activated })

          pub units_can : Told c (CanBring system calls)
          units_can =
              told_after second_way gets_ready (CanBring system calls)
              (λ w v is at. let known = can.has w is in
              can_bring known.start_up system known.named owed w known.is_owed order (arranged_at w is) known.free at.stopped at.came v at.activated calls (calls_at w is).are_listed)

          pub third_way : {d : HostState} → Passes c d (IsBringMoment system calls) → Passes a d (IsSwitchMoment system owed order)
          third_way bring_way =
              goes_on second_way gets_ready bring_way (IsSwitchMoment system owed order) (λ w m is moment. moment)
              (λ w v m is is_v at moment. let known = can.has w is in
              bringing known.start_up system known.named owed w known.is_owed order (arranged_at w is) known.free at.stopped at.came v at.activated calls (calls_at w is).are_listed m moment)

          pub ends : {d : HostState} → Comes c d (with_brought system calls) → Leads a d (IsSwitched system owed order)
          ends brought =
              leads_then gets_ready brought (IsSwitched system owed order)
              (λ w v d is is_v at came. let known = can.has w is in
              switched known.start_up system known.named owed w known.is_owed order (arranged_at w is) known.free at.stopped at.came v at.activated calls (calls_at w is).are_listed d came)

          -- and each quiet place is written as the activation writes it
          pub ends_quietly :
              {d : HostState} → Comes c d (with_brought system calls) → Leads a b (WritesOnly owns_units) → Leads b c (ActivatesQuietly system) → Leads c d (WritesOnly owns_units) →
              Leads a d (IsQuietSwitch system)
          ends_quietly brought before quiet after =
              leads_then
              (leads_then (leads_both came before (λ w u. HasStopped owed w u × WritesOnly owns_units w u) (λ w u came writes. (came, writes)))
              (leads_both (leads_both activate_way.tells activated (HasActivated system) (λ u v moment end. record { moment = moment; end = end })) quiet (λ u v. HasActivated system u v × ActivatesQuietly system u v)
              (λ u v done quiet. (done, quiet)))
              (IsReadyQuietly system owed) (λ w u v is is_u first second. record { stopped = u; came = first.0; before = first.1; activated = second.0; quiet = second.1 }))
              (leads_both brought after (λ v d. (seen d ≡ seen (with_brought system calls v)) × WritesOnly owns_units v d) (λ v d came writes. (came, writes)))
              (IsQuietSwitch system)
              (λ w v d is is_v at both. let known = can.has w is in
              switched_quietly known.start_up system known.named owed w known.is_owed order (arranged_at w is) known.free at.stopped at.came v at.activated calls (calls_at w is).are_listed d both.0
              at.before at.quiet both.1)
