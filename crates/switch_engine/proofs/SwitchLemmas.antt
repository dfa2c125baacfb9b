-- All steps of a switch of the units, one after the other: each is a moment of its parts, and the last leaves them at their ends.
use Rattle.std.proofs.Common.{◌≡◌, Bool, true, false, cond, ◌∷◌, ◌||◌, List, [], length, map, None, Some, refl, sym, ap, subst, ◌∙◌, inl, inr}
use Rattle.std.proofs.lemmas.Bool.{both_ways, cases_Bool, or_from}
use Rattle.std.specs.Cmp.Lexicographic.{same_text}
use Rattle.std.specs.FinMap.{get}
use Rattle.std.specs.List.{AllByRecursion, flat_map}
use Rattle.activation_stage.specs.ActivationPart.{CanActivate, IsActivating, IsActivationPlanOf, activation_in, activation_part}
use Rattle.activation_stage.specs.declared.activation_plan.ActivationPlan.{ActivationPlan}
use Rattle.activation_stage.specs.Owners.{owners_after}
use Rattle.etc_manifest.specs.Owners.{OwnerIds}
use Rattle.host_trait.specs.Change.{definitions_place}
use Rattle.host_trait.specs.declared.leaf.LeafKind.TheVariants.{Link}
use Rattle.host_trait.specs.declared.manager_state.ManagerState.{ManagerState}
use Rattle.host_trait.specs.declared.unit_state.State.{State}
use Rattle.host_trait.specs.Manager.{loading}
use Rattle.host_trait.specs.States.{state_of}
use Rattle.host_trait.specs.World.{WorldState, is_path, seen}
use Rattle.host_trait.proofs.Seen.{seen_at}
use Rattle.log_text.specs.declared.lists.Which.{Which}
use Rattle.log_text.specs.Lists.{record_order}
use Rattle.owed_lists.specs.Lists.{place_of}
use Rattle.owed_log.specs.declared.log_write.LogWrite.{LogWrite}
use Rattle.owed_log.specs.Laws.{AreAlone}
use Rattle.owed_log.specs.Places.{log_place, old_places}
use Rattle.owed_log.specs.Writing.{IsWriteFor, recorded}
use Rattle.owed_log.proofs.BesideLemmas.{recorded_manager}
use Rattle.owed_plan.specs.Calls.{give_order, listed_calls, stop_calls}
use Rattle.owed_plan.specs.declared.duty.Duty.{Duty}
use Rattle.owed_plan.specs.declared.owed.Owed.{Owed}
use Rattle.switch_engine.specs.Moments.{HasStopped, HasActivated, IsSwitchMoment, IsSwitched}
use Rattle.switch_engine.specs.Quiet.{IsQuietSwitch}
use Rattle.switch_engine.specs.Rows.{switch_in, switched_leaf}
use Rattle.switch_engine.proofs.ActivationApart.{definitions_end, definitions_owned, units_parted}
use Rattle.activation_stage.proofs.ActivationLemmas.{activation_moment_law, activation_part_law, activation_plan_law, owners_law}
use Rattle.activation_stage.specs.Quiet.{ActivatesQuietly, activation_first}
use Rattle.switch_engine.proofs.PartsLemmas.{switch_is}
use Rattle.switch_engine.proofs.PlaceLemmas.{all_clear}
use Rattle.switch_engine.proofs.QuietWay.{activation_end, first_kept}
use Rattle.switch_engine.proofs.QuietLemmas.{not_owned, quiet_between, quiet_not_stage, quiet_whole, units_not_quiet, units_written}
use Rattle.switch_names.specs.Names.{Name}
use Rattle.switch_names.specs.SystemName.{IsSystemPath}
use Rattle.switch_parts.specs.Part.{IsAtEnd, IsFree, IsPartMoment, IsOnly, IsPart, Part}
use Rattle.tree_put.specs.Written.{WritesOnly}
use Rattle.switch_parts.specs.Leaves.{is_among}
use Rattle.switch_parts.proofs.LeafLemmas.{each_among}
use Rattle.switch_parts.proofs.Parts.{first_free, first_moment, is_final, moment_then, only_beside, only_first, only_then, second_free, second_moment}
use Rattle.switch_parts.proofs.StoreLemmas.{store_not_stage}
use Rattle.unit_stage.specs.Acts.{CanPerform, IsPerforming, performed, with_calls}
use Rattle.unit_stage.specs.Laws.{AreSameBeside}
use Rattle.unit_stage.specs.Order.{ArrangesStarts}
use Rattle.unit_stage.specs.Owned.{owns_units}
use Rattle.unit_stage.specs.Plan.{IsOwedBy}
use Rattle.unit_stage.specs.Steps.{AreSameUnits, CanBring, IsBringMoment, IsBringStep, IsStopMoment, IsStopStep, IsUnitMoment, with_brought, with_loaded, with_stops}
use Rattle.unit_stage.specs.System.{IsSystem, current_place, definitions_of, system_leaf}
use Rattle.unit_stage.specs.Units.{AreUnitsKept, units_part}
use Rattle.unit_stage.proofs.CallLemmas.{same_bad, same_loaded}
use Rattle.unit_stage.proofs.ElsewhereLemmas.{bring_elsewhere, lists_elsewhere, stop_elsewhere}
use Rattle.unit_stage.proofs.MomentLemmas.{are_named, free_law, underway_law}
use Rattle.unit_stage.proofs.OwnedLemmas.{not_owns_store, not_reads_stage, owned_not_stage, reads_store}
use Rattle.unit_stage.proofs.SameLemmas.{same_bringing, units_seen, units_then}
use Rattle.unit_stage.proofs.ComeLemmas.{recorded_alone}
use Rattle.unit_stage.proofs.GivenLemmas.{Ended, ended, log_for, no_listed}
use Rattle.unit_stage.proofs.ListsLemmas.{alone_same}
use Rattle.unit_stage.proofs.StandLemmas.{all_given_manager, same_lists_of}
use Rattle.unit_stage.proofs.StepLemmas.{all_taken, given_then, manager_seen}
use Rattle.unit_stage.proofs.SystemsLemmas.{is_system}
use Rattle.unit_stage.proofs.TableLemmas.{all_entered, can_rest, final_states, given_all, ready}
use Rattle.unit_stage.proofs.UnitsPartLemmas.{unit_moment_law, units_part_law}

module _ (start_up : Bool) (system : Name) (named : IsSystemPath system) (owed : Owed) (w : WorldState) (is_owed : IsOwedBy start_up system w owed) (order : List Name) (arranges : ArrangesStarts owed order)
    (free : IsFree (switch_in start_up system w.leaves) w.leaves) where
  abbrev owners : OwnerIds
  owners = owners_after system w.leaves

  abbrev units : Part
  units = units_part start_up system

  abbrev activation : Part
  activation = activation_part system owners

  abbrev whole : Part
  whole = switch_in start_up system w.leaves

  abbrev states : Name → State
  states = state_of w.manager.states

  system_is : IsSystem system
  system_is = is_system system named

  units_is : IsPart units
  units_is = units_part_law start_up system system_is

  activation_is : IsPart activation
  activation_is = activation_part_law system owners named

  whole_is : IsPart whole
  whole_is = switch_is start_up system named owners

  -- what the units' part alone has changed is nothing to the activation
  kept_beside : (v m : WorldState) → IsOnly units v m → activation.Keeps v m
  kept_beside v m only = activation_is.frame v m (only_beside units activation activation_is (units_parted start_up system owners).first refl v m only)

  -- the activation owns nothing that the units' part looks at
  not_activated : (q : Name) → units.reads q ≡ true → activation.owns q ≡ false
  not_activated q read = elim (cases_Bool (activation.owns q)) [
    | inl own ↦ absurd (both_ways _ ((units_parted start_up system owners).second q own) read)
    | inr other ↦ other
  ]

  -- ---- the stops

  stop_units : (write : LogWrite) → IsWriteFor w.leaves owed.lists write → (m : WorldState) → IsStopMoment write (stop_calls owed) w m → IsPartMoment units w m
  stop_units write is_write m moment =
      let u = moment.0 in
      unit_moment_law start_up system owed order w m system_is is_owed arranges (IsUnitMoment.Stopping write is_write u moment.1 (units_seen u m moment.2)) (record {
        leaves = λ q none ne. seen_at m u moment.2 q ne ∙ stop_elsewhere write (stop_calls owed) w u q none ne moment.1;
        manager = λ never. absurd (both_ways true never refl);
      })

  stop_moment : (write : LogWrite) → IsWriteFor w.leaves owed.lists write → (m : WorldState) → IsStopMoment write (stop_calls owed) w m → IsPartMoment whole w m
  stop_moment write is_write m moment = first_moment units activation units_is activation_is (units_parted start_up system owners) w m (stop_units write is_write m moment)

  module _ (u : WorldState) (stopped : HasStopped owed w u) where
    abbrev write : LogWrite
    write = stopped.0

    -- the world after the stops
    abbrev stopped_world : WorldState
    stopped_world = with_stops write (stop_calls owed) w

    last_stop : IsStopMoment write (stop_calls owed) w u
    last_stop = (
      stopped_world,
      IsStopStep.Stopping (IsPerforming.After (length (stop_calls owed)) (ap (λ calls. with_calls calls (recorded write w)) (sym (all_taken (stop_calls owed))))),
      stopped.2,
    )

    at_stop : IsPartMoment whole w u
    at_stop = stop_moment write stopped.1 u last_stop

    -- ---- the activation

    same_owners : owners_after system u.leaves ≡ owners
    same_owners = owners_law system owners w u at_stop.keeps.1

    still_free : IsFree (activation_part system (owners_after system u.leaves)) u.leaves
    still_free =
        subst (λ (o : OwnerIds). IsFree (activation_part system o) u.leaves) (sym same_owners)
        (second_free units activation u.leaves (whole_is.stays_free w u at_stop.keeps free))

    pub can_activate : (plan : ActivationPlan) → IsActivationPlanOf system w.leaves plan → CanActivate system plan u
    can_activate plan planned = record {
      planned = activation_plan_law system w u plan named (only_beside units activation activation_is (units_parted start_up system owners).first refl w u (stop_units write stopped.1 u last_stop).only) planned;
      free = still_free;
    }

    activate_moment : (m : WorldState) → IsActivating system u m → IsPartMoment whole w m
    activate_moment m moment =
        let part : IsPartMoment activation u m =
        subst (λ (o : OwnerIds). IsPartMoment (activation_part system o) u m) same_owners (activation_moment_law system u m named still_free moment) in
        moment_then whole whole_is w u m at_stop (second_moment units activation units_is activation_is (units_parted start_up system owners) u m part)

    module _ (v : WorldState) (activated : HasActivated system u v) where
      at_ready : IsPartMoment whole w v
      at_ready = activate_moment v activated.moment

      -- the units are as they were after the stops
      units_ready : AreSameUnits stopped_world v
      units_ready = units_then stopped_world u v (units_seen stopped_world u stopped.2) (record {
        leaves = λ q own. activated.end.only.leaves q (not_activated q (units_is.reads_own q own)) (owned_not_stage q own);
        manager = activated.end.only.manager refl;
      })

      -- and so is their manager
      ready_manager : v.manager ≡ performed (stop_calls owed) w.manager
      ready_manager = units_ready.manager ∙ ap (performed (stop_calls owed)) (recorded_manager write w)

      -- what is owed stands as it was recorded
      alone_ready : AreAlone v.leaves owed.lists
      alone_ready =
          alone_same stopped_world.leaves v.leaves
          (λ q inside.
          at_ready.only.leaves q (or_from _ _ (not_owns_store q inside) (not_activated q (reads_store q inside))) (store_not_stage q inside)
          ∙ sym (lists_elsewhere write w q (not_owns_store q inside) (store_not_stage q inside)))
          (same_lists_of stopped_world v units_ready) owed.lists
          (recorded_alone system owed order w write stopped.1 (are_named start_up system is_owed.0 owed w is_owed.1 stopped.1.counted))

      -- ---- the system comes into use

      abbrev listed : Which → List Duty
      listed = listed_calls owed order states

      abbrev IsBringing : WorldState → Type 0
      IsBringing m = IsBringMoment system listed v m

      bring_only : (m : WorldState) → IsBringing m → IsOnly units v m
      bring_only m moment = record {
        leaves = λ q none ne.
            seen_at m moment.0 moment.2 q ne
            ∙ bring_elsewhere q none listed system v moment.0 moment.1;
        manager = λ never. absurd (both_ways true never refl);
      }

      all_only : (m : WorldState) → IsBringing m → IsOnly whole w m
      all_only m moment = only_then whole w v m at_ready.only (only_first units activation v m (bring_only m moment))

      bring_units : (m : WorldState) → IsBringing m → AreUnitsKept start_up system w m
      bring_units m moment =
          let there = same_bringing listed system stopped_world v moment.0 units_ready moment.1 in
          let step : IsUnitMoment system owed order w m = IsUnitMoment.Bringing write stopped.1 there.0 there.1 (units_then there.0 moment.0 m there.2 (units_seen moment.0 m moment.2)) in
          let beside : AreSameBeside w m =
          λ q read none. (all_only m moment).leaves q (or_from _ _ none (not_activated q read)) (λ same. both_ways _ not_reads_stage (subst (λ x. units.reads x ≡ true) same read)) in
          record {
            free = λ before. free_law start_up system owed order w m system_is is_owed step beside before;
            underway = λ before steady. underway_law start_up system owed order w m system_is is_owed arranges before steady step beside;
          }

      bring_moment : (m : WorldState) → IsBringing m → IsPartMoment whole w m
      bring_moment m moment = record {
        keeps = (bring_units m moment, activation_is.keeps_then w v m at_ready.keeps.1 (kept_beside v m (bring_only m moment)));
        only = all_only m moment;
      }

      defined : get v.leaves definitions_place ≡ Some (Link (definitions_of system))
      defined = activated.end.end definitions_place definitions_owned ∙ definitions_end system (owners_after system u.leaves) u.leaves

      module _ (calls : Which → List Duty) (are : (which : Which) → calls which ≡ listed which) where
        same : calls ≡ listed
        same = λ i which. are which i

        pub can_bring : CanBring system calls v
        can_bring =
            let clear = all_clear v.leaves (first_free units activation v.leaves (whole_is.stays_free w v at_ready.keeps free)).way in
            subst (λ calls. CanBring system calls v) (sym same) (record {
              load = record { stage = clear.stage; current = clear.current; defined = defined };
              log = log_for owed order states v.leaves alone_ready;
              can_call =
                  subst (λ (manager : ManagerState). CanPerform (flat_map listed give_order) (loading (definitions_of system) manager)) (sym ready_manager)
                  (can_rest owed (definitions_of system) w.manager order arranges);
            })

        pub bringing : (m : WorldState) → IsBringMoment system calls v m → IsSwitchMoment system owed order w m
        bringing m moment = IsSwitchMoment.Bringing u v stopped activated (subst (λ calls. IsBringMoment system calls v m) same moment)

        -- ---- the end

        module _ (d : WorldState) (brought : seen d ≡ seen (with_brought system calls v)) where
          last_step : IsBringing d
          last_step = (with_brought system listed v, IsBringStep.Giving (given_then listed give_order [] (with_loaded system v) (with_brought system listed v) refl), brought ∙ (λ i. seen (with_brought system (same i) v)))

          at_end : Ended system d.leaves
          at_end = ended system calls v d owed.lists (λ which other none. no_listed owed order states which other (sym (are which) ∙ none)) alone_ready can_bring brought

          -- an owned place is at its end
          owned_end : (q : Name) → owns_units q ≡ true → get d.leaves q ≡ cond (is_path q current_place) (Some (system_leaf system)) None
          owned_end q own = elim (cases_Bool (is_path q current_place)) [
            | inl is_current ↦
                ap (get d.leaves) (same_text q current_place (sym is_current)) ∙ at_end.current
                ∙ sym (ap (λ b. cond b (Some (system_leaf system)) None) is_current)
            | inr other ↦ none_stands (sym (ap (λ b. b || is_among (log_place ∷ old_places) q) other) ∙ own)
                ∙ sym (ap (λ b. cond b (Some (system_leaf system)) None) other)
          ]
            where
              no_lists : (order : List Which) → AllByRecursion (λ p. get d.leaves p ≡ None) (map place_of order)
              no_lists [] = tt
              no_lists (which ∷ order) = (at_end.old which, no_lists order)

              none_stands : is_among (log_place ∷ old_places) q ≡ true → get d.leaves q ≡ None
              none_stands among = each_among (λ p. get d.leaves p ≡ None) (log_place ∷ old_places) (at_end.log, no_lists record_order) q among

          -- a place of the activation is at the end that it had from the beginning
          activated_end : (q : Name) → owns_units q ≡ false → activation.owns q ≡ true → get d.leaves q ≡ activation.end w.leaves q
          activated_end q none own =
              (bring_only d last_step).leaves q none (λ same. both_ways _ activation_is.no_stage (subst (λ x. activation.reads x ≡ true) same (activation_is.reads_own q own)))
              ∙ activated.end.end q own
              ∙ ap (λ (o : OwnerIds). (activation_part system o).end u.leaves q) same_owners
              ∙ activation_is.same_end w u at_stop.keeps.1 q own

          all_at_end : IsAtEnd whole w d
          all_at_end q own = elim (cases_Bool (owns_units q)) [
            | inl is ↦ owned_end q is ∙ sym (ap (λ b. cond b (units.end w.leaves q) (activation.end w.leaves q)) is)
            | inr none ↦
                activated_end q none (sym (ap (λ b. b || activation.owns q) none) ∙ own)
                ∙ sym (ap (λ b. cond b (units.end w.leaves q) (activation.end w.leaves q)) none)
          ]

          pub switched : IsSwitched system owed order w d
          switched =
              let text = definitions_of system in
              let rest = flat_map listed give_order in
              let manager : d.manager ≡ given_all owed text w.manager order =
              manager_seen d (with_brought system calls v) brought ∙ all_given_manager calls give_order (with_loaded system v)
              ∙ (λ i. performed (flat_map (same i) give_order) (loading text (ready_manager i))) in
              record {
                leaves = is_final whole w d (all_only d last_step) all_at_end;
                units = record {
                  states = λ unit. ap (λ (m : ManagerState). state_of m.states unit) manager ∙ final_states owed text w.manager order arranges unit;
                  loaded = ap (λ (m : ManagerState). m.loaded) manager ∙ same_loaded rest (ready owed text w.manager);
                  bad = ap (λ (m : ManagerState). m.bad) manager ∙ same_bad rest (ready owed text w.manager) ∙ same_bad (stop_calls owed) w.manager;
                  journal = ap (λ (m : ManagerState). m.journal) manager ∙ all_entered owed text w.manager order;
                };
              }

          -- each quiet place is written as the activation writes it
          pub switched_quietly : WritesOnly owns_units w u → ActivatesQuietly system u v → WritesOnly owns_units v d → IsQuietSwitch system w d
          switched_quietly before quiet after =
              let only = (stop_units write stopped.1 u last_stop).only in
              quiet_between (activation_first system) (activation_first system) (switched_leaf system) (activation_end system) w u v d
              (units_written w u before) (quiet_whole (activation_first system) (activation_end system) u v quiet) (units_written v d after)
              (λ q is. first_kept system named w u (only_beside units activation activation_is (units_parted start_up system owners).first refl w u only) q)
              (λ q is.
              let ne = quiet_not_stage q is in
              sym (is_final (activation_in system u.leaves) u v activated.end.only activated.end.end q ne)
              ∙ sym ((bring_only d last_step).leaves q (not_owned owns_units units_not_quiet q is) ne) ∙ switched.leaves q ne)
              (λ q is. only.leaves q (not_owned owns_units units_not_quiet q is) (quiet_not_stage q is))

  -- ---- each moment of a switch of the units is one of its parts

  pub switch_part_moment : (m : WorldState) → IsSwitchMoment system owed order w m → IsPartMoment whole w m
  switch_part_moment m (IsSwitchMoment.Stopping write is_write moment) = stop_moment write is_write m moment
  switch_part_moment m (IsSwitchMoment.Activating u stopped moment) = activate_moment u stopped m moment
  switch_part_moment m (IsSwitchMoment.Bringing u v stopped activated moment) = bring_moment u stopped v activated m moment
