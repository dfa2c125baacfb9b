-- The steps of a planned command over a host: the goal of a rollback is recorded, its system is made the boot default, the units
-- are switched, and the goal is removed.
use Rattle.std.proofs.Common.{◌≡◌, ◌↔◌, ◌&&◌, Bool, List, IsSome, IsTrue, is_some, true, false, Option, None, Some, refl, sym, ap, subst, ◌∙◌, inl, inr}
use Rattle.std.proofs.lemmas.Bool.{both_ways}
use Rattle.std.specs.FinMap.{empty}
use Rattle.host_trait.specs.Host.{HostState, Leads, Passes, Told}
use Rattle.host_trait.specs.World.{WorldState, seen}
use Rattle.host_trait.proofs.Moments.{goes_on, leads_as, leads_then, none_not_some, none_or_some, passes_as, started, told_after, told_as}
use Rattle.owed_plan.specs.declared.owed.Owed.{Owed}
use Rattle.switch_engine.specs.declared.outcome.Outcome.{Outcome}
use Rattle.switch_engine.specs.declared.plan.Plan.{Plan}
use Rattle.switch_engine.specs.declared.row.Row.{Row}
use Rattle.switch_engine.specs.Carried.{CanRecordBy, CanMakeBy, CanSwitchBy, IsPrepared, IsPreparing, IsSwitchMomentBy, IsSwitchedBy, cleared_by, moves_of}
use Rattle.switch_engine.specs.Commands.{IsBoot, IsQuery, if_so, row}
use Rattle.switch_engine.specs.Final.{HasFailed, IsEndOf, LeavesFailed, LeavesFailedAt}
use Rattle.switch_engine.specs.Moments.{IsClearStep, IsMomentOf, record_world}
use Rattle.switch_engine.specs.Plan.{ArePlanned, IsPlanOf, units_of}
use Rattle.switch_engine.specs.Quiet.{IsQuietCommand, IsQuietSwitch, is_not_quiet}
use Rattle.switch_engine.specs.Rows.{gens_to}
use Rattle.generations.specs.declared.moving.Move.{Move}
use Rattle.switch_engine.proofs.CarryLemmas.{IsCarriedFrom, activation_same, can_record, can_set, can_switch, carried_from, clear_moment, ends, moves_same, only_goal, ordered_still, written_still, owed_still, planned_parts, record_free, record_moment, same_manager, set_free, set_moment, switch_free, switch_moment, verdict}
use Rattle.switch_engine.proofs.FlagLemmas.{changes_on, switches_on}
use Rattle.switch_engine.proofs.LawLemmas.{begins_moment}
use Rattle.switch_engine.proofs.RefusesLemmas.{refused_by_leaves_law}
use Rattle.switch_engine.proofs.QuietCommand.{carried_quietly}
use Rattle.switch_engine.proofs.SwitchedIf.{IsSwitchMomentIf, IsSwitchedIf, end_planned, moment_planned, switches_same}
use Rattle.switch_engine.proofs.WayOfSwitch.{leads_both}
use Rattle.switch_names.specs.Names.{Name}
use Rattle.tree_put.specs.Written.{WritesOnly}

-- the units have been switched where the profile was moved before, or needn't be
record HasSwitched (moves : Option Move) (switches : Bool) (system : Name) (owed : Owed) (order : List Name) (w v : WorldState) : Type 0 where
  u : WorldState
  prepared : IsPrepared moves system w u
  end : IsSwitchedIf switches system owed order u v
  moment : IsSwitchMomentIf switches system owed order u v

-- the same, and what was written on the way
record HasSwitchedQuietly (moves : Option Move) (switches : Bool) (system : Name) (owed : Owed) (order : List Name) (w v : WorldState) : Type 0 where
  u : WorldState
  prepared : IsPrepared moves system w u
  before : WritesOnly is_not_quiet w u
  end : IsSwitchedIf switches system owed order u v
  moment : IsSwitchMomentIf switches system owed order u v
  quiet : switches ≡ true → IsQuietSwitch system u v

-- what holds where this is so
leads_if : {a b : HostState} {P Q : WorldState → WorldState → Type 0} (is : Bool) → Leads a b P → (IsTrue is → Leads a b Q) → Leads a b (λ w v. IsTrue is → Q w v)
leads_if {Q = Q} true led then = leads_as (then refl) (λ w v. IsTrue true → Q w v) (λ w v is here yes. here)
leads_if {Q = Q} false led then = leads_as led (λ w v. IsTrue false → Q w v) (λ w v is here yes. absurd (both_ways false refl yes))

module _ (plan : Plan) (changes : IsQuery plan.command → ⊥) {a : HostState} (planned : Told a (λ w. IsPlanOf w plan)) where
  abbrev starts : WorldState → Bool
  starts w = (row plan.command w.leaves).start_up

  abbrev switches : WorldState → Bool
  switches w = (row plan.command w.leaves).switches

  abbrev moves : WorldState → Option Move
  moves w = (row plan.command w.leaves).moves

  abbrev named : WorldState → Name
  named w = (row plan.command w.leaves).system

  abbrev system : Name
  system = plan.row.system

  -- whether a switch of the units is planned
  abbrev by : Bool
  by = is_some plan.switch

  abbrev planned_moves : Option Move
  planned_moves = moves_of plan.boot_default

  abbrev owed : Owed
  owed = (units_of plan).owed

  abbrev order : List Name
  order = (units_of plan).ordered.units

  from : (w : WorldState) → a.world ≡ Some w → IsCarriedFrom plan.command owed order w
  from w is = carried_from plan w (planned.has w is) changes

  parts : (w : WorldState) → a.world ≡ Some w → ArePlanned (row plan.command w.leaves) w plan
  parts w is = planned_parts plan w (planned.has w is) changes

  pub begins : Passes a a (IsMomentOf plan.command)
  begins = started (IsMomentOf plan.command) (λ w is. begins_moment plan.command w (refused_by_leaves_law plan.command w (planned.has w is).not_refused))

  same_moves : (w : WorldState) → a.world ≡ Some w → planned_moves ≡ moves w
  same_moves w is = moves_same (moves w) (named w) w plan.boot_default (parts w is).boot_default

  pub record_can : Told a (CanRecordBy planned_moves)
  record_can =
      told_as planned (CanRecordBy planned_moves)
      (λ w is planned. subst (λ mv. CanRecordBy mv w) (sym (same_moves w is)) (can_record (moves w) (named w) (gens_to (moves w) (named w) w.leaves) w (set_free plan.command owed order w (from w is))))

  recorded_as : (w r : WorldState) → a.world ≡ Some w → seen r ≡ record_world planned_moves w → seen r ≡ record_world (moves w) w
  recorded_as w r is is_r = subst (λ mv. seen r ≡ record_world mv w) (same_moves w is) is_r

  -- the units are switched where a switch of them is planned
  is_by : (w : WorldState) → a.world ≡ Some w → by ≡ switches w
  is_by w is = switches_same (starts w) (switches w) (named w) w plan.switch (parts w is).switch

  to : (w : WorldState) → a.world ≡ Some w → system ≡ named w
  to w is = ap (λ (r : Row). r.system) (planned.has w is).resolved

  pub profile_can : Told a (λ w. (r : WorldState) → seen r ≡ record_world planned_moves w → CanMakeBy system plan.boot_default r)
  profile_can =
      told_as planned (λ w. (r : WorldState) → seen r ≡ record_world planned_moves w → CanMakeBy system plan.boot_default r)
      (λ w is planned r is_r.
      let recorded = recorded_as w r is is_r in
      subst (λ s. CanMakeBy s plan.boot_default r) (sym (to w is))
      (can_set (moves w) (named w) (from w is).named w r plan.boot_default (parts w is).boot_default (only_goal plan.command owed order w (from w is) r recorded) (record_free plan.command owed order w (from w is) r recorded)))

  module _ {b : HostState} (way : Passes a b (IsPreparing planned_moves system)) where
    preparing : (w m : WorldState) → a.world ≡ Some w → IsPreparing (moves w) (named w) w m → IsMomentOf plan.command w m
    preparing w m is (IsPreparing.Recording step) = record_moment plan.command owed order w (from w is) m step
    preparing w m is (IsPreparing.Setting r is_r step) = set_moment plan.command owed order w (from w is) r is_r m step

    prepare_as : (w m : WorldState) → a.world ≡ Some w → IsPreparing planned_moves system w m → IsMomentOf plan.command w m
    prepare_as w m is step = preparing w m is (subst (λ mv. IsPreparing mv (named w) w m) (same_moves w is) (subst (λ s. IsPreparing planned_moves s w m) (to w is) step))

    pub prepare_moments : Passes a b (IsMomentOf plan.command)
    prepare_moments = passes_as way (IsMomentOf plan.command) prepare_as

    module _ (led : Leads a b (IsPrepared planned_moves system)) where
      came : (w u : WorldState) → a.world ≡ Some w → IsPrepared planned_moves system w u → IsPrepared (moves w) (named w) w u
      came w u is prepared = subst (λ mv. IsPrepared mv (named w) w u) (same_moves w is) (subst (λ s. IsPrepared planned_moves s w u) (to w is) prepared)

      pub units_can : Told b (CanSwitchBy system plan.switch)
      units_can =
          told_after way led (CanSwitchBy system plan.switch)
          (λ w u is prepared. let from_w = from w is in let at = came w u is prepared in
          subst (λ s. CanSwitchBy s plan.switch u) (sym (to w is))
          (can_switch (starts w) (switches w) (named w) from_w.named w u plan.switch plan.nothing (parts w is).switch
          (same_manager plan.command owed order w from_w at.recorded at.is_recorded u at.is_set) (owed_still plan.command owed order w from_w at.recorded at.is_recorded u at.is_set)
          (ordered_still plan.command owed order w from_w at.recorded at.is_recorded u at.is_set)
          (written_still plan.command owed order w from_w at.recorded at.is_recorded u at.is_set)
          (activation_same plan.command owed order w from_w at.recorded at.is_recorded u at.is_set) (switch_free plan.command owed order w from_w at.recorded at.is_recorded u at.is_set)))

      moment_as : (w u m : WorldState) → a.world ≡ Some w → IsSwitchMomentBy system plan.switch u m → IsSwitchMomentIf (switches w) (named w) owed order u m
      moment_as w u m is moment = moment_planned (starts w) (switches w) (named w) w plan.nothing plan.switch (parts w is).switch u m (subst (λ s. IsSwitchMomentBy s plan.switch u m) (to w is) moment)

      switched_as : (w u v : WorldState) → a.world ≡ Some w → IsSwitchedBy system plan.switch u v → IsSwitchedBy (named w) plan.switch u v
      switched_as w u v is end = subst (λ s. IsSwitchedBy s plan.switch u v) (to w is) end

      end_as : (w u v : WorldState) → a.world ≡ Some w → IsSwitchedBy system plan.switch u v → IsSwitchedIf (switches w) (named w) owed order u v
      end_as w u v is end = end_planned (starts w) (switches w) (named w) w plan.nothing plan.switch (parts w is).switch u v (switched_as w u v is end)

      module _ {d : HostState} (second : Passes b d (IsSwitchMomentBy system plan.switch)) where
        pub switch_moments : Passes a d (IsMomentOf plan.command)
        switch_moments =
            goes_on way led second (IsMomentOf plan.command) prepare_as
            (λ w u m is is_u prepared moment. let at = came w u is prepared in switch_moment plan.command owed order w (from w is) at.recorded at.is_recorded u at.is_set m (moment_as w u m is moment))

        module _ (done : Leads b d (IsSwitchedBy system plan.switch)) where
          switched_to : Leads a d (λ w v. HasSwitched (moves w) (switches w) (named w) owed order w v)
          switched_to =
              leads_then led (leads_both done second.tells (λ u v. IsSwitchedBy system plan.switch u v × IsSwitchMomentBy system plan.switch u v) (λ u v end moment. (end, moment)))
              (λ w v. HasSwitched (moves w) (switches w) (named w) owed order w v)
              (λ w u v is is_u prepared both. record { u = u; prepared = came w u is prepared; end = end_as w u v is both.0; moment = moment_as w u v is both.1 })

          module _ {e : HostState} (third : Passes d e (IsClearStep planned_moves)) where
            clear_as : (w v m : WorldState) → a.world ≡ Some w → HasSwitched (moves w) (switches w) (named w) owed order w v → IsClearStep planned_moves v m → IsMomentOf plan.command w m
            clear_as w v m is switched step =
                clear_moment plan.command owed order w (from w is) switched.prepared.recorded switched.prepared.is_recorded switched.u switched.prepared.is_set v switched.end switched.moment m
                (subst (λ mv. IsClearStep mv v m) (same_moves w is) step)

            pub all_moments : Passes a e (IsMomentOf plan.command)
            all_moments = goes_on switch_moments switched_to third (IsMomentOf plan.command) (λ w m is moment. moment) (λ w v m is is_v switched step. clear_as w v m is switched step)

            module _ (cleared : Leads d e (λ v x. x ≡ cleared_by planned_moves v)) where
              pub comes_to_end : Leads a e (IsEndOf plan.command)
              comes_to_end =
                  leads_then switched_to cleared (IsEndOf plan.command)
                  (λ w v x is is_v switched is_x.
                  ends plan.command owed order w (from w is) switched.prepared.recorded switched.prepared.is_recorded switched.u switched.prepared.is_set v switched.end switched.moment x
                  (is_x ∙ ap (λ mv. cleared_by mv v) (same_moves w is)))

              -- and each quiet place is written as the activation writes it
              pub comes_quietly :
                  Leads a b (WritesOnly is_not_quiet) → (IsSome plan.switch → Leads b d (IsQuietSwitch system)) → Leads d e (WritesOnly is_not_quiet) → Leads a e (IsQuietCommand plan.command)
              comes_quietly before quiet after =
                  leads_then
                  (leads_then (leads_both led before (λ w u. IsPrepared planned_moves system w u × WritesOnly is_not_quiet w u) (λ w u prepared writes. (prepared, writes)))
                  (leads_both (leads_both done second.tells (λ u v. IsSwitchedBy system plan.switch u v × IsSwitchMomentBy system plan.switch u v) (λ u v end moment. (end, moment)))
                  (leads_if by done quiet) (λ u v. (IsSwitchedBy system plan.switch u v × IsSwitchMomentBy system plan.switch u v) × (IsTrue by → IsQuietSwitch system u v)) (λ u v both quiet. (both, quiet)))
                  (λ w v. HasSwitchedQuietly (moves w) (switches w) (named w) owed order w v)
                  (λ w u v is is_u first both. record {
                    u = u;
                    prepared = came w u is first.0;
                    before = first.1;
                    end = end_as w u v is both.0.0;
                    moment = moment_as w u v is both.0.1;
                    quiet = λ on. subst (λ s. IsQuietSwitch s u v) (to w is) (both.1 (is_by w is ∙ on));
                  }))
                  (leads_both cleared after (λ v x. (x ≡ cleared_by planned_moves v) × WritesOnly is_not_quiet v x) (λ v x gone writes. (gone, writes)))
                  (IsQuietCommand plan.command)
                  (λ w v x is is_v at both.
                  carried_quietly plan.command owed order w (from w is) at.prepared.recorded at.prepared.is_recorded at.u at.prepared.is_set v at.end at.moment x
                  (both.0 ∙ ap (λ mv. cleared_by mv v) (same_moves w is)) at.before at.quiet both.1)

              same_states : (o : Option Move) (v x : WorldState) → x ≡ cleared_by o v → v.manager.states ≡ x.manager.states
              same_states None v x is = sym (ap (λ (y : WorldState). y.manager.states) is)
              same_states (Some move) v x is = sym (ap (λ (y : WorldState). y.manager.states) is)

              module _ (outcome : Outcome) (told : IsSome plan.switch → Told d (λ v. outcome.states ≡ v.manager.states)) where
                -- what the outcome says of the units where they are switched
                pub states_of : (IsBoot plan.command → ⊥) → Told e (λ x. outcome.states ≡ x.manager.states)
                states_of not_boot = record {
                  has = λ x is_x. elim (none_or_some a.world) [
                    | inl none ↦ absurd (none_not_some e.world x (all_moments.silent none) is_x)
                    | inr some ↦
                        (told_after third cleared (λ y. outcome.states ≡ y.manager.states)
                        (λ v y is_v is_y. (told (is_by some.0 some.1 ∙ switches_on plan.command some.0.leaves not_boot)).has v is_v ∙ same_states planned_moves v y is_y)).has x is_x
                  ];
                }

          module _ (outcome : Outcome) (told : IsSome plan.switch → Told d (λ v. outcome.states ≡ v.manager.states)) (failed : IsTrue outcome.failed ↔ HasFailed (units_of plan).defs outcome.states)
              (none : plan.switch ≡ None → outcome ≡ record { states = empty; failed = false }) where
            pub verdict_of : Told a (λ w. IsTrue outcome.failed ↔ LeavesFailed plan.command w)
            verdict_of = record {
              has = λ w is.
                  let u = led.to w is in
                  let v = done.to u.0 u.1 in
                  let at = came w u.0 is u.2 in
                  subst (λ b. IsTrue outcome.failed ↔ LeavesFailedAt (starts w) (if_so (b && switches w) (named w)) w) (sym (changes_on plan.command w.leaves changes))
                  (verdict (starts w) (switches w) (named w) plan.switch plan.nothing w u.0 v.0 outcome (parts w is).switch (same_manager plan.command owed order w (from w is) at.recorded at.is_recorded u.0 at.is_set) (switched_as w u.0 v.0 is v.2)
                  (λ some. (told some).has v.0 v.1) failed none);
            }
