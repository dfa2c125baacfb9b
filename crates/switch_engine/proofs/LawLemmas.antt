-- Runs of a command: where one begins, how one goes on from another, and how the last one ends.
use Rattle.std.proofs.Common.{◌≡◌, ◌⊎◌, ◌&&◌, ◌++◌, Bool, true, false, List, [], ◌∷◌, Option, None, Some, refl, ap, subst, ◌∙◌, inl, inr, ⊎_elim}
use Rattle.std.proofs.lemmas.Bool.{both_ways}
use Rattle.generations.specs.declared.moving.Move.{Move}
use Rattle.generations.specs.declared.moving.Move.TheVariants.{Point, Set}
use Rattle.host_trait.specs.declared.entry.Entry.{Entry}
use Rattle.host_trait.specs.States.{UnitStates, state_of}
use Rattle.host_trait.specs.World.{WorldState}
use Rattle.switch_engine.specs.declared.command.Command.{Command}
use Rattle.switch_engine.specs.declared.row.Row.{Row}
use Rattle.switch_engine.specs.Commands.{IsQuery, brought_to, goes_back, if_so, is_back, moved_by, new_system, row, set_to, switched_by, switched_to}
use Rattle.switch_engine.specs.Final.{AreEntries, AreFinalUnits, IsEndOf}
use Rattle.switch_engine.specs.Moments.{HasComeBack, HasComeBackIn, IsMomentOf, IsOnItsWay, IsRecordStep, IsStepIf, IsStepOf, IsStepTo, LeadsBy, NamesOneOf}
use Rattle.switch_engine.specs.Owing.{IsOver, IsSteadyFor, IsUnderway}
use Rattle.switch_engine.specs.Rows.{refusal}
use Rattle.switch_names.specs.Names.{Name}
use Rattle.owed_plan.specs.Lists.{Debt}
use Rattle.unit_stage.specs.End.{entries_of}
use Rattle.unit_stage.specs.Owes.{HasEntered, HasGoneOn, IsPaidTo, OwesTo}
use Rattle.unit_stage.proofs.EndLemmas.{left_alone}
use Rattle.unit_stage.proofs.EnteredLemmas.{all_entered_owed, all_entered_paid}
use Rattle.unit_stage.proofs.GoneOnLemmas.{begins, entered_on, goes_on, paid_before, paid_since}
use Rattle.unit_stage.proofs.OrderLemmas.{arranges}
use Rattle.boot_entries.proofs.MenuLemmas.{menu_begins_law}
use Rattle.switch_engine.proofs.FlagLemmas.{changes_on}

-- ---- where a run begins

pub begins_underway : (w : WorldState) (command : Command) → refusal command w.leaves ≡ None → IsSteadyFor command w → IsUnderway command w w
begins_underway w command none steady = record {
  same_row = refl;
  same_end = λ v. (λ is. is, λ is. is);
  gone_on = begins (row command w.leaves).start_up (switched_to command w.leaves) w;
  not_refused = none;
  steady = steady;
}

begins_step : (command : Command) (w : WorldState) → IsStepOf command w w
begins_step command w = by (row command w.leaves).changes
  where
    record_begins : (moves : Option Move) → IsRecordStep moves w w
    record_begins None = refl
    record_begins (Some Set) = refl
    record_begins (Some (Point n)) = inl refl

    by : (changes : Bool) → IsStepIf changes (row command w.leaves).start_up (moved_by (row command w.leaves)) (new_system command w.leaves) (brought_to command w.leaves) w w
    by true = IsStepTo.Recording (record_begins (moved_by (row command w.leaves)))
    by false = refl

begins_on_its_way : (moves : Option Move) (command : Command) (w : WorldState) → IsUnderway command w w → IsOnItsWay moves command w w
begins_on_its_way None command w underway = underway
begins_on_its_way (Some Set) command w underway = underway
begins_on_its_way (Some (Point n)) command w underway = inl underway

begins_named : (to : Option Name) (w : WorldState) → NamesOneOf to w w
begins_named None w = λ other. (λ is. is, λ is. is)
begins_named (Some system) w = inl (λ other. (λ is. is, λ is. is))

-- the world at the beginning of a command that isn't refused is a moment of it
pub begins_moment : (command : Command) (w : WorldState) → refusal command w.leaves ≡ None → IsMomentOf command w w
begins_moment command w none = record {
  step = begins_step command w;
  underway = λ steady. begins_on_its_way (row command w.leaves).moves command w (begins_underway w command none steady);
  entered = inl refl;
  named = begins_named (set_to command w.leaves) w;
  menu = menu_begins_law w.leaves w.leaves (λ q own. refl);
}

-- ---- from one run to the next

-- a switch of the units has entered what pays all that it owed
abbrev HasPaid : Bool → Option Name → WorldState → WorldState → Type 0
HasPaid start_up to first w = (since : HasEntered start_up to first w) × ((debt : Debt) (unit : Name) → OwesTo start_up to first debt unit → IsPaidTo to debt unit since.entered)

module _ (command : Command) (first w : WorldState) (before : IsUnderway command first w) where
  abbrev start_up : Bool
  start_up = (row command first.leaves).start_up

  abbrev to : Option Name
  to = switched_to command first.leaves

  -- a run that is underway, and from there underway again
  pub stays_underway : (m : WorldState) → IsUnderway command w m → IsUnderway command first m
  stays_underway m after = record {
    same_row = after.same_row ∙ before.same_row;
    same_end = λ v. (λ is. (before.same_end v).0 ((after.same_end v).0 is), λ is. (after.same_end v).1 ((before.same_end v).1 is));
    gone_on = goes_on start_up to first w m before.gone_on (subst (λ (r : Row). HasGoneOn r.start_up (switched_by r) w m) before.same_row after.gone_on);
    not_refused = after.not_refused;
    steady = after.steady;
  }

  -- a run that is underway, and from there over
  pub over_then : (v : WorldState) → IsOver command w v → IsOver command first v
  over_then v after =
      let then : HasPaid start_up to w v = subst (λ (r : Row). HasPaid r.start_up (switched_by r) w v) before.same_row (after.since, after.paid) in
      record {
        final = (before.same_end v).0 after.final;
        since = entered_on start_up to first w v before.gone_on then.0;
        paid = λ debt unit owed. ⊎_elim
            (paid_before to debt unit before.gone_on.since.entered then.0.entered)
            (λ still. paid_since to debt unit before.gone_on.since.entered then.0.entered (then.1 debt unit still))
            (before.gone_on.paid_or_owed debt unit owed);
      }

-- ---- the end of a run

-- what a switch of the units to a system enters, or none, pays all that it owes
has_paid : (start_up switches : Bool) (system : Name) (w v : WorldState) (entries : List Entry) → AreFinalUnits start_up (if_so switches system) w v → AreEntries start_up (if_so switches system) w entries →
    v.manager.journal ≡ w.manager.journal ++ entries → HasPaid start_up (if_so switches system) w v
has_paid start_up true system w v entries final (owed, order, is_owed, in_order, same) journal =
    let arranged = arranges w.leaves system owed order in_order in (
      record {
        entered = entries_of system owed order w;
        journal = journal ∙ ap (λ all. w.manager.journal ++ all) same;
        owed_alone = all_entered_owed start_up system is_owed.0 owed order arranged w is_owed.1;
        others = λ unit other. final.0.2 unit ∙ left_alone start_up system final.0.1.0 final.0.0 w final.0.1.1 unit other;
      },
      all_entered_paid start_up system is_owed.0 owed order arranged w is_owed.1,
    )
has_paid start_up false system w v entries final none journal = (
  record {
    entered = [];
    journal = journal ∙ ap (λ all. w.manager.journal ++ all) none;
    owed_alone = tt;
    others = λ unit other. ap (λ (states : UnitStates). state_of states unit) final.0;
  },
  λ debt unit owes. absurd owes,
)

-- a run that has come to its end is over
pub ended_over : (command : Command) (w v : WorldState) → (IsQuery command → ⊥) → IsEndOf command w v → IsOver command w v
ended_over command w v changes end =
    let brought : brought_to command w.leaves ≡ switched_to command w.leaves = ap (λ b. if_so (b && (row command w.leaves).switches) (new_system command w.leaves)) (changes_on command w.leaves changes) in
    let paid = has_paid (row command w.leaves).start_up (row command w.leaves).switches (new_system command w.leaves) w v end.entries
    (subst (λ to. AreFinalUnits (row command w.leaves).start_up to w v) brought end.final.units) (subst (λ to. AreEntries (row command w.leaves).start_up to w end.entries) brought end.are_entered) end.journal in
    record { final = end.final; since = paid.0; paid = paid.1 }

-- ---- any number of cuts

-- what is on its way is underway, or a rollback has come to its end
pub either : (moves : Option Move) (command : Command) (w m : WorldState) → IsOnItsWay moves command w m → IsUnderway command w m ⊎ HasComeBack command w m
either None command w m underway = inl underway
either (Some Set) command w m underway = inl underway
either (Some (Point n)) command w m is = is

-- where the profile doesn't go back it is underway
pub never_back : (moves : Option Move) (command : Command) (w m : WorldState) → is_back moves ≡ false → IsOnItsWay moves command w m → IsUnderway command w m
never_back None command w m none underway = underway
never_back (Some Set) command w m none underway = underway
never_back (Some (Point n)) command w m none is = absurd (both_ways _ none refl)

-- however often runs of a command are cut that doesn't go back, the last leaves what one that isn't cut leaves
pub alike : (command : Command) (cuts : List WorldState) (w v : WorldState) → (IsQuery command → ⊥) → goes_back command w.leaves ≡ false → refusal command w.leaves ≡ None → IsSteadyFor command w → LeadsBy command cuts w v → IsOver command w v
alike command [] w v changes ahead none steady led = ended_over command w v changes led
alike command (m ∷ cuts) w v changes ahead none steady led =
    let underway = never_back (row command w.leaves).moves command w m ahead (led.0.underway steady) in
    over_then command w m underway v
    (alike command cuts m v changes (ap (λ (r : Row). is_back r.moves) underway.same_row ∙ ahead) underway.not_refused underway.steady led.1)

pub come_in : (command : Command) (first w : WorldState) → IsUnderway command first w → (cuts : List WorldState) → HasComeBackIn command w cuts → HasComeBackIn command first cuts
come_in command first w before [] none = absurd none
come_in command first w before (m ∷ cuts) is = ⊎_elim
    (λ here. inl (record { over = over_then command first w before m here.over; cleared = here.cleared }))
    (λ later. inr (come_in command first w before cuts later))
    is

-- and of any command the last is over, or one of them had come to its end when it was cut
pub come_back : (command : Command) (cuts : List WorldState) (w v : WorldState) → (IsQuery command → ⊥) → refusal command w.leaves ≡ None → IsSteadyFor command w → LeadsBy command cuts w v → IsOver command w v ⊎ HasComeBackIn command w cuts
come_back command [] w v changes none steady led = inl (ended_over command w v changes led)
come_back command (m ∷ cuts) w v changes none steady led = ⊎_elim
    (λ underway. ⊎_elim
    (λ over. inl (over_then command w m underway v over))
    (λ come. inr (inr (come_in command w m underway cuts come)))
    (come_back command cuts m v changes underway.not_refused underway.steady led.1))
    (λ come. inr (inl come))
    (either (row command w.leaves).moves command w m (led.0.underway steady))
