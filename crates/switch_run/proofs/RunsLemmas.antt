-- Runs of the same words, of which all but the last are cut.
use Rattle.std.proofs.Common.{◌≡◌, ◌⊎◌, ℕ, Bool, false, List, [], ◌∷◌, Option, None, Some, sym, ap, subst, ◌∙◌, inl, inr, ⊎_elim}
use Rattle.host_trait.specs.States.{UnitStates, state_of}
use Rattle.host_trait.specs.World.{WorldState}
use Rattle.generations.specs.declared.moving.Move.{Move}
use Rattle.generations.specs.declared.moving.Move.TheVariants.{Point, Set}
use Rattle.switch_engine.specs.declared.command.Command.{Command}
use Rattle.switch_engine.specs.declared.row.Row.{Row}
use Rattle.switch_engine.specs.Commands.{IsQuery, brought_to, goes_back, is_back, row}
use Rattle.switch_engine.specs.Final.{AreFinalUnits, IsFinalOf}
use Rattle.switch_engine.specs.Moments as moments
use Rattle.switch_engine.specs.Moments.{HasComeBackIn, IsOnItsWay, LeadsBy}
use Rattle.switch_engine.specs.Owing.{IsOver, IsSteadyFor, IsUnderway, Refuses}
use Rattle.switch_engine.specs.Rows.{refusal}
use Rattle.switch_engine.proofs.LawLemmas as engine
use Rattle.switch_engine.proofs.RefusesLemmas.{steady_refusal_law}
use Rattle.switch_names.specs.Names.{Name}
use Rattle.switch_parts.specs.declared.refusal.Refusal.{Refusal}
use Rattle.switch_run.specs.Commands.{command_of}
use Rattle.switch_run.specs.Moments.{IsMomentFor}
use Rattle.switch_run.specs.Runs.{LooksAlike, MayBeCut, RunsLead}
use Rattle.unit_stage.proofs.EndLemmas as ends

-- ---- runs of words are runs of their command

-- each moment of a run is one of its command, from a steady world that doesn't refuse it
pub steady_moment : (command : Command) (w m : WorldState) → refusal command w.leaves ≡ None → IsSteadyFor command w → IsMomentFor (Some command) w m → moments.IsMomentOf command w m
steady_moment command w m none steady moment = moment None (subst (λ (o : Option Refusal). Refuses command w o) none (steady_refusal_law command w steady))

pub moment_of : (words : List (List ℕ)) (command : Command) → command_of words ≡ Some command → (w m : WorldState) → refusal command w.leaves ≡ None → IsSteadyFor command w → IsMomentFor (command_of words) w m → moments.IsMomentOf command w m
moment_of words command given w m none steady moment = steady_moment command w m none steady (subst (λ (o : Option Command). IsMomentFor o w m) given moment)

lead_by : (words : List (List ℕ)) (command : Command) → command_of words ≡ Some command → (cuts : List WorldState) (w v : WorldState) → goes_back command w.leaves ≡ false →
    refusal command w.leaves ≡ None → IsSteadyFor command w → RunsLead words cuts w v → LeadsBy command cuts w v
lead_by words command given [] w v ahead none steady led = led command given
lead_by words command given (m ∷ cuts) w v ahead none steady led =
    let moment = moment_of words command given w m none steady led.0 in
    let underway = engine.never_back (row command w.leaves).moves command w m ahead (moment.underway steady) in
    (moment, lead_by words command given cuts m v (ap (λ (r : Row). is_back r.moves) underway.same_row ∙ ahead) underway.not_refused underway.steady led.1)

pub over : (words : List (List ℕ)) (cuts : List WorldState) (first last : WorldState) → (may : MayBeCut words first) → goes_back may.command first.leaves ≡ false → RunsLead words cuts first last → IsOver may.command first last
over words cuts first last may ahead led =
    engine.alike may.command cuts first last may.changes ahead may.not_refused may.steady
    (lead_by words may.command may.given cuts first last ahead may.not_refused may.steady led)

come_by : (words : List (List ℕ)) (command : Command) → command_of words ≡ Some command → (IsQuery command → ⊥) → (cuts : List WorldState) (w v : WorldState) → refusal command w.leaves ≡ None → IsSteadyFor command w →
    RunsLead words cuts w v → IsOver command w v ⊎ HasComeBackIn command w cuts
come_by words command given changes [] w v none steady led = inl (engine.ended_over command w v changes (led command given))
come_by words command given changes (m ∷ cuts) w v none steady led = ⊎_elim
    (λ underway. ⊎_elim
    (λ over. inl (engine.over_then command w m underway v over))
    (λ come. inr (inr (engine.come_in command w m underway cuts come)))
    (come_by words command given changes cuts m v underway.not_refused underway.steady led.1))
    (λ come. inr (inl come))
    (engine.either (row command w.leaves).moves command w m ((moment_of words command given w m none steady led.0).underway steady))

pub back : (words : List (List ℕ)) (cuts : List WorldState) (first last : WorldState) → (may : MayBeCut words first) → RunsLead words cuts first last → IsOver may.command first last ⊎ HasComeBackIn may.command first cuts
back words cuts first last may led = come_by words may.command may.given may.changes cuts first last may.not_refused may.steady led

-- ---- what is on its way since one world is so since an earlier one

pub on_its_way_then : (moves : Option Move) (command : Command) (first w m : WorldState) → IsUnderway command first w → IsOnItsWay moves command w m → IsOnItsWay moves command first m
on_its_way_then None command first w m before underway = engine.stays_underway command first w before m underway
on_its_way_then (Some Set) command first w m before underway = engine.stays_underway command first w before m underway
on_its_way_then (Some (Point n)) command first w m before is = ⊎_elim
    (λ underway. inl (engine.stays_underway command first w before m underway))
    (λ come. inr (record { over = engine.over_then command first w before m come.over; cleared = come.cleared }))
    is

-- ---- a command leaves one world to see

one_end_of_states : (start_up : Bool) (to : Option Name) (w v u : WorldState) → AreFinalUnits start_up to w v → AreFinalUnits start_up to w u → (unit : Name) → state_of v.manager.states unit ≡ state_of u.manager.states unit
one_end_of_states start_up None w v u is also unit = ap (λ (states : UnitStates). state_of states unit) (is.0 ∙ sym also.0)
one_end_of_states start_up (Some system) w v u is also unit =
    is.0.2 unit ∙ ends.one_end start_up system also.0.1.0 also.0.0 w also.0.1.1 is.0.0 is.0.1 unit ∙ sym (also.0.2 unit)

one_loaded : (start_up : Bool) (to : Option Name) (w v u : WorldState) → AreFinalUnits start_up to w v → AreFinalUnits start_up to w u → v.manager.loaded ≡ u.manager.loaded
one_loaded start_up None w v u is also = is.1 ∙ sym also.1
one_loaded start_up (Some system) w v u is also = is.1 ∙ sym also.1

one_end : (command : Command) (w v u : WorldState) → IsFinalOf command w v → IsFinalOf command w u → LooksAlike v u
one_end command w v u is also = record {
  leaves = λ at other. is.leaves at other ∙ sym (also.leaves at other);
  states = one_end_of_states (row command w.leaves).start_up (brought_to command w.leaves) w v u is.units also.units;
  loaded = one_loaded (row command w.leaves).start_up (brought_to command w.leaves) w v u is.units also.units;
}

pub alike : (words : List (List ℕ)) (cuts : List WorldState) (first last uncut : WorldState) → (may : MayBeCut words first) → goes_back may.command first.leaves ≡ false → RunsLead words cuts first last → RunsLead words [] first uncut → LooksAlike last uncut
alike words cuts first last uncut may ahead led straight =
    one_end may.command first last uncut (over words cuts first last may ahead led).final (straight may.command may.given).final
