-- Runs that are cut, and the reboots that follow.
use Rattle.std.proofs.Common.{◌≡◌, ◌⊎◌, ℕ, false, List, [], ◌∷◌, Option, None, Some, refl, sym, ap, subst, ◌∙◌, inl, inr, ⊎_elim}
use Rattle.host_trait.specs.World.{WorldState}
use Rattle.switch_engine.specs.declared.command.Command.{Command}
use Rattle.switch_engine.specs.declared.command.Command.TheVariants.{StartUp, Switch}
use Rattle.switch_engine.specs.declared.row.Row.{Row}
use Rattle.switch_engine.specs.Commands.{IsQuery, goes_back, is_back, row}
use Rattle.switch_engine.specs.Owing.{IsOver, IsSteadyFor, IsUnderway, Refuses}
use Rattle.switch_engine.specs.Reboot.{HasBegunToStart, LeadsByStartUps}
use Rattle.switch_engine.specs.Rows.{refusal}
use Rattle.switch_engine.proofs.LawLemmas as engine
use Rattle.switch_engine.proofs.RebootLemmas.{switch_reboot_law}
use Rattle.switch_engine.proofs.RefusesLemmas.{refused_by_leaves_law}
use Rattle.switch_parts.specs.declared.refusal.Refusal.{Refusal}
use Rattle.switch_run.specs.Commands.{command_of}
use Rattle.switch_run.specs.Moments.{IsMomentBy}
use Rattle.switch_run.specs.Reboots.{RebootsLaw, RunsReach, StartUpsLead}
use Rattle.switch_run.proofs.MomentLemmas.{by_refusal}
use Rattle.switch_run.proofs.RunsLemmas.{moment_of}
use Rattle.switch_run.proofs.WordLemmas.{named_of}

-- where runs of words lead a command that doesn't go back, it is underway or over
reached : (words : List (List ℕ)) (command : Command) → command_of words ≡ Some command → (IsQuery command → ⊥) → (cuts : List WorldState) (w v : WorldState) → goes_back command w.leaves ≡ false →
    refusal command w.leaves ≡ None → IsSteadyFor command w → RunsReach words cuts w v → IsUnderway command w v ⊎ IsOver command w v
reached words command given changes [] w v ahead none steady (inl same) = inl (subst (IsUnderway command w) (sym same) (engine.begins_underway w command none steady))
reached words command given changes [] w v ahead none steady (inr ended) = inr (engine.ended_over command w v changes (ended command given))
reached words command given changes (m ∷ cuts) w v ahead none steady led =
    let underway = engine.never_back (row command w.leaves).moves command w m ahead ((moment_of words command given w m none steady led.0).underway steady) in
    ⊎_elim
    (λ later. inl (engine.stays_underway command w m underway v later))
    (λ over. inr (engine.over_then command w m underway v over))
    (reached words command given changes cuts m v (ap (λ (r : Row). is_back r.moves) underway.same_row ∙ ahead) underway.not_refused underway.steady led.1)

-- runs of a start-up are its start-ups
begun : (o : Option Refusal) (r m : WorldState) → Refuses StartUp r o → IsMomentBy o StartUp r m → HasBegunToStart r m
begun None r m none moment = inr (refused_by_leaves_law StartUp r none, moment)
begun (Some why) r m refused same = inl same

start_ups : (starts : List (WorldState × WorldState)) (r v : WorldState) → StartUpsLead starts r v → LeadsByStartUps starts r v
start_ups [] r v led = led.final
start_ups (cut ∷ cuts) r v led =
    let its = by_refusal StartUp r cut.0 led.0.moment in
    (record { sound = led.0.sound; moment = begun its.0 r cut.0 its.1 its.2; after = led.0.after }, start_ups cuts cut.1 v led.1)

pub reboots_law : RebootsLaw
reboots_law words system cuts starts first cut rebooted last uncut may is sound reach boots after led ended =
    let given : command_of words ≡ Some (Switch system) = may.given ∙ ap Some is in
    let none : refusal (Switch system) first.leaves ≡ None = subst (λ (command : Command). refusal command first.leaves ≡ None) is may.not_refused in
    let steady = subst (λ (command : Command). IsSteadyFor command first) is may.steady in
    let changes = subst (λ (command : Command). IsQuery command → ⊥) is may.changes in
    switch_reboot_law system starts first cut rebooted uncut last (named_of words (Switch system) given first.leaves refl) sound none
    (reached words (Switch system) given changes cuts first cut refl none steady reach) boots after (ended (Switch system) given).final (start_ups starts rebooted last led)
