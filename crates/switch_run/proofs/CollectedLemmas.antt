-- What its status tells of a collection.
use Rattle.std.proofs.Common.{◌≡◌, ℕ, Bool, true, false, Some, Result, Ok, Err, refl, sym, ap, subst}
use Rattle.std.proofs.lemmas.Bool.{both_ways}
use Rattle.host_trait.specs.declared.tree.HostFault.TheVariants as host
use Rattle.host_trait.specs.Host.{EachMoment, HostState, IsHost, Rose, Told}
use Rattle.host_trait.specs.Sink.{SinkState}
use Rattle.host_trait.specs.World.{WorldState}
use Rattle.host_trait.proofs.Moments.{each_moment}
use Rattle.store_collect.specs.Unfinished.{is_unfinished}
use Rattle.switch_parts.specs.declared.refusal.Refusal.{Refusal}
use Rattle.switch_run.specs.declared.run_fault.RunFault.{RunFault}
use Rattle.switch_run.specs.declared.run_fault.RunFault.TheVariants as fault
use Rattle.switch_run.specs.declared.status.Status.{Status}
use Rattle.switch_run.specs.declared.status.Status.TheVariants.{Done, Usage, Refused, SinkFault}
use Rattle.switch_run.specs.Collecting.{AnswersCollection, IsCollectionMoment}
use Rattle.switch_run.specs.CollectionEnding.{HasCollected, IsCollectionBroken, IsCollectionDone, IsCollectionRefused, IsCollectionRun, IsCollectionUnput}
use Rattle.switch_run.specs.Output.{IsIdle}
use Rattle.switch_run.specs.Run.{IsBroken, IsEnded, status_of}

module _ {host_state after : HostState} {sink put : SinkState} (keep : ℕ) (ending : Result Bool RunFault) (is : IsCollectionRun keep host_state after sink put ending) where
  abbrev Come : Result Bool RunFault → Type 0
  Come ending = HasCollected keep host_state after sink put ending

  pub each : IsHost host_state → EachMoment host_state after (IsCollectionMoment keep)
  each host_is = each_moment host_is is.moments (λ w told. IsCollectionMoment.Unchanged refl)

  -- where a switch is unfinished
  pub unfinished : Told host_state (λ w. is_unfinished w.leaves ≡ true → IsIdle host_state after sink put)
  unfinished = record { has = λ w told because. by w told because ending is.come }
    where
      by : (w : WorldState) → host_state.world ≡ Some w → is_unfinished w.leaves ≡ true → (e : Result Bool RunFault) → Come e → IsIdle host_state after sink put
      by w told because (Ok failed) come = absurd (both_ways _ (come.1.allowed.has w told).finished because)
      by w told because (Err fault.Usage) come = absurd come
      by w told because (Err (fault.Refused why)) come = come.idle
      by w told because (Err (fault.Host why)) (IsCollectionBroken.BeforeReport idle) = idle
      by w told because (Err (fault.Host why)) (IsCollectionBroken.AfterReport allowed output) = absurd (both_ways _ (allowed.has w told).finished because)
      by w told because (Err fault.Sink) (IsCollectionUnput.InReport allowed same output) = absurd (both_ways _ (allowed.has w told).finished because)
      by w told because (Err fault.Sink) (IsCollectionUnput.InClosing allowed led output) = absurd (both_ways _ (allowed.has w told).finished because)

  module _ (status : Status) (tells : status ≡ status_of ending) where
    by_ending : (P : Status → Type 0) → ((e : Result Bool RunFault) → ending ≡ e → Come e → P (status_of e)) → P status
    by_ending P each = subst P (sym tells) (each ending refl is.come)

    pub never_usage : status ≡ Usage → ⊥
    never_usage s = by_ending (λ st. st ≡ Usage → ⊥) each s
      where
        each : (e : Result Bool RunFault) → ending ≡ e → Come e → status_of e ≡ Usage → ⊥
        each (Ok true) same come s = cc
        each (Ok false) same come s = cc
        each (Err fault.Usage) same come s = come
        each (Err (fault.Refused why)) same come s = cc
        each (Err (fault.Host host.Memory)) same come s = cc
        each (Err (fault.Host host.Device)) same come s = cc
        each (Err fault.Sink) same come s = cc

    pub refused : (why : Refusal) → status ≡ Refused why → IsCollectionRefused keep host_state after sink put why
    refused why s = by_ending (λ st. st ≡ Refused why → IsCollectionRefused keep host_state after sink put why) each s
      where
        each : (e : Result Bool RunFault) → ending ≡ e → Come e → status_of e ≡ Refused why → IsCollectionRefused keep host_state after sink put why
        each (Ok true) same come s = absurd (cc)
        each (Ok false) same come s = absurd (cc)
        each (Err fault.Usage) same come s = absurd come
        each (Err (fault.Refused other)) same come s = let that : other ≡ why = cc in subst (λ (w : Refusal). IsCollectionRefused keep host_state after sink put w) that come
        each (Err (fault.Host host.Memory)) same come s = absurd (cc)
        each (Err (fault.Host host.Device)) same come s = absurd (cc)
        each (Err fault.Sink) same come s = absurd (cc)

    pub done : IsEnded status → (status ≡ Done) × IsCollectionDone keep host_state after sink put
    done s = by_ending (λ st. IsEnded st → (st ≡ Done) × IsCollectionDone keep host_state after sink put) each s
      where
        each : (e : Result Bool RunFault) → ending ≡ e → Come e → IsEnded (status_of e) → (status_of e ≡ Done) × IsCollectionDone keep host_state after sink put
        each (Ok failed) same come s = (ap (λ b. status_of (Ok b)) come.0, come.1)
        each (Err fault.Usage) same come s = absurd come
        each (Err (fault.Refused why)) same come s = absurd s
        each (Err (fault.Host host.Memory)) same come s = absurd s
        each (Err (fault.Host host.Device)) same come s = absurd s
        each (Err fault.Sink) same come s = absurd s

    pub broken : IsBroken status → IsCollectionBroken keep host_state after sink put
    broken s = by_ending (λ st. IsBroken st → IsCollectionBroken keep host_state after sink put) each s
      where
        each : (e : Result Bool RunFault) → ending ≡ e → Come e → IsBroken (status_of e) → IsCollectionBroken keep host_state after sink put
        each (Ok true) same come s = absurd s
        each (Ok false) same come s = absurd s
        each (Err fault.Usage) same come s = absurd s
        each (Err (fault.Refused why)) same come s = absurd s
        each (Err (fault.Host why)) same come s = come
        each (Err fault.Sink) same come s = absurd s

    pub failed_output : status ≡ SinkFault → IsCollectionUnput keep host_state after sink put
    failed_output s = by_ending (λ st. st ≡ SinkFault → IsCollectionUnput keep host_state after sink put) each s
      where
        each : (e : Result Bool RunFault) → ending ≡ e → Come e → status_of e ≡ SinkFault → IsCollectionUnput keep host_state after sink put
        each (Ok true) same come s = absurd (cc)
        each (Ok false) same come s = absurd (cc)
        each (Err fault.Usage) same come s = absurd come
        each (Err (fault.Refused why)) same come s = absurd (cc)
        each (Err (fault.Host host.Memory)) same come s = absurd (cc)
        each (Err (fault.Host host.Device)) same come s = absurd (cc)
        each (Err fault.Sink) same come s = come

    pub completes : ¬ Rose host_state.faults after.faults → ¬ Rose sink.faults put.faults → Told host_state (λ w. AnswersCollection keep w.leaves status)
    completes host_still sink_still = record {
      has = λ w told. by_ending (λ st. AnswersCollection keep w.leaves st) (each w told);
    }
      where
        each : (w : WorldState) → host_state.world ≡ Some w → (e : Result Bool RunFault) → ending ≡ e → Come e → AnswersCollection keep w.leaves (status_of e)
        each w told (Ok failed) same come = subst (λ (b : Bool). AnswersCollection keep w.leaves (status_of (Ok b))) (sym come.0) (come.1.allowed.has w told)
        each w told (Err fault.Usage) same come = absurd come
        each w told (Err (fault.Refused why)) same come = come.refused.has w told
        each w told (Err (fault.Host host.Memory)) same come = tt
        each w told (Err (fault.Host host.Device)) same come = absurd (host_still (is.cause.rose same))
        each w told (Err fault.Sink) same come = absurd (sink_still (is.sink_cause.rose same))
