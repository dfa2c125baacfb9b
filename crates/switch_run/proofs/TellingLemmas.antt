-- What its status tells of a run that tells a text.
use Rattle.std.proofs.Common.{◌≡◌, ◌⊎◌, Bool, true, false, [], Result, Ok, Err, refl, sym, ap, subst, inl, inr}
use Rattle.host_trait.specs.declared.tree.HostFault.TheVariants as host
use Rattle.host_trait.specs.Sink.{Puts, SinkState}
use Rattle.switch_parts.specs.declared.refusal.Refusal.{Refusal}
use Rattle.switch_run.specs.declared.run_fault.RunFault.{RunFault}
use Rattle.switch_run.specs.declared.run_fault.RunFault.TheVariants as fault
use Rattle.switch_run.specs.declared.status.Status.{Status}
use Rattle.switch_run.specs.declared.status.Status.TheVariants.{Done, Usage, Refused, SinkFault, NoMemory}
use Rattle.switch_run.specs.Run.{IsBroken, IsEnded, status_of}
use Rattle.switch_run.specs.Telling.{HasTold}

module _ (whole begun : Type 0) (sink put : SinkState) (ending : Result Bool RunFault) (come : HasTold whole begun sink put ending) (status : Status) (tells : status ≡ status_of ending) where
  by_ending : (P : Status → Type 0) → ((e : Result Bool RunFault) → ending ≡ e → HasTold whole begun sink put e → P (status_of e)) → P status
  by_ending P each = subst P (sym tells) (each ending refl come)

  pub never_usage : status ≡ Usage → ⊥
  never_usage s = by_ending (λ st. st ≡ Usage → ⊥) each s
    where
      each : (e : Result Bool RunFault) → ending ≡ e → HasTold whole begun sink put e → status_of e ≡ Usage → ⊥
      each (Ok true) same come s = cc
      each (Ok false) same come s = cc
      each (Err fault.Usage) same come s = come
      each (Err (fault.Refused why)) same come s = come
      each (Err (fault.Host host.Memory)) same come s = cc
      each (Err (fault.Host host.Device)) same come s = cc
      each (Err fault.Sink) same come s = cc

  pub never_refused : (why : Refusal) → status ≡ Refused why → ⊥
  never_refused why s = by_ending (λ st. st ≡ Refused why → ⊥) each s
    where
      each : (e : Result Bool RunFault) → ending ≡ e → HasTold whole begun sink put e → status_of e ≡ Refused why → ⊥
      each (Ok true) same come s = cc
      each (Ok false) same come s = cc
      each (Err fault.Usage) same come s = come
      each (Err (fault.Refused other)) same come s = come
      each (Err (fault.Host host.Memory)) same come s = cc
      each (Err (fault.Host host.Device)) same come s = cc
      each (Err fault.Sink) same come s = cc

  pub is_whole : IsEnded status → (status ≡ Done) × whole
  is_whole s = by_ending (λ st. IsEnded st → (st ≡ Done) × whole) each s
    where
      each : (e : Result Bool RunFault) → ending ≡ e → HasTold whole begun sink put e → IsEnded (status_of e) → (status_of e ≡ Done) × whole
      each (Ok failed) same come s = (ap (λ b. status_of (Ok b)) come.0, come.1)
      each (Err fault.Usage) same come s = absurd come
      each (Err (fault.Refused why)) same come s = absurd come
      each (Err (fault.Host host.Memory)) same come s = absurd s
      each (Err (fault.Host host.Device)) same come s = absurd s
      each (Err fault.Sink) same come s = absurd s

  pub is_begun : status ≡ SinkFault → begun
  is_begun s = by_ending (λ st. st ≡ SinkFault → begun) each s
    where
      each : (e : Result Bool RunFault) → ending ≡ e → HasTold whole begun sink put e → status_of e ≡ SinkFault → begun
      each (Ok true) same come s = absurd (cc)
      each (Ok false) same come s = absurd (cc)
      each (Err fault.Usage) same come s = absurd come
      each (Err (fault.Refused why)) same come s = absurd come
      each (Err (fault.Host host.Memory)) same come s = absurd (cc)
      each (Err (fault.Host host.Device)) same come s = absurd (cc)
      each (Err fault.Sink) same come s = come

  pub is_broken : IsBroken status → Puts sink put (λ more. more ≡ [])
  is_broken s = by_ending (λ st. IsBroken st → Puts sink put (λ more. more ≡ [])) each s
    where
      each : (e : Result Bool RunFault) → ending ≡ e → HasTold whole begun sink put e → IsBroken (status_of e) → Puts sink put (λ more. more ≡ [])
      each (Ok true) same come s = absurd s
      each (Ok false) same come s = absurd s
      each (Err fault.Usage) same come s = absurd s
      each (Err (fault.Refused why)) same come s = absurd s
      each (Err (fault.Host why)) same come s = come
      each (Err fault.Sink) same come s = absurd s

  pub completes : (ending ≡ Err (fault.Host host.Device) → ⊥) → (ending ≡ Err fault.Sink → ⊥) → (status ≡ Done) ⊎ (status ≡ NoMemory)
  completes no_device no_output = by_ending (λ st. (st ≡ Done) ⊎ (st ≡ NoMemory)) each
    where
      each : (e : Result Bool RunFault) → ending ≡ e → HasTold whole begun sink put e → (status_of e ≡ Done) ⊎ (status_of e ≡ NoMemory)
      each (Ok failed) same come = inl (ap (λ b. status_of (Ok b)) come.0)
      each (Err fault.Usage) same come = absurd come
      each (Err (fault.Refused why)) same come = absurd come
      each (Err (fault.Host host.Memory)) same come = inr refl
      each (Err (fault.Host host.Device)) same come = absurd (no_device same)
      each (Err fault.Sink) same come = absurd (no_output same)
