-- From how a run ended to its status, and what that tells.
use Rattle.std.proofs.Common.{◌≡◌, ◌⊎◌, ◌↔◌, ◌++◌, ℕ, Bool, true, false, IsTrue, List, [], Option, None, Some, Result, Ok, Err, refl, sym, ap, subst, ◌∙◌, inl, inr, ⊎_elim}
use Rattle.std.proofs.lemmas.List.{append-nil}
use Rattle.host_trait.specs.declared.tree.HostFault.TheVariants as host
use Rattle.host_trait.specs.Change.{IsSame}
use Rattle.host_trait.specs.Host.{HostState, Leads, Passes, Rose, Told}
use Rattle.host_trait.specs.Sink.{Puts, SinkState}
use Rattle.host_trait.specs.World.{Leaves, WorldState}
use Rattle.host_trait.proofs.Moments.{passes_as, told_as, none_not_some}
use Rattle.switch_engine.specs.declared.command.Command.{Command}
use Rattle.switch_engine.specs.declared.command.Command.TheVariants.{Test, DryActivate}
use Rattle.switch_engine.specs.Commands.{IsQuery, lacks_system, new_system}
use Rattle.switch_engine.specs.Final.{IsEndOf}
use Rattle.switch_engine.specs.Owing.{Refuses}
use Rattle.switch_engine.specs.Reboot.{BootsOldOrNew}
use Rattle.switch_engine.specs.Quiet.{IsQuietCommand}
use Rattle.switch_engine.proofs.RefusesLemmas.{one_refusal_law}
use Rattle.switch_names.specs.SystemName.{IsSystemPath}
use Rattle.switch_parts.specs.declared.refusal.Refusal.{Refusal}
use Rattle.dry_report.specs.Report.{IsReport, KeepsReport}
use Rattle.dry_report.proofs.PutLemmas.{puts_as}
use Rattle.dry_report.proofs.ReportLemmas.{one_told}
use Rattle.switch_run.specs.declared.run_fault.RunFault.{RunFault}
use Rattle.switch_run.specs.declared.run_fault.RunFault.TheVariants as fault
use Rattle.switch_run.specs.declared.status.Status.{Status}
use Rattle.switch_run.specs.declared.status.Status.TheVariants.{Done, Usage, Refused, HostFault, SinkFault, NoMemory}
use Rattle.switch_run.specs.Ending.{HasCome, IsDone, IsEnding}
use Rattle.switch_run.specs.Moments.{IsMomentFor}
use Rattle.switch_run.specs.Output.{IsBrokenOff, IsFailedOutput, IsIdle, IsPutFirst, IsWhole}
use Rattle.switch_run.specs.Output.IsBrokenOff.{AfterReport, BeforeReport}
use Rattle.switch_run.specs.Run.{Answers, IsAnswerTo, IsBroken, IsEnded, IsVerdict, status_of}
use Rattle.switch_run.proofs.MomentLemmas.{boots_of, of_query, of_report}

-- ---- which ending has a status

usage_of : (ending : Result Bool RunFault) → status_of ending ≡ Usage → ending ≡ Err fault.Usage
usage_of (Ok true) is = absurd cc
usage_of (Ok false) is = absurd cc
usage_of (Err fault.Usage) is = refl
usage_of (Err (fault.Refused why)) is = absurd cc
usage_of (Err (fault.Host host.Memory)) is = absurd cc
usage_of (Err (fault.Host host.Device)) is = absurd cc
usage_of (Err fault.Sink) is = absurd cc

refused_of : (ending : Result Bool RunFault) (why : Refusal) → status_of ending ≡ Refused why → ending ≡ Err (fault.Refused why)
refused_of (Ok true) why is = absurd cc
refused_of (Ok false) why is = absurd cc
refused_of (Err fault.Usage) why is = absurd cc
refused_of (Err (fault.Refused other)) why is = let same : other ≡ why = cc in ap (λ w. Err (fault.Refused w)) same
refused_of (Err (fault.Host host.Memory)) why is = absurd cc
refused_of (Err (fault.Host host.Device)) why is = absurd cc
refused_of (Err fault.Sink) why is = absurd cc

pub host_of : (ending : Result Bool RunFault) → status_of ending ≡ HostFault → ending ≡ Err (fault.Host host.Device)
host_of (Ok true) is = absurd cc
host_of (Ok false) is = absurd cc
host_of (Err fault.Usage) is = absurd cc
host_of (Err (fault.Refused why)) is = absurd cc
host_of (Err (fault.Host host.Memory)) is = absurd cc
host_of (Err (fault.Host host.Device)) is = refl
host_of (Err fault.Sink) is = absurd cc

pub sink_of : (ending : Result Bool RunFault) → status_of ending ≡ SinkFault → ending ≡ Err fault.Sink
sink_of (Ok true) is = absurd cc
sink_of (Ok false) is = absurd cc
sink_of (Err fault.Usage) is = absurd cc
sink_of (Err (fault.Refused why)) is = absurd cc
sink_of (Err (fault.Host host.Memory)) is = absurd cc
sink_of (Err (fault.Host host.Device)) is = absurd cc
sink_of (Err fault.Sink) is = refl

broken_of : (ending : Result Bool RunFault) → IsBroken (status_of ending) → (why : Rattle.host_trait.specs.declared.tree.HostFault.HostFault) × (ending ≡ Err (fault.Host why))
broken_of (Ok true) is = absurd is
broken_of (Ok false) is = absurd is
broken_of (Err fault.Usage) is = absurd is
broken_of (Err (fault.Refused why)) is = absurd is
broken_of (Err (fault.Host host.Memory)) is = (host.Memory, refl)
broken_of (Err (fault.Host host.Device)) is = (host.Device, refl)
broken_of (Err fault.Sink) is = absurd is

done_of : (ending : Result Bool RunFault) → IsEnded (status_of ending) → (failed : Bool) × (ending ≡ Ok failed)
done_of (Ok failed) is = (failed, refl)
done_of (Err fault.Usage) is = absurd is
done_of (Err (fault.Refused why)) is = absurd is
done_of (Err (fault.Host host.Memory)) is = absurd is
done_of (Err (fault.Host host.Device)) is = absurd is
done_of (Err fault.Sink) is = absurd is

verdict_of : (command : Command) (w : WorldState) (failed : Bool) → (IsTrue failed ↔ Rattle.switch_engine.specs.Final.LeavesFailed command w) → IsVerdict command w (status_of (Ok failed))
verdict_of command w true tells = tells.0 refl
verdict_of command w false tells = λ left. let never : false ≡ true = tells.1 left in cc

-- ---- what its status tells of a run

module _ {host_state after : HostState} {sink put : SinkState} (given : Option Command) (ending : Result Bool RunFault) (is : IsEnding given host_state after sink put ending)
    (status : Status) (tells : status ≡ status_of ending) where
  abbrev Come : Option Command → Result Bool RunFault → Type 0
  Come given ending = HasCome given host_state after sink put ending

  come_as : (other : Option Command) (to : Result Bool RunFault) → given ≡ other → ending ≡ to → Come other to
  come_as other to same ended = subst (λ (g : Option Command). Come g to) same (subst (λ (e : Result Bool RunFault). Come given e) ended is.come)

  pub usage : status ≡ Usage → given ≡ None
  usage s = by given refl
    where
      by : (g : Option Command) → given ≡ g → given ≡ None
      by None none = none
      by (Some command) some = absurd (come_as (Some command) (Err fault.Usage) some (usage_of ending (sym tells ∙ s)))

  -- without a command
  without : (e : Result Bool RunFault) → Come None e → IsIdle host_state after sink put × ((status_of e ≡ Usage) ⊎ (status_of e ≡ NoMemory))
  without (Ok failed) come = absurd come
  without (Err fault.Usage) come = (come, inl refl)
  without (Err (fault.Refused why)) come = absurd come
  without (Err (fault.Host host.Memory)) come = (come, inr refl)
  without (Err (fault.Host host.Device)) come = absurd come
  without (Err fault.Sink) come = absurd come

  pub no_command : given ≡ None → (status ≡ Usage) ⊎ (status ≡ NoMemory)
  no_command none = ⊎_elim (λ s. inl (tells ∙ s)) (λ s. inr (tells ∙ s)) (without ending (come_as None ending none refl)).1

  pub usage_output : given ≡ None → Puts sink put (λ more. more ≡ [])
  usage_output none = (without ending (come_as None ending none refl)).0.silent

  pub refused : (why : Refusal) → status ≡ Refused why → (command : Command) → given ≡ Some command → Told host_state (λ w. Refuses command w (Some why))
  refused why s command some = (come_as (Some command) (Err (fault.Refused why)) some (refused_of ending why (sym tells ∙ s))).refused

  pub refused_output : (why : Refusal) → status ≡ Refused why → Puts sink put (λ more. more ≡ [])
  refused_output why s = by given refl
    where
      by : (g : Option Command) → given ≡ g → Puts sink put (λ more. more ≡ [])
      by None none = absurd (come_as None (Err (fault.Refused why)) none (refused_of ending why (sym tells ∙ s)))
      by (Some command) some = (come_as (Some command) (Err (fault.Refused why)) some (refused_of ending why (sym tells ∙ s))).idle.silent

  one_or_other : (command : Command) (w : WorldState) (why : Refusal) → Refuses command w None → Refuses command w (Some why) → ⊥
  one_or_other command w why none refused = none_not_some (Some why) why (one_refusal_law command w (Some why) None refused none) refl

  -- where the world refuses the command
  in_refused : (command : Command) (w : WorldState) (why : Refusal) → host_state.world ≡ Some w → Refuses command w (Some why) → (e : Result Bool RunFault) → Come (Some command) e → IsIdle host_state after sink put
  in_refused command w why told because (Ok failed) come = absurd (one_or_other command w why (come.not_refused.has w told) because)
  in_refused command w why told because (Err fault.Usage) come = absurd come
  in_refused command w why told because (Err (fault.Refused other)) come = come.idle
  in_refused command w why told because (Err (fault.Host cause)) come = by come
    where
      by : IsBrokenOff command host_state after sink put → IsIdle host_state after sink put
      by (BeforeReport idle) = idle
      by (AfterReport changes none output) = absurd (one_or_other command w why (none.has w told) because)
  in_refused command w why told because (Err fault.Sink) come = absurd (one_or_other command w why (come.not_refused.has w told) because)

  pub refused_world : (command : Command) (why : Refusal) → given ≡ Some command → Told host_state (λ w. Refuses command w (Some why) → IsIdle host_state after sink put)
  refused_world command why some = record { has = λ w told because. in_refused command w why told because ending (come_as (Some command) ending some refl) }

  done : IsEnded status → (command : Command) → given ≡ Some command → (failed : Bool) × (ending ≡ Ok failed) × IsDone command host_state after sink put failed
  done s command some = let it = done_of ending (subst IsEnded tells s) in (it.0, it.1, come_as (Some command) (Ok it.0) some it.1)

  pub ended : IsEnded status → (command : Command) → given ≡ Some command → Leads host_state after (IsEndOf command)
  ended s command some = (done s command some).2.led

  pub quiet : IsEnded status → (command : Command) → given ≡ Some command → Leads host_state after (IsQuietCommand command)
  quiet s command some = (done s command some).2.quiet

  pub verdict : IsEnded status → (command : Command) → given ≡ Some command → Told host_state (λ w. IsVerdict command w status)
  verdict s command some =
      let it = done s command some in
      told_as it.2.verdict (λ w. IsVerdict command w status)
      (λ w told says. subst (λ (s : Status). IsVerdict command w s) (ap status_of (sym it.1) ∙ sym tells) (verdict_of command w it.0 says))

  pub ended_not_refused : IsEnded status → (command : Command) → given ≡ Some command → Told host_state (λ w. Refuses command w None)
  ended_not_refused s command some = (done s command some).2.not_refused

  pub output : IsEnded status → (command : Command) → given ≡ Some command → Told host_state (λ w. Puts sink put (IsWhole command w))
  output s command some = (done s command some).2.output

  pub put_first : (system : List ℕ) → given ≡ Some (DryActivate system) → status ≡ Done → Told host_state (λ w. Puts sink put (IsPutFirst (Test system) w))
  put_first system some s =
      told_as (output (subst IsEnded (sym s) tt) (DryActivate system) some) (λ w. Puts sink put (IsPutFirst (Test system) w))
      (λ w told put. puts_as put (IsPutFirst (Test system) w) (λ more whole. first_of w more whole))
    where
      first_of : (w : WorldState) (more : List ℕ) → IsWhole (DryActivate system) w more → IsPutFirst (Test system) w more
      first_of w more dry =
          let all : more ≡ dry.report = dry.is_all ∙ ap (λ close. dry.report ++ close) dry.is_close ∙ append-nil dry.report in (
            subst (IsReport (Test system) w) (sym all) dry.is_report,
            λ whole test. (test.close, test.is_all ∙ ap (λ report. report ++ test.close) (one_told (Test system) w test.report dry.report test.is_report dry.is_report ∙ sym all)),
          )

  pub queries : (command : Command) → given ≡ Some command → IsQuery command → Passes host_state after IsSame
  queries command some query =
      passes_as is.moments IsSame (λ w m told moment. of_query command w m query (subst (λ (g : Option Command). IsMomentFor g w m) some moment))

  pub same_report : (command : Command) → ((leaves : Leaves) → lacks_system command leaves ≡ false → IsSystemPath (new_system command leaves)) → given ≡ Some command → Passes host_state after (KeepsReport command)
  same_report command named some =
      passes_as is.moments (KeepsReport command) (λ w m told moment. of_report command w m (named w.leaves) (subst (λ (g : Option Command). IsMomentFor g w m) some moment))

  pub boots : (command : Command) → given ≡ Some command → Passes host_state after (BootsOldOrNew command)
  boots command some =
      passes_as is.moments (BootsOldOrNew command) (λ w m told moment. boots_of command w m (subst (λ (g : Option Command). IsMomentFor g w m) some moment))

  pub broken_off : IsBroken status → (command : Command) → given ≡ Some command → IsBrokenOff command host_state after sink put
  broken_off s command some = let it = broken_of ending (subst IsBroken tells s) in come_as (Some command) (Err (fault.Host it.0)) some it.1

  pub failed_output : status ≡ SinkFault → (command : Command) → given ≡ Some command → IsFailedOutput command host_state after sink put
  failed_output s command some = (come_as (Some command) (Err fault.Sink) some (sink_of ending (sym tells ∙ s))).output

  pub sink_not_refused : status ≡ SinkFault → (command : Command) → given ≡ Some command → Told host_state (λ w. Refuses command w None)
  sink_not_refused s command some = (come_as (Some command) (Err fault.Sink) some (sink_of ending (sym tells ∙ s))).not_refused

  no_memory : (o : Option Refusal) (command : Command) (w : WorldState) → IsAnswerTo o command w NoMemory
  no_memory None command w = inr refl
  no_memory (Some why) command w = inr refl

  answer : (command : Command) (w : WorldState) → host_state.world ≡ Some w → (e : Result Bool RunFault) → (e ≡ Err (fault.Host host.Device) → ⊥) → (e ≡ Err fault.Sink → ⊥) → Come (Some command) e → Answers command w (status_of e)
  answer command w told (Ok failed) no_host no_sink come =
      λ why is. subst (λ (o : Option Refusal). IsAnswerTo o command w (status_of (Ok failed))) (one_refusal_law command w None why (come.not_refused.has w told) is) (inl (verdict_of command w failed (come.verdict.has w told)))
  answer command w told (Err fault.Usage) no_host no_sink come = absurd come
  answer command w told (Err (fault.Refused why)) no_host no_sink come =
      λ other is. subst (λ (o : Option Refusal). IsAnswerTo o command w (Refused why)) (one_refusal_law command w (Some why) other (come.refused.has w told) is) (inl refl)
  answer command w told (Err (fault.Host host.Memory)) no_host no_sink come = λ why is. no_memory why command w
  answer command w told (Err (fault.Host host.Device)) no_host no_sink come = absurd (no_host refl)
  answer command w told (Err fault.Sink) no_host no_sink come = absurd (no_sink refl)

  pub completes : ¬ Rose host_state.faults after.faults → ¬ Rose sink.faults put.faults → (command : Command) → given ≡ Some command → Told host_state (λ w. Answers command w status)
  completes no_host no_sink command some = record {
    has = λ w told. subst (λ (s : Status). Answers command w s) (sym tells) (answer command w told ending (λ e. no_host (is.cause.rose e)) (λ e. no_sink (is.sink_cause.rose e)) (come_as (Some command) ending some refl));
  }
