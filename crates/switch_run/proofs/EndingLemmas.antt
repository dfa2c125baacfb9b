-- How a command ends, at each place where it may.
use Rattle.std.proofs.Common.{◌≡◌, ◌↔◌, ◌≤◌, ◌++◌, ◌&&◌, ℕ, Bool, true, false, cond, IsTrue, List, [], Option, None, Some, Result, Ok, Err, IsErr, IsErrOf, refl, sym, ap, subst, ◌∙◌, arith}
use Rattle.std.proofs.lemmas.List.{append-nil}
use Rattle.std.specs.FinMap.{get}
use Rattle.host_trait.specs.declared.sink.SinkFault.{SinkFault}
use Rattle.host_trait.specs.declared.tree.HostFault.{HostFault}
use Rattle.host_trait.specs.declared.tree.HostFault.TheVariants.{Device, Memory}
use Rattle.host_trait.specs.Change.{IsSame}
use Rattle.host_trait.specs.Host.{HasCause, HasCauseOf, HostState, Leads, Passes, Told}
use Rattle.host_trait.specs.Reading.{IsReadingOf}
use Rattle.host_trait.specs.Sink.{HasSinkCause, IsPrefixOf, Puts, SinkState}
use Rattle.host_trait.specs.States.{UnitStates}
use Rattle.host_trait.specs.World.{WorldState}
use Rattle.host_trait.proofs.Causes.{cause_of, causes, rose_then, started_of}
use Rattle.host_trait.proofs.Moments.{leads_then, passes_as, same_as, same_then, started, told_as, told_before}
use Rattle.host_trait.proofs.Readings.{same_twice}
use Rattle.switch_engine.specs.declared.command.Command.{Command}
use Rattle.switch_engine.specs.declared.plan.Plan.{Plan}
use Rattle.switch_engine.specs.Commands.{IsBoot, IsQuery, brought_to, if_so, new_system, row, switched_to}
use Rattle.switch_engine.specs.Final.{AreEntries, AreFinalUnits, IsEndOf, LeavesFailed, LeavesFailedAt}
use Rattle.switch_engine.specs.Moments as engine
use Rattle.switch_engine.specs.Owing.{Refuses}
use Rattle.switch_engine.specs.Plan.{IsPlanOf, units_of}
use Rattle.switch_engine.specs.Quiet.{IsQuietCommand, command_first, is_not_quiet}
use Rattle.switch_engine.specs.Rows.{final, part_of}
use Rattle.switch_engine.proofs.QuietLemmas.{quiet_none}
use Rattle.switch_parts.specs.declared.plan_fault.PlanFault.{PlanFault}
use Rattle.switch_parts.specs.declared.plan_fault.PlanFault.TheVariants as plan
use Rattle.switch_parts.specs.declared.refusal.Refusal.{Refusal}
use Rattle.switch_parts.specs.Part.{final_leaf}
use Rattle.tree_put.proofs.WrittenLemmas.{writes_none}
use Rattle.dry_report.specs.Close.{IsClosing, IsClosingBy, close_of, failed_in}
use Rattle.dry_report.specs.Report.{IsReport}
use Rattle.dry_report.proofs.LeftLemmas.{states_close}
use Rattle.dry_report.proofs.PutLemmas.{puts_as, puts_nothing, puts_then}
use Rattle.switch_run.specs.declared.run_fault.RunFault.{RunFault}
use Rattle.switch_run.specs.declared.run_fault.RunFault.TheVariants.{Usage, Refused, Host, Sink}
use Rattle.switch_run.specs.Ending.{HasCome, HasReported, IsEnding, IsSinkCaused}
use Rattle.switch_run.specs.Moments.{IsMomentFor}
use Rattle.switch_run.specs.Output.{IsBrokenOff, IsFailedOutput, IsIdle, IsInClosing, IsInReport, IsWhole}
use Rattle.switch_run.specs.Output.IsBrokenOff.{AfterReport, BeforeReport}
use Rattle.switch_run.specs.Output.IsFailedOutput.{InClosing, InReport}
use Rattle.switch_run.specs.Run.{fault_of}
use Rattle.switch_run.proofs.MomentLemmas.{begins, of_command}

-- ---- which fault an ending has, and which it hasn't

pub ok_no_fault : {T : Type 0} (x : T) (y : RunFault) → IsErrOf {T = T} (Ok x) y → ⊥
ok_no_fault x y is = cc

pub sink_no_host : {T : Type 0} (f : HostFault) → IsErrOf {T = T} (Err Sink) (Host f) → ⊥
sink_no_host f is = cc

pub host_no_sink : {T : Type 0} (f : HostFault) → IsErrOf {T = T} (Err (Host f)) Sink → ⊥
host_no_sink f is = cc

pub memory_no_device : {T : Type 0} → IsErrOf {T = T} (Err (Host Memory)) (Host Device) → ⊥
memory_no_device is = cc

pub host_is : {T U : Type 0} (f why : HostFault) → IsErrOf {T = T} (Err (Host f)) (Host why) → IsErrOf {T = U} (Err f) why
host_is f why is = let same : f ≡ why = cc in ap (λ f. Err f) same

pub refused_no_host : {T : Type 0} (why : Refusal) → IsErrOf {T = T} (Err (Refused why)) (Host Device) → ⊥
refused_no_host why is = cc

pub refused_no_sink : {T : Type 0} (why : Refusal) → IsErrOf {T = T} (Err (Refused why)) Sink → ⊥
refused_no_sink why is = cc

plan_host : {T U : Type 0} (why : HostFault) → IsErrOf {T = T} (Err (Host why)) (Host Device) → IsErrOf {T = U} (Err (plan.Host why)) (plan.Host Device)
plan_host why is = let same : why ≡ Device = cc in ap (λ f. Err (plan.Host f)) same

-- ---- causes of faults of the output

-- no fault without a put
pub no_sink : (a : SinkState) (F : Type 0) → (F → ⊥) → IsSinkCaused a a F
no_sink a F none = record { later = omega arith; rose = λ is. absurd (none is) }

module _ {a b : SinkState} where
  pub sink_as : {F : Type 0} → IsSinkCaused a b F → (G : Type 0) → (G → F) → IsSinkCaused a b G
  sink_as cause G from = record { later = cause.later; rose = λ is. cause.rose (from is) }

  -- a fault of a later put has its cause since the beginning
  pub sink_then : {c : SinkState} {F T : Type 0} {r : Result T SinkFault} → IsSinkCaused a b F → HasSinkCause b c r → (G : Type 0) → (G → IsErr r) → IsSinkCaused a c G
  sink_then {c} first then G was =
      let early = first.later in let late = then.later in
      record { later = omega arith; rose = λ is. rose_then a.faults b.faults c.faults early (then.rose (was is)) }

-- ---- whether a command is a query

pub querying : {command same : Command} {b : Bool} → (IsTrue b ↔ IsQuery command) → command ≡ same → b ≡ true → IsQuery same
querying tells is holds = subst IsQuery is (tells.0 holds)

pub changing : {command same : Command} {b : Bool} → (IsTrue b ↔ IsQuery command) → command ≡ same → b ≡ false → IsQuery same → ⊥
changing {b = b} tells is other query = let holds : b ≡ true = tells.1 (subst IsQuery (sym is) query) in cc

-- a call that went well has no fault
pub without_fault : {a b : HostState} {T : Type 0} {r : Result T HostFault} → HasCause a b r → HasCauseOf a b ⊥
without_fault cause = causes (started_of ⊥ (λ none. none)) (cause_of cause) (λ none. absurd none)

-- a fault that is handed on
pub handed : {given : Option Command} {host after : HostState} {sink put : SinkState} {r : Result Bool RunFault} (y x : RunFault) → r ≡ Err y → y ≡ x → IsEnding given host after sink put (Err x) →
    IsEnding given host after sink put r
handed {given} {host} {after} {sink} {put} y x is same ending = subst (λ (r : Result Bool RunFault). IsEnding given host after sink put r) (sym (is ∙ ap (λ f. Err f) same)) ending

-- ---- a run that does nothing

module _ {host : HostState} {sink : SinkState} where
  idle : IsIdle host host sink sink
  idle = record { unchanged = started IsSame (λ w is. refl); silent = puts_nothing sink (λ more. more ≡ []) refl }

  nothing_done : (given : Option Command) (y : RunFault) → HasCome given host host sink sink (Err y) → (IsErrOf {T = Bool} (Err y) (Host Device) → ⊥) → (IsErrOf {T = Bool} (Err y) Sink → ⊥) →
      IsEnding given host host sink sink (Err y)
  nothing_done given y come no_device no_output = record {
    come = come;
    moments = started (IsMomentFor given) (λ w is. begins given w);
    cause = started_of (IsErrOf (Err y) (Host Device)) no_device;
    sink_cause = no_sink sink (IsErrOf (Err y) Sink) no_output;
  }

  -- the words give no command
  pub no_command : IsEnding None host host sink sink (Err Usage)
  no_command = nothing_done None Usage idle (λ is. cc) (λ is. cc)

-- ---- a plan isn't made

module _ {host after : HostState} {sink : SinkState} (command : Command) where
  read_idle : Passes host after IsSame → IsIdle host after sink sink
  read_idle same = record { unchanged = same; silent = puts_nothing sink (λ more. more ≡ []) refl }

  pub unplanned : (f : PlanFault) → ((why : Refusal) → IsErrOf {T = Plan} (Err f) (plan.Refused why) → Told host (λ w. Refuses command w (Some why))) →
      IsReadingOf host after (IsErrOf {T = Plan} (Err f) (plan.Host Device)) → IsEnding (Some command) host after sink sink (Err (fault_of f))
  unplanned (plan.Refused why) refused reads = record {
    come = record { refused = refused why refl; idle = read_idle reads.moments };
    moments = same_as reads.moments (IsMomentFor (Some command)) (λ w is. begins (Some command) w);
    cause = causes (started_of ⊥ (λ none. none)) reads.cause (λ is. absurd (refused_no_host why is));
    sink_cause = no_sink sink (IsErrOf {T = Bool} (Err (Refused why)) Sink) (refused_no_sink why);
  }
  unplanned (plan.Host why) refused reads = record {
    come = BeforeReport (read_idle reads.moments);
    moments = same_as reads.moments (IsMomentFor (Some command)) (λ w is. begins (Some command) w);
    cause = causes (started_of ⊥ (λ none. none)) reads.cause (plan_host why);
    sink_cause = no_sink sink (IsErrOf {T = Bool} (Err (Host why)) Sink) (host_no_sink why);
  }

-- ---- what a planned command does

module _ {host : HostState} (plan : Plan) (planned : Told host (λ w. IsPlanOf w plan)) where
  not_refused : Told host (λ w. Refuses plan.command w None)
  not_refused = told_as planned (λ w. Refuses plan.command w None) (λ w is planned. planned.not_refused)

  module _ {sink put : SinkState} where
    -- the report isn't put
    pub unreported : (y : RunFault) → HasReported plan sink put (Err y) → IsSinkCaused sink put (IsErrOf {T = Unit {0}} (Err y) Sink) → IsEnding (Some plan.command) host host sink put (Err y)
    unreported Sink reported cause = record {
      come = record {
        not_refused = not_refused;
        output = InReport (started IsSame (λ w is. refl)) (told_as planned (λ w. Puts sink put (IsInReport plan.command w)) (λ w is planned. reported w planned));
      };
      moments = started (IsMomentFor (Some plan.command)) (λ w is. begins (Some plan.command) w);
      cause = started_of (IsErrOf {T = Bool} (Err Sink) (Host Device)) (sink_no_host Device);
      sink_cause = sink_as cause (IsErrOf {T = Bool} (Err Sink) Sink) (λ is. refl);
    }
    unreported (Host Memory) reported cause = record {
      come = BeforeReport (record { unchanged = started IsSame (λ w is. refl); silent = reported });
      moments = started (IsMomentFor (Some plan.command)) (λ w is. begins (Some plan.command) w);
      cause = started_of (IsErrOf {T = Bool} (Err (Host Memory)) (Host Device)) memory_no_device;
      sink_cause = sink_as cause (IsErrOf {T = Bool} (Err (Host Memory)) Sink) (λ is. absurd (host_no_sink Memory is));
    }
    unreported (Host Device) reported cause = absurd reported
    unreported (Refused why) reported cause = absurd reported
    unreported Usage reported cause = absurd reported

    module _ (reported : (w : WorldState) → IsPlanOf w plan → Puts sink put (IsReport plan.command w)) (put_cause : IsSinkCaused sink put ⊥) where
      report_put : Told host (λ w. Puts sink put (IsReport plan.command w))
      report_put = told_as planned (λ w. Puts sink put (IsReport plan.command w)) (λ w is planned. reported w planned)

      -- a query has put its report, and is done
      pub queried : IsQuery plan.command → IsEnding (Some plan.command) host host sink put (Ok false)
      queried query = record {
        come = record {
          not_refused = not_refused;
          led = record { to = λ w is. (w, is, query_end plan.command query w) };
          quiet = record { to = λ w is. (w, is, quiet_none (command_first plan.command) (final plan.command) w w (writes_none is_not_quiet w w refl)) };
          verdict = record { has = λ w is. (λ never. absurd cc, λ left. absurd (query_fails plan.command query w left)) };
          output = told_as report_put (λ w. Puts sink put (IsWhole plan.command w)) (λ w is put. puts_as put (IsWhole plan.command w) (λ more report. query_whole plan.command query w more report));
        };
        moments = started (IsMomentFor (Some plan.command)) (λ w is. begins (Some plan.command) w);
        cause = started_of (IsErrOf {T = Bool} (Ok false) (Host Device)) (ok_no_fault false (Host Device));
        sink_cause = sink_as put_cause (IsErrOf {T = Bool} (Ok false) Sink) (ok_no_fault false Sink);
      }
        where
          query_end : (command : Command) → IsQuery command → (w : WorldState) → IsEndOf command w w
          query_end command query w =
              let none : None ≡ brought_to command w.leaves = sym (ap (λ b. if_so (b && (row command w.leaves).switches) (new_system command w.leaves)) (query w.leaves)) in
              record {
                final = record {
                  leaves = λ q other. sym (ap (λ b. cond b (final_leaf (part_of command w.leaves) w.leaves q) (get w.leaves q)) (query w.leaves));
                  units = subst (λ to. AreFinalUnits (row command w.leaves).start_up to w w) none (refl, refl);
                  bad = refl;
                };
                entries = [];
                are_entered = subst (λ to. AreEntries (row command w.leaves).start_up to w []) none refl;
                journal = sym (append-nil w.manager.journal);
              }

          query_fails : (command : Command) → IsQuery command → (w : WorldState) → LeavesFailed command w → ⊥
          query_fails command query w left = subst (λ b. LeavesFailedAt (row command w.leaves).start_up (if_so (b && (row command w.leaves).switches) (new_system command w.leaves)) w) (query w.leaves) left

          query_whole : (command : Command) → IsQuery command → (w : WorldState) (more : List ℕ) → IsReport command w more → IsWhole command w more
          query_whole command query w more report = record {
            report = more;
            close = [];
            is_report = report;
            is_close = subst (λ b. IsClosingBy (row command w.leaves).start_up b (switched_to command w.leaves) w []) (sym (query w.leaves)) refl;
            is_all = sym (append-nil more);
          }

      module _ {after : HostState} (changes : IsQuery plan.command → ⊥) (moments : Passes host after (engine.IsMomentOf plan.command)) where
        run_moments : Passes host after (IsMomentFor (Some plan.command))
        run_moments = passes_as moments (IsMomentFor (Some plan.command)) (λ w m is moment. of_command plan.command w m (not_refused.has w is) moment)

        -- the host has failed under the command
        pub uncarried : {T : Type 0} (f : HostFault) → HasCause {T = T} host after (Err f) → IsEnding (Some plan.command) host after sink put (Err (Host f))
        uncarried f cause = record {
          come = AfterReport changes not_refused report_put;
          moments = run_moments;
          cause = causes (started_of ⊥ (λ none. none)) (cause_of cause) (λ is. host_is f Device is);
          sink_cause = sink_as put_cause (IsErrOf {T = Bool} (Err (Host f)) Sink) (λ is. absurd (host_no_sink f is));
        }

        module _ (led : Leads host after (IsEndOf plan.command)) (states : UnitStates) (told : (IsBoot plan.command → ⊥) → Told after (λ v. states ≡ v.manager.states)) where
          abbrev text : List ℕ
          text = close_of (failed_in (units_of plan).defs states)

          closing_is : Told host (λ w. IsClosing plan.command w text)
          closing_is = told_as planned (λ w. IsClosing plan.command w text)
              (λ w is plan_is. let there = led.to w is in states_close plan states w there.0 plan_is changes there.2.final (λ no_boot. (told no_boot).has there.0 there.1))

          module _ {closed : SinkState} where
            -- the output has failed within the closing text
            pub unclosed : Puts put closed (IsPrefixOf text) → (f : SinkFault) → HasSinkCause {T = Unit {0}} put closed (Err f) → HasCauseOf host after ⊥ →
                IsEnding (Some plan.command) host after sink closed (Err Sink)
            unclosed part f sink_cause cause = record {
              come = record {
                not_refused = not_refused;
                output = InClosing led (record {
                  has = λ w is. puts_then (report_put.has w is) part (IsInClosing plan.command w) (λ first then report begun. record {
                    report = first;
                    close = text;
                    rest = then;
                    is_report = report;
                    is_close = closing_is.has w is;
                    is_all = refl;
                    begun = begun;
                  });
                });
              };
              moments = run_moments;
              cause = causes (started_of ⊥ (λ none. none)) cause (λ is. sink_no_host Device is);
              sink_cause = sink_then put_cause sink_cause (IsErrOf {T = Bool} (Err Sink) Sink) (λ is. refl);
            }

            -- the command has come to its end
            pub carried : Leads host after (IsQuietCommand plan.command) → (failed : Bool) → Told host (λ w. IsTrue failed ↔ LeavesFailed plan.command w) → Puts put closed (λ more. more ≡ text) → put.faults ≤ closed.faults → HasCauseOf host after ⊥ →
                IsEnding (Some plan.command) host after sink closed (Ok failed)
            carried quiet failed verdict whole later cause = record {
              come = record {
                not_refused = not_refused;
                led = led;
                quiet = quiet;
                verdict = verdict;
                output = record {
                  has = λ w is. puts_then (report_put.has w is) whole (IsWhole plan.command w) (λ first then report is_then. record {
                    report = first;
                    close = text;
                    is_report = report;
                    is_close = closing_is.has w is;
                    is_all = ap (λ (t : List ℕ). first ++ t) is_then;
                  });
                };
              };
              moments = run_moments;
              cause = causes (started_of ⊥ (λ none. none)) cause (λ is. ok_no_fault failed (Host Device) is);
              sink_cause = let early = put_cause.later in record { later = omega arith; rose = λ is. absurd (ok_no_fault failed Sink is) };
            }

-- ---- a command after its plan

module _ {host before : HostState} {F : Type 0} (command : Command) (reads : IsReadingOf host before F) where
  told : {P : WorldState → Type 0} → Told before P → Told host P
  told holds = told_before reads.moments holds

  module _ {after : HostState} where
    same_passes : Passes before after IsSame → Passes host after IsSame
    same_passes same = same_twice reads.moments same

    leads : Leads before after (IsEndOf command) → Leads host after (IsEndOf command)
    leads led = leads_then reads.moments.tells led (IsEndOf command) (λ w v u is is_v same end. subst (λ (x : WorldState). IsEndOf command x u) same end)

    quietly : Leads before after (IsQuietCommand command) → Leads host after (IsQuietCommand command)
    quietly led = leads_then reads.moments.tells led (IsQuietCommand command) (λ w v u is is_v same quiet. subst (λ (x : WorldState). IsQuietCommand command x u) same quiet)

    module _ {sink put : SinkState} where
      idle_after : IsIdle before after sink put → IsIdle host after sink put
      idle_after nothing = record { unchanged = same_passes nothing.unchanged; silent = nothing.silent }

      broken_after : IsBrokenOff command before after sink put → IsBrokenOff command host after sink put
      broken_after (BeforeReport nothing) = BeforeReport (idle_after nothing)
      broken_after (AfterReport changes none output) = AfterReport changes (told none) (told output)

      failed_after : IsFailedOutput command before after sink put → IsFailedOutput command host after sink put
      failed_after (InReport same output) = InReport (same_passes same) (told output)
      failed_after (InClosing led output) = InClosing (leads led) (told output)

  module _ (after : HostState) (sink put : SinkState) where
    come_after : (ending : Result Bool RunFault) → HasCome (Some command) before after sink put ending → HasCome (Some command) host after sink put ending
    come_after (Ok failed) come = record { not_refused = told come.not_refused; led = leads come.led; quiet = quietly come.quiet; verdict = told come.verdict; output = told come.output }
    come_after (Err (Refused why)) come = record { refused = told come.refused; idle = idle_after come.idle }
    come_after (Err (Host why)) come = broken_after come
    come_after (Err Sink) come = record { not_refused = told come.not_refused; output = failed_after come.output }
    come_after (Err Usage) come = absurd come

  pub ending_after : {after : HostState} {sink put : SinkState} (ending : Result Bool RunFault) → IsEnding (Some command) before after sink put ending → IsEnding (Some command) host after sink put ending
  ending_after {after} {sink} {put} ending is = record {
    come = come_after after sink put ending is.come;
    moments = same_then reads.moments is.moments (IsMomentFor (Some command)) (λ w told. begins (Some command) w) (λ w m told moment. moment);
    cause = causes reads.cause is.cause (λ fault. fault);
    sink_cause = is.sink_cause;
  }
