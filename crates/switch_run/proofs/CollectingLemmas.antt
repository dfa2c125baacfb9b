-- How a collection ends, at each place where it may.
use Rattle.std.proofs.Common.{◌≡◌, ◌≤◌, ◌++◌, ℕ, Bool, true, false, List, [], ◌∷◌, filter, map, not, Result, Ok, Err, IsErrOf, refl, sym, ap, subst, ◌∙◌, arith}
use Rattle.boot_entries.specs.Steps.{AreEntries}
use Rattle.dry_report.specs.Close.{closing}
use Rattle.dry_report.specs.Collecting.{collection_lines}
use Rattle.dry_report.proofs.PutLemmas.{puts_nothing, puts_then}
use Rattle.generations.specs.declared.gens.Gen.{Gen}
use Rattle.generations.specs.Places.{link_path}
use Rattle.host_trait.specs.Change.{IsSame}
use Rattle.host_trait.specs.declared.sink.SinkFault.{SinkFault}
use Rattle.host_trait.specs.declared.tree.HostFault.{HostFault}
use Rattle.host_trait.specs.declared.tree.HostFault.TheVariants.{Device, Memory}
use Rattle.host_trait.specs.Host.{HasCause, HasCauseOf, HostState, Leads, Passes, Told}
use Rattle.host_trait.specs.Reading.{IsReadingOf}
use Rattle.host_trait.specs.Sink.{HasSinkCause, IsPrefixOf, Puts, SinkState}
use Rattle.host_trait.specs.World.{WorldState}
use Rattle.host_trait.proofs.Causes.{cause_of, causes, started_of}
use Rattle.host_trait.proofs.Moments.{leads_as, leads_then, passes_as, same_then, started, told_as, told_before}
use Rattle.host_trait.proofs.Readings.{same_twice}
use Rattle.store_collect.specs.declared.collection.CollectFault.{CollectFault}
use Rattle.store_collect.specs.declared.collection.CollectFault.TheVariants as collect
use Rattle.store_collect.specs.declared.collection.CollectRefusal.TheVariants as why_not
use Rattle.store_collect.specs.declared.collection.Collection.{Collection}
use Rattle.store_collect.specs.Collection.{AreShortFor, IsCollectionOf, IsRefusedAt, IsTooLongFor}
use Rattle.store_collect.specs.Kept.{is_current_of, older}
use Rattle.store_collect.specs.Steps.{IsCollectedBy, IsCollecting}
use Rattle.store_collect.specs.Unfinished.{is_unfinished}
use Rattle.switch_names.specs.Names.{Name}
use Rattle.switch_parts.specs.declared.refusal.Refusal.TheVariants as refusals
use Rattle.switch_parts.specs.declared.refusal.What.TheVariants.{LeafBytes}
use Rattle.switch_run.specs.declared.run_fault.RunFault.{RunFault}
use Rattle.switch_run.specs.declared.run_fault.RunFault.TheVariants.{Usage, Refused, Host, Sink}
use Rattle.store_collect.specs.Again.{IsCollected}
use Rattle.switch_run.specs.Collecting.{IsCollectionMoment, IsCollectionReport, IsInCollectionClosing, IsInCollectionReport, IsWholeCollection, RefusesCollection}
use Rattle.switch_run.specs.CollectionEnding.{Allows, HasCollected, HasReportedCollection, IsCollectionBroken, IsCollectionRun, IsCollectionUnput}
use Rattle.switch_run.specs.Ending.{IsSinkCaused}
use Rattle.switch_run.specs.Output.{IsIdle}
use Rattle.switch_run.specs.Run.{collect_fault_of}
use Rattle.switch_run.proofs.EndingLemmas.{host_is, host_no_sink, memory_no_device, no_sink, ok_no_fault, refused_no_host, refused_no_sink, sink_as, sink_no_host, sink_then}

-- ---- the report

-- the links of some generations are those of their numbers
links_numbered : (list : List Gen) → map (λ (gen : Gen). link_path gen.number) list ≡ map link_path (map (λ (gen : Gen). gen.number) list)
links_numbered [] = refl
links_numbered (gen ∷ rest) = ap (λ (links : List Name). link_path gen.number ∷ links) (links_numbered rest)

pub report_is : (keep : ℕ) (w : WorldState) (collection : Collection) (text : List ℕ) → IsCollectionOf keep w collection →
    ((numbers : List ℕ) → collection.links ≡ map link_path numbers → text ≡ collection_lines numbers collection.names) → IsCollectionReport keep w text
report_is keep w collection text is lines =
    let gone = filter (λ (gen : Gen). not (is_current_of is.gens gen)) (older keep is.gens) in
    let numbers = map (λ (gen : Gen). gen.number) gone in
    let links = is.planned.links ∙ links_numbered gone in
    record { collection = collection; is_collection = is; numbers = numbers; links = links; is_text = lines numbers links }

-- ---- a collection isn't planned

still : {host after : HostState} (keep : ℕ) → Passes host after IsSame → Passes host after (IsCollectionMoment keep)
still keep same = passes_as same (IsCollectionMoment keep) (λ w m is unchanged. IsCollectionMoment.Unchanged unchanged)

module _ {host after : HostState} {sink : SinkState} (keep : ℕ) where
  idle : Passes host after IsSame → IsIdle host after sink sink
  idle same = record { unchanged = same; silent = puts_nothing sink (λ more. more ≡ []) refl }

  unrun : (y : RunFault) → HasCollected keep host after sink sink (Err y) → Passes host after IsSame → HasCauseOf host after (IsErrOf {T = Bool} (Err y) (Host Device)) → (IsErrOf {T = Bool} (Err y) Sink → ⊥) →
      IsCollectionRun keep host after sink sink (Err y)
  unrun y come same cause no_output = record { come = come; moments = still keep same; cause = cause; sink_cause = no_sink sink (IsErrOf {T = Bool} (Err y) Sink) no_output }

  pub unplanned : (f : CollectFault) →
      (IsErrOf {T = Collection} (Err f) (collect.Refused why_not.Unfinished) → Told host (λ w. is_unfinished w.leaves ≡ true)) →
      ((count : ℕ) → IsErrOf {T = Collection} (Err f) (collect.Refused (why_not.LeafBytes count)) → Told host (λ w. (is_unfinished w.leaves ≡ false) × IsTooLongFor keep w.leaves count)) →
      ((at : Name) → IsErrOf {T = Collection} (Err f) (collect.Refused (why_not.InTheWay at)) → Told host (λ w. (is_unfinished w.leaves ≡ false) × AreShortFor keep w.leaves)) →
      ((at : Name) → IsErrOf {T = Collection} (Err f) (collect.Refused (why_not.InTheWay at)) → Told host (λ w. IsRefusedAt keep w.leaves at)) →
      IsReadingOf host after (IsErrOf {T = Collection} (Err f) (collect.Host Device)) → IsCollectionRun keep host after sink sink (Err (collect_fault_of f))
  unplanned (collect.Refused why_not.Unfinished) unfinished too_long in_order in_the_way reads =
      unrun (Refused refusals.Unfinished) (record { refused = unfinished refl; idle = idle reads.moments }) reads.moments
      (causes (started_of ⊥ (λ none. none)) reads.cause (λ is. absurd (refused_no_host refusals.Unfinished is))) (refused_no_sink refusals.Unfinished)
  unplanned (collect.Refused (why_not.LeafBytes count)) unfinished too_long in_order in_the_way reads =
      unrun (Refused (refusals.TooMany LeafBytes count)) (record { refused = too_long count refl; idle = idle reads.moments }) reads.moments
      (causes (started_of ⊥ (λ none. none)) reads.cause (λ is. absurd (refused_no_host (refusals.TooMany LeafBytes count) is))) (refused_no_sink (refusals.TooMany LeafBytes count))
  unplanned (collect.Refused (why_not.InTheWay at)) unfinished too_long in_order in_the_way reads =
      unrun (Refused (refusals.InTheWay at))
      (record {
        refused = told_as (in_the_way at refl) (λ w. RefusesCollection keep w.leaves (refusals.InTheWay at)) (λ w is there. let before = (in_order at refl).has w is in (before.0, before.1, there));
        idle = idle reads.moments;
      })
      reads.moments (causes (started_of ⊥ (λ none. none)) reads.cause (λ is. absurd (refused_no_host (refusals.InTheWay at) is))) (refused_no_sink (refusals.InTheWay at))
  unplanned (collect.Host why) unfinished too_long in_order in_the_way reads =
      unrun (Host why) (IsCollectionBroken.BeforeReport (idle reads.moments)) reads.moments (causes (started_of ⊥ (λ none. none)) reads.cause (device why)) (host_no_sink why)
    where
      device : (why : HostFault) → IsErrOf {T = Bool} (Err (Host why)) (Host Device) → IsErrOf {T = Collection} (Err (collect.Host why)) (collect.Host Device)
      device why is = let same : why ≡ Device = cc in ap (λ f. Err (collect.Host f)) same

-- ---- what a planned collection does

module _ {host : HostState} (keep : ℕ) (collection : Collection) (planned : Told host (λ w. IsCollectionOf keep w collection)) (allowed : Allows keep host) {sink put : SinkState} where
  -- the report isn't put
  pub unreported : (y : RunFault) → HasReportedCollection collection sink put (Err y) → IsSinkCaused sink put (IsErrOf {T = Unit {0}} (Err y) Sink) → IsCollectionRun keep host host sink put (Err y)
  unreported Sink reported cause = record {
    come = IsCollectionUnput.InReport allowed (started IsSame (λ w is. refl)) (told_as planned (λ w. Puts sink put (IsInCollectionReport keep w)) (λ w is planned. reported keep w planned));
    moments = started (IsCollectionMoment keep) (λ w is. IsCollectionMoment.Unchanged refl);
    cause = started_of (IsErrOf {T = Bool} (Err Sink) (Host Device)) (sink_no_host Device);
    sink_cause = sink_as cause (IsErrOf {T = Bool} (Err Sink) Sink) (λ is. refl);
  }
  unreported (Host Memory) reported cause = record {
    come = IsCollectionBroken.BeforeReport (record { unchanged = started IsSame (λ w is. refl); silent = reported });
    moments = started (IsCollectionMoment keep) (λ w is. IsCollectionMoment.Unchanged refl);
    cause = started_of (IsErrOf {T = Bool} (Err (Host Memory)) (Host Device)) memory_no_device;
    sink_cause = sink_as cause (IsErrOf {T = Bool} (Err (Host Memory)) Sink) (λ is. absurd (host_no_sink Memory is));
  }
  unreported (Host Device) reported cause = absurd reported
  unreported (Refused why) reported cause = absurd reported
  unreported Usage reported cause = absurd reported

  module _ (reported : (keep : ℕ) (w : WorldState) → IsCollectionOf keep w collection → Puts sink put (IsCollectionReport keep w)) (put_cause : IsSinkCaused sink put ⊥) where
    report_put : Told host (λ w. Puts sink put (IsCollectionReport keep w))
    report_put = told_as planned (λ w. Puts sink put (IsCollectionReport keep w)) (λ w is planned. reported keep w planned)

    module _ {after : HostState} (entries : AreEntries collection.texts.entries) (moments : Passes host after (IsCollecting collection)) where
      run_moments : Passes host after (IsCollectionMoment keep)
      run_moments = passes_as moments (IsCollectionMoment keep) (λ w m is moment. IsCollectionMoment.Collecting collection (planned.has w is) entries moment)

      -- the host has failed under the collection
      pub uncarried : {T : Type 0} (f : HostFault) → HasCause {T = T} host after (Err f) → IsCollectionRun keep host after sink put (Err (Host f))
      uncarried f cause = record {
        come = IsCollectionBroken.AfterReport allowed report_put;
        moments = run_moments;
        cause = causes (started_of ⊥ (λ none. none)) (cause_of cause) (λ is. host_is f Device is);
        sink_cause = sink_as put_cause (IsErrOf {T = Bool} (Err (Host f)) Sink) (λ is. absurd (host_no_sink f is));
      }

      module _ (led : Leads host after (IsCollectedBy collection)) (cause : HasCauseOf host after ⊥) where
        led_to : Leads host after (IsCollected keep)
        led_to = leads_as led (IsCollected keep) (λ w v is end. record { collection = collection; planned = planned.has w is; end = end })

        -- the output has failed within the last line
        pub unclosed : {closed : SinkState} → Puts put closed (IsPrefixOf closing) → (f : SinkFault) → HasSinkCause {T = Unit {0}} put closed (Err f) → IsCollectionRun keep host after sink closed (Err Sink)
        unclosed {closed} part f sink_cause = record {
          come = IsCollectionUnput.InClosing allowed led_to (record {
            has = λ w is. puts_then (report_put.has w is) part (IsInCollectionClosing keep w) (λ first then report begun. record { report = first; rest = then; is_report = report; is_all = refl; begun = begun });
          });
          moments = run_moments;
          cause = causes (started_of ⊥ (λ none. none)) cause (λ is. sink_no_host Device is);
          sink_cause = sink_then put_cause sink_cause (IsErrOf {T = Bool} (Err Sink) Sink) (λ is. refl);
        }

        -- the collection has come to its end
        pub carried : {closed : SinkState} → Puts put closed (λ more. more ≡ closing) → put.faults ≤ closed.faults → IsCollectionRun keep host after sink closed (Ok false)
        carried {closed} whole later = record {
          come = (
            refl,
            record {
              allowed = allowed;
              led = led_to;
              output = record {
                has = λ w is. puts_then (report_put.has w is) whole (IsWholeCollection keep w)
                    (λ first then report is_then. record { report = first; is_report = report; is_all = ap (λ (t : List ℕ). first ++ t) is_then });
              };
            },
          );
          moments = run_moments;
          cause = causes (started_of ⊥ (λ none. none)) cause (λ is. ok_no_fault false (Host Device) is);
          sink_cause = let early = put_cause.later in record { later = omega arith; rose = λ is. absurd (ok_no_fault false Sink is) };
        }

-- ---- a collection after its plan

module _ {host before : HostState} {F : Type 0} (keep : ℕ) (reads : IsReadingOf host before F) where
  told : {P : WorldState → Type 0} → Told before P → Told host P
  told holds = told_before reads.moments holds

  module _ {after : HostState} where
    leads : Leads before after (IsCollected keep) → Leads host after (IsCollected keep)
    leads led = leads_then reads.moments.tells led (IsCollected keep) (λ w v u is is_v same end. subst (λ (x : WorldState). IsCollected keep x u) same end)

    module _ {sink put : SinkState} where
      idle_after : IsIdle before after sink put → IsIdle host after sink put
      idle_after nothing = record { unchanged = same_twice reads.moments nothing.unchanged; silent = nothing.silent }

      broken_after : IsCollectionBroken keep before after sink put → IsCollectionBroken keep host after sink put
      broken_after (IsCollectionBroken.BeforeReport nothing) = IsCollectionBroken.BeforeReport (idle_after nothing)
      broken_after (IsCollectionBroken.AfterReport none output) = IsCollectionBroken.AfterReport (told none) (told output)

      unput_after : IsCollectionUnput keep before after sink put → IsCollectionUnput keep host after sink put
      unput_after (IsCollectionUnput.InReport none same output) = IsCollectionUnput.InReport (told none) (same_twice reads.moments same) (told output)
      unput_after (IsCollectionUnput.InClosing none led output) = IsCollectionUnput.InClosing (told none) (leads led) (told output)

  module _ (after : HostState) (sink put : SinkState) where
    come_after : (ending : Result Bool RunFault) → HasCollected keep before after sink put ending → HasCollected keep host after sink put ending
    come_after (Ok failed) come = (come.0, record { allowed = told come.1.allowed; led = leads come.1.led; output = told come.1.output })
    come_after (Err (Refused why)) come = record { refused = told come.refused; idle = idle_after come.idle }
    come_after (Err (Host why)) come = broken_after come
    come_after (Err Sink) come = unput_after come
    come_after (Err Usage) come = absurd come

  pub run_after : {after : HostState} {sink put : SinkState} (ending : Result Bool RunFault) → IsCollectionRun keep before after sink put ending → IsCollectionRun keep host after sink put ending
  run_after {after} {sink} {put} ending is = record {
    come = come_after after sink put ending is.come;
    moments = same_then reads.moments is.moments (IsCollectionMoment keep) (λ w told. IsCollectionMoment.Unchanged refl) (λ w m told moment. moment);
    cause = causes reads.cause is.cause (λ fault. fault);
    sink_cause = is.sink_cause;
  }

-- a fault that is handed on
pub handed : {keep : ℕ} {host after : HostState} {sink put : SinkState} {r : Result Bool RunFault} (y x : RunFault) → r ≡ Err y → y ≡ x → IsCollectionRun keep host after sink put (Err x) →
    IsCollectionRun keep host after sink put r
handed {keep} {host} {after} {sink} {put} y x is same run = subst (λ (r : Result Bool RunFault). IsCollectionRun keep host after sink put r) (sym (is ∙ ap (λ f. Err f) same)) run
