-- What words ask for, and how a run of them ends.
use Rattle.std.proofs.Common.{◌≡◌, ◌⊎◌, ◌<◌, ◌^◌, ℕ, Bool, true, false, List, [], ◌∷◌, codes, nat_eq, cond, IsTrue, IsErrOf, Option, None, Some, Result, Ok, Err, MatchOption, option_and_then, refl, sym, ap, subst, ◌∙◌, ⊎_elim}
use Rattle.std.proofs.lemmas.Bool.{both_ways, or_cases}
use Rattle.std.proofs.lemmas.Fmt.{decimal_injective, parse-decimal}
use Rattle.std.proofs.lemmas.Option.{none-some}
use Rattle.std.proofs.lemmas.Slice.Eq.{bytes_eq-Decides}
use Rattle.std.specs.Bool.{then_some}
use Rattle.std.specs.Cmp.Lexicographic.{pointwise, same_text}
use Rattle.std.specs.Fmt.{decimal}
use Rattle.std.specs.Str.{bytes_eq}
use Rattle.std.specs.Str.Parse.{ParsesUnsigned}
use Rattle.switch_names.specs.SystemName.{named_system}
use Rattle.host_trait.specs.declared.tree.HostFault.TheVariants as host
use Rattle.host_trait.specs.Change.{IsSame}
use Rattle.host_trait.specs.Host.{EachMoment, HasCauseOf, HostState, IsHost, Passes, Rose, Told}
use Rattle.host_trait.specs.Sink.{Puts, SinkState}
use Rattle.host_trait.proofs.Causes.{causes, started_of}
use Rattle.host_trait.proofs.Moments.{each_moment, same_as}
use Rattle.dry_report.proofs.PutLemmas.{puts_nothing}
use Rattle.switch_engine.specs.declared.command.Command.{Command}
use Rattle.switch_engine.specs.declared.command.Command.TheVariants.{Rollback, StartUp}
use Rattle.switch_parts.specs.declared.refusal.Refusal.{Refusal}
use Rattle.switch_run.specs.declared.asked.Asked.TheVariants as asked
use Rattle.switch_run.specs.declared.run_fault.RunFault.{RunFault}
use Rattle.switch_run.specs.declared.run_fault.RunFault.TheVariants as fault
use Rattle.switch_run.specs.declared.status.Status.{Status}
use Rattle.switch_run.specs.declared.status.Status.TheVariants.{Done, Usage, Refused, HostFault, SinkFault, NoMemory}
use Rattle.switch_run.specs.Asked.{AsksNoCollection, AsksNothing, IsRun, IsUntouched}
use Rattle.switch_run.specs.Asked.IsRun.{Answered, Unread}
use Rattle.switch_run.specs.Collecting.{AsksCollection, IsCollectionMoment}
use Rattle.switch_run.specs.CollectionEnding.{IsCollectionBroken, IsCollectionRun}
use Rattle.switch_run.specs.Commands.{command_for, command_of}
use Rattle.switch_run.specs.Ending.{HasCome, IsEnding, IsSinkCaused}
use Rattle.switch_run.specs.Listing.{IsInList, IsListing, IsListOf, asks_list}
use Rattle.switch_run.specs.Moments.{IsMomentFor}
use Rattle.switch_run.specs.Output.{IsIdle}
use Rattle.switch_run.specs.Output.IsBrokenOff.{BeforeReport}
use Rattle.switch_run.specs.Rehearsing.{AsksRehearsal, IsInRehearsal, IsNumber, IsRehearsing, Tells, is_rehearsal, rehearsed_word}
use Rattle.switch_run.specs.Run.{IsBroken, IsEnded, status_of}
use Rattle.switch_run.proofs.CollectedLemmas as collected
use Rattle.switch_run.proofs.CollectionWordLemmas as collecting
use Rattle.switch_run.proofs.EndingLemmas.{host_no_sink, memory_no_device, no_sink}
use Rattle.switch_run.proofs.MomentLemmas.{begins}
use Rattle.switch_run.proofs.RunLemmas as run
use Rattle.switch_run.proofs.RunLemmas.{host_of, sink_of}
use Rattle.switch_run.proofs.TellingLemmas as telling
use Rattle.switch_run.proofs.WordLemmas.{same_command}

-- ---- the list of the generations

-- words that ask for the list give no command
no_command_listed : (words : List (List ℕ)) → asks_list words ≡ true → command_of words ≡ None
no_command_listed [] asks = refl
no_command_listed (verb ∷ []) asks = ap (λ v. cond (pointwise nat_eq v (codes "rollback")) (Some Rollback) (cond (pointwise nat_eq v (codes "start-up")) (Some StartUp) None)) (same_text verb (codes "generations") (sym asks))
no_command_listed (verb ∷ more ∷ rest) asks = absurd (both_ways _ refl asks)

never_listed : {X : Type 0} (words : List (List ℕ)) (command : Command) → asks_list words ≡ true → command_of words ≡ Some command → X
never_listed words command asks some = absurd (none-some command (sym (no_command_listed words asks) ∙ some))

-- ---- the number of a word

-- what doesn't parse is no number
pub no_number : {E : Type 0} (text : List ℕ) (r : Result ℕ E) (e : E) → ParsesUnsigned 64 10 text r → r ≡ Err e → (n : ℕ) → IsNumber text n → ⊥
no_number text r e parses failed n is = cc (parse-decimal 64 n text r is.below is.below is.digits parses)

-- a parsed number is that of a text where the text is its digits
pub number_of : {E : Type 0} (text : List ℕ) (r : Result ℕ E) (number : ℕ) (is : Bool) → ParsesUnsigned 64 10 text r → r ≡ Ok number → number < 2 ^ 64 →
    is ≡ bytes_eq (decimal number) text → MatchOption (then_some is number) ((n : ℕ) → IsNumber text n → ⊥) (IsNumber text)
number_of text r number true parses parsed small is = record { digits = sym ((bytes_eq-Decides (decimal number) text).0 (sym is)); below = small }
number_of text r number false parses parsed small is = λ n of.
    let one : number ≡ n = cc (parse-decimal 64 n text r of.below of.below of.digits parses) in
    both_ways _ (sym is) ((bytes_eq-Decides (decimal number) text).1 (sym (subst (λ k. text ≡ decimal k) (sym one) of.digits)))

-- a text is the digits of one number
one_number : (text : List ℕ) (m n : ℕ) → IsNumber text m → IsNumber text n → m ≡ n
one_number text m n is of = decimal_injective m n is.below of.below (sym is.digits ∙ of.digits)

-- ---- words

-- no command begins with `rehearse` or `rehearse-jobs`
none_for : (system : Option (List ℕ)) → option_and_then (command_for (codes "rehearse")) system ≡ None
none_for None = refl
none_for (Some system) = refl

none_for_jobs : (system : Option (List ℕ)) → option_and_then (command_for (codes "rehearse-jobs")) system ≡ None
none_for_jobs None = refl
none_for_jobs (Some system) = refl

none_with : (verb : List ℕ) (system : Option (List ℕ)) → is_rehearsal verb ≡ true → option_and_then (command_for verb) system ≡ None
none_with verb system is = ⊎_elim
    (λ one. subst (λ (v : List ℕ). option_and_then (command_for v) system ≡ None) (sym (same_text verb (codes "rehearse") (sym one))) (none_for system))
    (λ jobs. subst (λ (v : List ℕ). option_and_then (command_for v) system ≡ None) (sym (same_text verb (codes "rehearse-jobs") (sym jobs))) (none_for_jobs system))
    (or_cases (pointwise nat_eq verb (codes "rehearse")) (pointwise nat_eq verb (codes "rehearse-jobs")) is)

-- words with a word behind `rehearse` give no command
no_command : (words : List (List ℕ)) (word : List ℕ) → rehearsed_word words ≡ Some word → command_of words ≡ None
no_command [] word is = absurd (none-some word is)
no_command (verb ∷ []) word is = absurd (none-some word is)
no_command (verb ∷ next ∷ []) word is = by (is_rehearsal verb) refl is
  where
    by : (b : Bool) → is_rehearsal verb ≡ b → cond b (Some next) None ≡ Some word → option_and_then (command_for verb) (named_system next) ≡ None
    by true same is = none_with verb (named_system next) same
    by false same is = absurd (none-some word is)
no_command (verb ∷ next ∷ more ∷ rest) word is = absurd (none-some word is)

never : {X : Type 0} (words : List (List ℕ)) (word : List ℕ) (command : Command) → rehearsed_word words ≡ Some word → command_of words ≡ Some command → X
never words word command behind some = absurd (none-some command (sym (no_command words word behind) ∙ some))

-- words that ask for the list ask for no rehearsal
no_rehearsal : {X : Type 0} (words : List (List ℕ)) (number : ℕ) → asks_list words ≡ true → AsksRehearsal words number → X
no_rehearsal [] number asks of = absurd (both_ways _ refl asks)
no_rehearsal (verb ∷ []) number asks of = absurd (none-some of.word of.behind)
no_rehearsal (verb ∷ more ∷ rest) number asks of = absurd (both_ways _ refl asks)

some_same : (one other : List ℕ) → Some one ≡ Some other → one ≡ other
some_same one other is = cc

-- the number that words ask for is that of their word
of_word : (words : List (List ℕ)) (word : List ℕ) (number : ℕ) → rehearsed_word words ≡ Some word → AsksRehearsal words number → IsNumber word number
of_word words word number behind of =
    subst (λ (w : List ℕ). IsNumber w number) (some_same of.word word (sym of.behind ∙ behind)) of.is_number

-- and the other way
asks_for : (words : List (List ℕ)) (word : List ℕ) (number : ℕ) → rehearsed_word words ≡ Some word → IsNumber word number → AsksRehearsal words number
asks_for words word number behind is = record { word = word; behind = behind; is_number = is }

-- ---- what words ask for

-- words whose word behind `rehearse` is a number ask for its rehearsal
pub rehearsal_of : (words : List (List ℕ)) (word text : List ℕ) (number : ℕ) → rehearsed_word words ≡ Some word → text ≡ word → IsNumber text number → AsksRehearsal words number
rehearsal_of words word text number behind same is = record { word = word; behind = behind; is_number = subst (λ (t : List ℕ). IsNumber t number) same is }

-- where it is none, they ask for nothing
pub nothing_behind : (words : List (List ℕ)) (word text : List ℕ) → asks_list words ≡ false → rehearsed_word words ≡ Some word → text ≡ word → ((number : ℕ) → IsNumber text number → ⊥) → AsksNothing words
nothing_behind words word text unlisted behind same none = record {
  command = no_command words word behind;
  list = unlisted;
  rehearsal = λ number asks. none number (subst (λ (t : List ℕ). IsNumber t number) (sym same) (of_word words word number behind asks));
  collection = λ keep asks. collecting.unrehearsed words keep asks word behind;
}

-- ---- how a run ends that asks for one of these

module _ (words : List (List ℕ)) (host_state after : HostState) (sink put : SinkState) (ending : Result Bool RunFault) where
  -- nothing was done, as there was no memory to read the words
  unread_as : (P : SinkState → Result Bool RunFault → Type 0) → put ≡ sink → ending ≡ Err (fault.Host host.Memory) → P sink (Err (fault.Host host.Memory)) → P put ending
  unread_as P quiet is at = subst (λ (s : SinkState). P s ending) (sym quiet) (subst (λ (e : Result Bool RunFault). P sink e) (sym is) at)

  untouched_cause : IsUntouched host_state after → (F : Type 0) → (F → ⊥) → HasCauseOf host_state after F
  untouched_cause untouched F none = causes (started_of ⊥ (λ never. never)) untouched.cause none

  unread : IsUntouched host_state after → (given : Option Command) → put ≡ sink → ending ≡ Err (fault.Host host.Memory) → IsEnding given host_state after sink put ending
  unread untouched given quiet is = unread_as (λ s e. IsEnding given host_state after sink s e) quiet is (record {
    come = come given;
    moments = same_as untouched.same (IsMomentFor given) (λ w told. begins given w);
    cause = untouched_cause untouched (IsErrOf {T = Bool} (Err (fault.Host host.Memory)) (fault.Host host.Device)) memory_no_device;
    sink_cause = no_sink sink (IsErrOf {T = Bool} (Err (fault.Host host.Memory)) fault.Sink) (host_no_sink host.Memory);
  })
    where
      idle : IsIdle host_state after sink sink
      idle = record { unchanged = untouched.same; silent = puts_nothing sink (λ more. more ≡ []) refl }

      come : (given : Option Command) → HasCome given host_state after sink sink (Err (fault.Host host.Memory))
      come None = idle
      come (Some command) = BeforeReport idle

  pub as_command : IsRun words host_state after sink put ending → (command : Command) → command_of words ≡ Some command → IsEnding (Some command) host_state after sink put ending
  as_command (Answered (asked.Command other) asks is) command some = subst (λ (c : Command). IsEnding (Some c) host_state after sink put ending) (same_command other command (sym asks ∙ some)) is
  as_command (Answered asked.Generations asks is) command some = never_listed words command asks some
  as_command (Answered (asked.Rehearsal number) asks is) command some = never words asks.1.word command asks.1.behind some
  as_command (Answered (asked.RehearsalWithJobs number) asks is) command some = never words asks.1.word command asks.1.behind some
  as_command (Answered (asked.Collection keep) asks is) command some = collecting.never_command words keep asks command some
  as_command (Answered asked.Nothing asks is) command some = absurd (none-some command (sym asks.command ∙ some))
  as_command (Unread same quiet is) command some = unread same (Some command) quiet is

  pub as_nothing : IsRun words host_state after sink put ending → AsksNothing words → IsEnding None host_state after sink put ending
  as_nothing (Answered (asked.Command other) asks is) none = absurd (none-some other (sym none.command ∙ asks))
  as_nothing (Answered asked.Generations asks is) none = absurd (both_ways _ none.list asks)
  as_nothing (Answered (asked.Rehearsal number) asks is) none = absurd (none.rehearsal number asks.1)
  as_nothing (Answered (asked.RehearsalWithJobs number) asks is) none = absurd (none.rehearsal number asks.1)
  as_nothing (Answered (asked.Collection keep) asks is) none = absurd (none.collection keep asks)
  as_nothing (Answered asked.Nothing asks is) none = is
  as_nothing (Unread same quiet is) none = unread same None quiet is

  pub as_list : IsRun words host_state after sink put ending → asks_list words ≡ true → IsListing host_state after sink put ending
  as_list (Answered (asked.Command other) asks is) list = never_listed words other list asks
  as_list (Answered asked.Generations asks is) list = is
  as_list (Answered (asked.Rehearsal number) asks is) list = no_rehearsal words number list asks.1
  as_list (Answered (asked.RehearsalWithJobs number) asks is) list = no_rehearsal words number list asks.1
  as_list (Answered (asked.Collection keep) asks is) list = collecting.never_list words keep asks list
  as_list (Answered asked.Nothing asks is) list = absurd (both_ways _ asks.list list)
  as_list (Unread same quiet is) list = unread_as (λ s e. IsListing host_state after sink s e) quiet is (record {
    come = puts_nothing sink (λ more. more ≡ []) refl;
    unchanged = same.same;
    cause = untouched_cause same (IsErrOf {T = Bool} (Err (fault.Host host.Memory)) (fault.Host host.Device)) memory_no_device;
    sink_cause = no_sink sink (IsErrOf {T = Bool} (Err (fault.Host host.Memory)) fault.Sink) (host_no_sink host.Memory);
  })

  pub as_rehearsal : IsRun words host_state after sink put ending → (number : ℕ) → AsksRehearsal words number → IsUntouched host_state after × IsRehearsing number sink put ending
  as_rehearsal (Answered (asked.Command other) asks is) number of = never words of.word other of.behind asks
  as_rehearsal (Answered asked.Generations asks is) number of = no_rehearsal words number asks of
  as_rehearsal (Answered (asked.Rehearsal other) asks is) number of =
      (is.0, subst (λ (n : ℕ). IsRehearsing n sink put ending) (one_number of.word other number (of_word words of.word other of.behind asks.1) of.is_number) is.1)
  as_rehearsal (Answered (asked.RehearsalWithJobs other) asks is) number of =
      (is.0, subst (λ (n : ℕ). IsRehearsing n sink put ending) (one_number of.word other number (of_word words of.word other of.behind asks.1) of.is_number) is.1)
  as_rehearsal (Answered (asked.Collection keep) asks is) number of = collecting.never_rehearsal words keep asks number of
  as_rehearsal (Answered asked.Nothing asks is) number of = absurd (asks.rehearsal number of)
  as_rehearsal (Unread same quiet is) number of = (
    same,
    unread_as (λ s e. IsRehearsing number sink s e) quiet is (record {
      come = puts_nothing sink (λ more. more ≡ []) refl;
      no_device = memory_no_device;
      sink_cause = no_sink sink (IsErrOf {T = Bool} (Err (fault.Host host.Memory)) fault.Sink) (host_no_sink host.Memory);
    }),
  )

  pub as_collection : IsRun words host_state after sink put ending → (keep : ℕ) → AsksCollection words keep → IsCollectionRun keep host_state after sink put ending
  as_collection (Answered (asked.Command other) asks is) keep of = collecting.never_command words keep of other asks
  as_collection (Answered asked.Generations asks is) keep of = collecting.never_list words keep of asks
  as_collection (Answered (asked.Rehearsal number) asks is) keep of = collecting.never_rehearsal words keep of number asks.1
  as_collection (Answered (asked.RehearsalWithJobs number) asks is) keep of = collecting.never_rehearsal words keep of number asks.1
  as_collection (Answered (asked.Collection other) asks is) keep of =
      subst (λ (n : ℕ). IsCollectionRun n host_state after sink put ending) (collecting.one_keep words other keep asks of) is
  as_collection (Answered asked.Nothing asks is) keep of = absurd (asks.collection keep of)
  as_collection (Unread same quiet is) keep of = unread_as (λ s e. IsCollectionRun keep host_state after sink s e) quiet is (record {
    come = IsCollectionBroken.BeforeReport (record { unchanged = same.same; silent = puts_nothing sink (λ more. more ≡ []) refl });
    moments = same_as same.same (IsCollectionMoment keep) (λ w told. IsCollectionMoment.Unchanged refl);
    cause = untouched_cause same (IsErrOf {T = Bool} (Err (fault.Host host.Memory)) (fault.Host host.Device)) memory_no_device;
    sink_cause = no_sink sink (IsErrOf {T = Bool} (Err (fault.Host host.Memory)) fault.Sink) (host_no_sink host.Memory);
  })

  -- ---- what holds of each run

  pub cause : IsRun words host_state after sink put ending → HasCauseOf host_state after (IsErrOf ending (fault.Host host.Device))
  cause (Answered (asked.Command command) asks is) = is.cause
  cause (Answered asked.Generations asks is) = is.cause
  cause (Answered (asked.Rehearsal number) asks is) = untouched_cause is.0 (IsErrOf ending (fault.Host host.Device)) is.1.no_device
  cause (Answered (asked.RehearsalWithJobs number) asks is) = untouched_cause is.0 (IsErrOf ending (fault.Host host.Device)) is.1.no_device
  cause (Answered (asked.Collection keep) asks is) = is.cause
  cause (Answered asked.Nothing asks is) = is.cause
  cause (Unread same quiet is) =
      subst (λ (e : Result Bool RunFault). HasCauseOf host_state after (IsErrOf e (fault.Host host.Device))) (sym is)
      (untouched_cause same (IsErrOf {T = Bool} (Err (fault.Host host.Memory)) (fault.Host host.Device)) memory_no_device)

  pub sink_cause : IsRun words host_state after sink put ending → IsSinkCaused sink put (IsErrOf ending fault.Sink)
  sink_cause (Answered (asked.Command command) asks is) = is.sink_cause
  sink_cause (Answered asked.Generations asks is) = is.sink_cause
  sink_cause (Answered (asked.Rehearsal number) asks is) = is.1.sink_cause
  sink_cause (Answered (asked.RehearsalWithJobs number) asks is) = is.1.sink_cause
  sink_cause (Answered (asked.Collection keep) asks is) = is.sink_cause
  sink_cause (Answered asked.Nothing asks is) = is.sink_cause
  sink_cause (Unread same quiet is) =
      unread_as (λ s e. IsSinkCaused sink s (IsErrOf e fault.Sink)) quiet is (no_sink sink (IsErrOf {T = Bool} (Err (fault.Host host.Memory)) fault.Sink) (host_no_sink host.Memory))

  -- nothing changes where no command is given
  without_command : command_of words ≡ None → Passes host_state after IsSame → Passes host_state after (IsMomentFor (command_of words))
  without_command none same = subst (λ (given : Option Command). Passes host_state after (IsMomentFor given)) (sym none) same

  pub moments : IsRun words host_state after sink put ending → AsksNoCollection words → Passes host_state after (IsMomentFor (command_of words))
  moments (Answered (asked.Command command) asks is) none = subst (λ (given : Option Command). Passes host_state after (IsMomentFor given)) (sym asks) is.moments
  moments (Answered asked.Generations asks is) none = without_command (no_command_listed words asks) is.unchanged
  moments (Answered (asked.Rehearsal number) asks is) none = without_command (no_command words asks.1.word asks.1.behind) is.0.same
  moments (Answered (asked.RehearsalWithJobs number) asks is) none = without_command (no_command words asks.1.word asks.1.behind) is.0.same
  moments (Answered (asked.Collection keep) asks is) none = absurd (none keep asks)
  moments (Answered asked.Nothing asks is) none = without_command asks.command is.moments
  moments (Unread same quiet is) none = same_as same.same (IsMomentFor (command_of words)) (λ w told. begins (command_of words) w)

  pub each : IsRun words host_state after sink put ending → AsksNoCollection words → IsHost host_state → EachMoment host_state after (IsMomentFor (command_of words))
  each is none host_is = each_moment host_is (moments is none) (λ w told. begins (command_of words) w)

  -- ---- what its status tells

  module _ (status : Status) (tells : status ≡ status_of ending) where
    memory_status : ending ≡ Err (fault.Host host.Memory) → status ≡ NoMemory
    memory_status is = tells ∙ ap status_of is

    pub usage : IsRun words host_state after sink put ending → status ≡ Usage → AsksNothing words
    usage (Answered (asked.Command command) asks is) s = absurd (none-some command (sym (run.usage (Some command) ending is status tells s)))
    usage (Answered asked.Generations asks is) s = absurd (telling.never_usage _ _ sink put ending is.come status tells s)
    usage (Answered (asked.Rehearsal number) asks is) s = absurd (telling.never_usage _ _ sink put ending is.1.come status tells s)
    usage (Answered (asked.RehearsalWithJobs number) asks is) s = absurd (telling.never_usage _ _ sink put ending is.1.come status tells s)
    usage (Answered (asked.Collection keep) asks is) s = absurd (collected.never_usage keep ending is status tells s)
    usage (Answered asked.Nothing asks is) s = asks
    usage (Unread same quiet is) s = absurd (let never : NoMemory ≡ Usage = sym (memory_status is) ∙ s in cc)

    pub refused_output : IsRun words host_state after sink put ending → (why : Refusal) → status ≡ Refused why → Puts sink put (λ more. more ≡ [])
    refused_output (Answered (asked.Command command) asks is) why s = run.refused_output (Some command) ending is status tells why s
    refused_output (Answered asked.Generations asks is) why s = absurd (telling.never_refused _ _ sink put ending is.come status tells why s)
    refused_output (Answered (asked.Rehearsal number) asks is) why s = absurd (telling.never_refused _ _ sink put ending is.1.come status tells why s)
    refused_output (Answered (asked.RehearsalWithJobs number) asks is) why s = absurd (telling.never_refused _ _ sink put ending is.1.come status tells why s)
    refused_output (Answered (asked.Collection keep) asks is) why s = (collected.refused keep ending is status tells why s).idle.silent
    refused_output (Answered asked.Nothing asks is) why s = run.refused_output None ending is status tells why s
    refused_output (Unread same quiet is) why s = absurd (let never : NoMemory ≡ Refused why = sym (memory_status is) ∙ s in cc)

    pub host_fault : IsRun words host_state after sink put ending → status ≡ HostFault → Rose host_state.faults after.faults
    host_fault is s = (cause is).rose (host_of ending (sym tells ∙ s))

    pub never_sure : IsRun words host_state after sink put ending → IsTrue host_state.is_sure → status ≡ HostFault → ⊥
    never_sure is sure s = (cause is).never_sure sure (host_of ending (sym tells ∙ s))

    pub sink_fault : IsRun words host_state after sink put ending → status ≡ SinkFault → Rose sink.faults put.faults
    sink_fault is s = (sink_cause is).rose (sink_of ending (sym tells ∙ s))

    -- ---- the list of the generations

    module _ (is : IsListing host_state after sink put ending) where
      pub list : IsEnded status → (status ≡ Done) × Told host_state (λ w. Puts sink put (IsListOf w))
      list = telling.is_whole _ _ sink put ending is.come status tells

      pub list_begun : status ≡ SinkFault → Told host_state (λ w. Puts sink put (IsInList w))
      list_begun = telling.is_begun _ _ sink put ending is.come status tells

      pub list_broken : IsBroken status → Puts sink put (λ more. more ≡ [])
      list_broken = telling.is_broken _ _ sink put ending is.come status tells

      pub list_never_refused : (why : Refusal) → status ≡ Refused why → ⊥
      list_never_refused = telling.never_refused _ _ sink put ending is.come status tells

      pub list_completes : ¬ Rose host_state.faults after.faults → ¬ Rose sink.faults put.faults → (status ≡ Done) ⊎ (status ≡ NoMemory)
      list_completes host_still sink_still = telling.completes _ _ sink put ending is.come status tells (λ e. host_still (is.cause.rose e)) (λ e. sink_still (is.sink_cause.rose e))

    -- ---- a rehearsal

    module _ (number : ℕ) (is : IsUntouched host_state after × IsRehearsing number sink put ending) where
      pub rehearsal : IsEnded status → (status ≡ Done) × Puts sink put (Tells number)
      rehearsal = telling.is_whole _ _ sink put ending is.1.come status tells

      pub rehearsal_begun : status ≡ SinkFault → Puts sink put (IsInRehearsal number)
      rehearsal_begun = telling.is_begun _ _ sink put ending is.1.come status tells

      pub rehearsal_broken : IsBroken status → Puts sink put (λ more. more ≡ [])
      rehearsal_broken = telling.is_broken _ _ sink put ending is.1.come status tells

      pub rehearsal_never_refused : (why : Refusal) → status ≡ Refused why → ⊥
      rehearsal_never_refused = telling.never_refused _ _ sink put ending is.1.come status tells

      pub rehearsal_touches_nothing : Passes host_state after IsSame × (after.faults ≡ host_state.faults)
      rehearsal_touches_nothing = (is.0.same, is.0.faults)

      pub rehearsal_completes : ¬ Rose sink.faults put.faults → (status ≡ Done) ⊎ (status ≡ NoMemory)
      rehearsal_completes still = telling.completes _ _ sink put ending is.1.come status tells is.1.no_device (λ e. still (is.1.sink_cause.rose e))
