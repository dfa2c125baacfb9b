use Rattle.std.proofs.Common.{Err, ap, refl, subst, ◌∙◌}
use Rattle.std.proofs.lemmas.Result.{err_from_is_err_and}
use Rattle.host_trait.specs.Change.{IsSame}
use Rattle.host_trait.specs.Host.{HostState}
use Rattle.host_trait.proofs.Causes.{started_of}
use Rattle.host_trait.proofs.Moments.{started}
use Rattle.switch_run.specs.declared.asked.Asked.TheVariants as asked
use Rattle.switch_run.specs.Asked.{IsAskedBy, IsUntouched}
use Rattle.switch_run.specs.Asked.IsRun.{Answered, Unread}
use Rattle.switch_run.proofs.EndingLemmas.{no_command}
use Rattle.switch_run.proofs.running.run_words.Goals as goal

untouched : {host : HostState} → IsUntouched host host
untouched = record { same = started IsSame (λ w is. refl); faults = refl; cause = started_of ⊥ (λ none. none) }

pub returns-in_err-command : goal.returns-in_err-command
returns-in_err-command g c =
    let p = err_from_is_err_and c.from_residual.result c.from_residual.ensures.1 in
    Unread untouched refl (p.1 ∙ ap (λ f. Err f) p.2)

pub returns-in-Command : goal.returns-in-Command
returns-in-Command g c = Answered (asked.Command c.in-Command.command) (subst (IsAskedBy c.args.words.now) c.in-Command.is c.in_ok-command.ensures) c.run_command.ensures

pub returns-in-Generations : goal.returns-in-Generations
returns-in-Generations g c = Answered asked.Generations (subst (IsAskedBy c.args.words.now) c.in-Generations.is c.in_ok-command.ensures) c.run_list.ensures

pub returns-in-Rehearsal : goal.returns-in-Rehearsal
returns-in-Rehearsal g c = Answered (asked.Rehearsal c.in-Rehearsal.number) (subst (IsAskedBy c.args.words.now) c.in-Rehearsal.is c.in_ok-command.ensures) (untouched, c.run_rehearsal.ensures)

pub returns-in-RehearsalWithJobs : goal.returns-in-RehearsalWithJobs
returns-in-RehearsalWithJobs g c =
    Answered (asked.RehearsalWithJobs c.in-RehearsalWithJobs.number) (subst (IsAskedBy c.args.words.now) c.in-RehearsalWithJobs.is c.in_ok-command.ensures) (untouched, c.run_rehearsal_with_jobs.ensures)

pub returns-in-Collection : goal.returns-in-Collection
returns-in-Collection g c = Answered (asked.Collection c.in-Collection.keep) (subst (IsAskedBy c.args.words.now) c.in-Collection.is c.in_ok-command.ensures) c.run_collection.ensures

pub returns-in-Nothing : goal.returns-in-Nothing
returns-in-Nothing g c = Answered asked.Nothing (subst (IsAskedBy c.args.words.now) c.in-Nothing.is c.in_ok-command.ensures) no_command
