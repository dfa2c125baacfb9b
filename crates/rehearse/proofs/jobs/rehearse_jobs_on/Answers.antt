use Rattle.std.proofs.Common.{[]}
use Rattle.host_trait.specs.Host.{Leads}
use Rattle.job_host.specs.MemoryJobs.{host_of}
use Rattle.rehearse.specs.Rehearsal.{IsRehearsed}
use Rattle.rehearse.specs.Through.{IsRunThrough}
use Rattle.rehearse.proofs.RehearsalLemmas.{rehearsed_cut, rehearsed_uncut}
use Rattle.rehearse.proofs.RunLemmas.{if_ok_as}
use Rattle.rehearse.proofs.jobs.rehearse_jobs_on.Goals as goal

pub returns-then-branch-clause-rehearsed : goal.returns-then-branch-clause-rehearsed
returns-then-branch-clause-rehearsed c =
    let command = c.args.command.now in let cuts = c.args.cuts.now in let may = c.in_ok-may_be_cut.ensures in
    let start = host_of c.args.host.now.device in let planned = host_of c.may_be_cut.new.host.device in let end = host_of c.through_jobs.new.host.device in
    if_ok_as (IsRunThrough command planned end cuts) (λ summary. Leads start end (λ w v. IsRehearsed command w v summary))
    (λ summary is. rehearsed_cut command summary c.may_be_cut.ensures.same cuts c.requires.few (may.none c.if-branch.true) (may.steady c.if-branch.true) is) c.through_jobs.result
    c.through_jobs.ensures.through

pub returns-clause-rehearsed : goal.returns-clause-rehearsed
returns-clause-rehearsed c =
    let command = c.args.command.now in
    let start = host_of c.args.host.now.device in let planned = host_of c.may_be_cut.new.host.device in let end = host_of c.through_jobs-2.new.host.device in
    if_ok_as (IsRunThrough command planned end []) (λ summary. Leads start end (λ w v. IsRehearsed command w v summary))
    (λ summary is. rehearsed_uncut command summary c.may_be_cut.ensures.same is) c.through_jobs-2.result c.through_jobs-2.ensures.through
