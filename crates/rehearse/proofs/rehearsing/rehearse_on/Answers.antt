use Rattle.std.proofs.Common.{[]}
use Rattle.host_trait.specs.Host.{Leads}
use Rattle.rehearse.specs.Rehearsal.{IsRehearsed}
use Rattle.rehearse.specs.Through.{IsRunThrough}
use Rattle.rehearse.proofs.RehearsalLemmas.{rehearsed_cut, rehearsed_uncut}
use Rattle.rehearse.proofs.RunLemmas.{if_ok_as}
use Rattle.rehearse.proofs.rehearsing.rehearse_on.Goals as goal

pub returns-then-branch : goal.returns-then-branch
returns-then-branch g c =
    let command = c.args.command.now in let cuts = c.args.cuts.now in let may = c.in_ok-may_be_cut.ensures in
    let start = g.H.Tree.host c.args.host.now in let planned = g.H.Tree.host c.may_be_cut.new.host in let end = g.H.Tree.host c.through.new.host in
    if_ok_as (IsRunThrough command planned end cuts) (λ summary. Leads start end (λ w v. IsRehearsed command w v summary))
    (λ summary is. rehearsed_cut command summary c.may_be_cut.ensures.same cuts c.requires.few (may.none c.if-branch.true) (may.steady c.if-branch.true) is) c.through.result
    c.through.ensures.through

pub returns : goal.returns
returns g c =
    let command = c.args.command.now in let start = g.H.Tree.host c.args.host.now in let planned = g.H.Tree.host c.may_be_cut.new.host in let end = g.H.Tree.host c.through-2.new.host in
    if_ok_as (IsRunThrough command planned end []) (λ summary. Leads start end (λ w v. IsRehearsed command w v summary))
    (λ summary is. rehearsed_uncut command summary c.may_be_cut.ensures.same is) c.through-2.result c.through-2.ensures.through
