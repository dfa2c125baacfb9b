use Rattle.std.proofs.Common.{List, sym, subst, ◌∙◌}
use Rattle.std.proofs.lemmas.Result.{on_ok_weaker}
use Rattle.host_trait.specs.Host.{Comes, Leads, Passes}
use Rattle.host_trait.proofs.Moments.{started}
use Rattle.tree_put.specs.declared.leaf_put.LeafPut.{LeafPut}
use Rattle.tree_put.specs.Sequence.{IsPutting, WritesOthers, with_puts}
use Rattle.tree_put.proofs.SequenceLemmas.{putting_none}
use Rattle.accounts_stage.specs.Puts.{AreAtAccounts, answer_puts}
use Rattle.accounts_stage.proofs.PuttingLemmas.{answer_parts}
use Rattle.accounts_stage.proofs.setting.apply.Goals as goal

pub returns-in_err-first-clause-moments : goal.returns-in_err-first-clause-moments
returns-in_err-first-clause-moments g c = started (IsPutting (answer_puts c.args.merged.now)) (λ w is. putting_none (answer_puts c.args.merged.now) w)

pub returns-in_err-last-clause-moments : goal.returns-in_err-last-clause-moments
returns-in_err-last-clause-moments g c = started (IsPutting (answer_puts c.args.merged.now)) (λ w is. putting_none (answer_puts c.args.merged.now) w)

pub put_accounts-requires-clause-places : goal.put_accounts-requires-clause-places
put_accounts-requires-clause-places g c = (subst AreAtAccounts (sym c.as_slice.ensures) c.in_ok-first.ensures.places, subst AreAtAccounts (sym c.as_slice-2.ensures) c.in_ok-last.ensures.places)

pub returns-clause-ok : goal.returns-clause-ok
returns-clause-ok g c =
    let parts = answer_parts c.args.merged.now c.as_slice.result.now c.as_slice-2.result.now (c.as_slice.ensures ∙ c.in_ok-first.ensures.puts) (c.as_slice-2.ensures ∙ c.in_ok-last.ensures.puts) in
    on_ok_weaker c.put_accounts.result (λ came. subst (λ (puts : List LeafPut). Comes (g.T.Tree.host c.args.host.now) (g.T.Tree.host c.put_accounts.new.host) (with_puts puts)) (sym parts) came)
    c.put_accounts.ensures.ok

pub returns-clause-written : goal.returns-clause-written
returns-clause-written g c =
    let parts = answer_parts c.args.merged.now c.as_slice.result.now c.as_slice-2.result.now (c.as_slice.ensures ∙ c.in_ok-first.ensures.puts) (c.as_slice-2.ensures ∙ c.in_ok-last.ensures.puts) in
    on_ok_weaker c.put_accounts.result (λ wrote. subst (λ (puts : List LeafPut). Leads (g.T.Tree.host c.args.host.now) (g.T.Tree.host c.put_accounts.new.host) (WritesOthers puts)) (sym parts) wrote)
    c.put_accounts.ensures.written

pub returns-clause-moments : goal.returns-clause-moments
returns-clause-moments g c =
    let parts = answer_parts c.args.merged.now c.as_slice.result.now c.as_slice-2.result.now (c.as_slice.ensures ∙ c.in_ok-first.ensures.puts) (c.as_slice-2.ensures ∙ c.in_ok-last.ensures.puts) in
    subst (λ (puts : List LeafPut). Passes (g.T.Tree.host c.args.host.now) (g.T.Tree.host c.put_accounts.new.host) (IsPutting puts)) (sym parts) c.put_accounts.ensures.moments
