use Rattle.std.proofs.Common.{◌≡◌, List, None, ap, sym, subst, ◌∙◌}
use Rattle.std.proofs.lemmas.Result.{on_ok_weaker}
use Rattle.host_trait.specs.World.{seen}
use Rattle.host_trait.proofs.Moments.{leads_as, passes_as, started, told_as}
use Rattle.tree_put.specs.declared.leaf_put.LeafPut.{LeafPut}
use Rattle.switch_parts.specs.Part.{final_leaf}
use Rattle.switch_parts.specs.Quiet.{IsQuiet}
use Rattle.tree_put.specs.Sequence.{IsPutting, WritesOthers, with_puts}
use Rattle.tree_put.specs.WrittenPlace.{in_the_way}
use Rattle.tree_put.proofs.SequenceLemmas.{none_written, putting_none}
use Rattle.accounts_stage.specs.AccountsPart.{accounts_part, puts_of}
use Rattle.accounts_stage.specs.OnTheWay.{names_first}
use Rattle.accounts_stage.specs.Places.{account_places}
use Rattle.accounts_stage.specs.Plan.{AreAccountsSet, IsSettingAccounts}
use Rattle.accounts_stage.proofs.PuttingLemmas.{no_puts, slice_puts}
use Rattle.accounts_stage.proofs.QuietLemmas.{set_quiet}
use Rattle.accounts_stage.proofs.setting.set_accounts.Goals as goal

pub put_accounts-requires-clause-way : goal.put_accounts-requires-clause-way
put_accounts-requires-clause-way g c = told_as c.requires (λ w. in_the_way account_places w.leaves ≡ None) (λ w is can. can.free.way)

pub returns-in-Some-clause-ok : goal.returns-in-Some-clause-ok
returns-in-Some-clause-ok g c =
    let system = c.args.system.now in
    on_ok_weaker c.put_accounts.result
    (λ led. leads_as led (AreAccountsSet system)
    (λ w v is now. now ∙ ap (λ (ps : List LeafPut). seen (with_puts ps w)) (slice_puts system w.leaves c.args.plan.now (c.requires.has w is).planned _ _ c.as_slice.ensures c.as_slice-in-Some.ensures)))
    c.put_accounts.ensures.ok

pub returns-in-Some-clause-moments : goal.returns-in-Some-clause-moments
returns-in-Some-clause-moments g c =
    let system = c.args.system.now in
    passes_as c.put_accounts.ensures.moments (IsSettingAccounts system)
    (λ w m is moment. subst (λ (ps : List LeafPut). IsPutting ps w m) (slice_puts system w.leaves c.args.plan.now (c.requires.has w is).planned _ _ c.as_slice.ensures c.as_slice-in-Some.ensures) moment)

pub returns-in-None-clause-ok : goal.returns-in-None-clause-ok
returns-in-None-clause-ok g c = record {
  to = λ w is. (w, is, ap (λ (ps : List LeafPut). seen (with_puts ps w)) (sym (no_puts c.args.system.now w.leaves c.args.plan.now (c.requires.has w is).planned c.in-None.is)));
}

pub returns-in-None-clause-moments : goal.returns-in-None-clause-moments
returns-in-None-clause-moments g c = started (IsSettingAccounts c.args.system.now) (λ w is. putting_none (puts_of c.args.system.now w.leaves) w)

pub returns-in-Some-clause-quiet : goal.returns-in-Some-clause-quiet
returns-in-Some-clause-quiet g c =
    let system = c.args.system.now in
    on_ok_weaker c.put_accounts.result
    (λ led. leads_as led (IsQuiet (names_first system) (final_leaf (accounts_part system)))
    (λ w v is wrote. set_quiet system w v
    (subst (λ (ps : List LeafPut). WritesOthers ps w v) (slice_puts system w.leaves c.args.plan.now (c.requires.has w is).planned _ _ c.as_slice.ensures c.as_slice-in-Some.ensures) wrote)))
    c.put_accounts.ensures.written

pub returns-in-None-clause-quiet : goal.returns-in-None-clause-quiet
returns-in-None-clause-quiet g c =
    let system = c.args.system.now in
    record {
      to = λ w is. (
        w,
        is,
        set_quiet system w w
            (subst (λ (ps : List LeafPut). WritesOthers ps w w) (sym (no_puts system w.leaves c.args.plan.now (c.requires.has w is).planned c.in-None.is)) (none_written w)),
      );
    }
