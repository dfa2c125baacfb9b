use Rattle.std.proofs.Common.{◌≡◌, ◌++◌, ◌∷◌, [], subst, ◌∙◌}
use Rattle.std.proofs.lemmas.Result.{on_ok_weaker}
use Rattle.host_trait.specs.Host.{Leads, Passes}
use Rattle.host_trait.specs.World.{seen}
use Rattle.tree_put.specs.declared.leaf_put.LeafPut.{LeafPut}
use Rattle.tree_put.specs.Sequence.{IsPutting, with_puts}
use Rattle.etc_farm.specs.Steps.{puts_but}
use Rattle.etc_farm.specs.Written.{WritesLast}
use Rattle.etc_farm.proofs.MakingLemmas.{begin_steps, can_begin, clear_steps, cleared_can, cleared_standing, end_steps, ended_led}
use Rattle.etc_farm.proofs.QuietStageLemmas.{quiet_led}
use Rattle.etc_farm.proofs.ToldLemmas.{leads_where, passes_on, passes_where, told_where}
use Rattle.etc_farm.proofs.farm.apply_prepared.Goals as goal

pub put_all-requires-clause-apart : goal.put_all-requires-clause-apart
put_all-requires-clause-apart g c = c.first.ensures.apart

pub put_all-requires-clause-can : goal.put_all-requires-clause-can
put_all-requires-clause-can g c = told_where (g.T.Tree.host c.args.host.now) (λ none. none) (λ w is. can_begin (c.requires.prepared.has w is) c.requires.can c.first.ensures.first)

pub finish-requires-clause-list : goal.finish-requires-clause-list
finish-requires-clause-list g c = c.last.ensures.place

pub finish-requires-clause-can : goal.finish-requires-clause-can
finish-requires-clause-can g c = told_where (g.T.Tree.host c.args.host.now) (λ none. c.drop_all.ensures.moments.silent (c.put_all.ensures.moments.silent none)) (λ w is.
    cleared_can (c.requires.prepared.has w is) c.requires.can c.first.ensures.first c.put_all.ensures.moments c.in_ok-put_all.ensures.ok c.gone.ensures c.drop_all.ensures.moments c.in_ok-drop_all.ensures.ok
    (c.as_slice-items.ensures ∙ c.items.ensures.items) c.as_slice-blocked.ensures)

pub finish-requires-clause-standing : goal.finish-requires-clause-standing
finish-requires-clause-standing g c = told_where (g.T.Tree.host c.args.host.now) (λ none. c.drop_all.ensures.moments.silent (c.put_all.ensures.moments.silent none)) (λ w is.
    cleared_standing (c.requires.prepared.has w is) c.requires.can c.first.ensures.first c.put_all.ensures.moments c.in_ok-put_all.ensures.ok c.gone.ensures c.drop_all.ensures.moments c.in_ok-drop_all.ensures.ok
    (c.as_slice-items.ensures ∙ c.items.ensures.items) c.as_slice-standing.ensures)

pub returns-clause-ok : goal.returns-clause-ok
returns-clause-ok g c =
    on_ok_weaker c.finish.result
    (λ led. leads_where (λ w is.
    ended_led (c.requires.prepared.has w is) c.requires.can c.first.ensures.first c.put_all.ensures.moments c.in_ok-put_all.ensures.ok c.gone.ensures c.drop_all.ensures.moments c.in_ok-drop_all.ensures.ok
    (c.as_slice-items.ensures ∙ c.items.ensures.items) c.as_slice-blocked.ensures
    (subst (λ (put : LeafPut). Leads (g.T.Tree.host c.drop_all.new.host) (g.T.Tree.host c.finish.new.host)
    (λ u v. seen v ≡ seen (with_puts (puts_but c.as_slice-blocked.result.now c.as_slice-items.result.now ++ put ∷ []) u))) c.last.ensures.last led)))
    c.finish.ensures.ok

pub returns-in_err-put_all-clause-steps : goal.returns-in_err-put_all-clause-steps
returns-in_err-put_all-clause-steps g c = passes_where c.put_all.ensures.moments (λ w is. begin_steps (c.requires.prepared.has w is) c.requires.can c.first.ensures.first c.put_all.ensures.moments)

pub returns-in_err-drop_all-clause-steps : goal.returns-in_err-drop_all-clause-steps
returns-in_err-drop_all-clause-steps g c =
    passes_where (passes_on c.put_all.ensures.moments c.in_ok-put_all.ensures.ok c.drop_all.ensures.moments) (λ w is.
    clear_steps (c.requires.prepared.has w is) c.requires.can c.first.ensures.first c.put_all.ensures.moments c.in_ok-put_all.ensures.ok c.gone.ensures c.drop_all.ensures.moments)

pub returns-clause-steps : goal.returns-clause-steps
returns-clause-steps g c =
    let cleared = passes_on c.put_all.ensures.moments c.in_ok-put_all.ensures.ok c.drop_all.ensures.moments in
    passes_where (passes_on cleared cleared.tells c.finish.ensures.moments) (λ w is.
    end_steps (c.requires.prepared.has w is) c.requires.can c.first.ensures.first c.put_all.ensures.moments c.in_ok-put_all.ensures.ok c.gone.ensures c.drop_all.ensures.moments c.in_ok-drop_all.ensures.ok
    (c.as_slice-items.ensures ∙ c.items.ensures.items) c.as_slice-blocked.ensures
    (subst (λ (put : LeafPut). Passes (g.T.Tree.host c.drop_all.new.host) (g.T.Tree.host c.finish.new.host)
    (IsPutting (puts_but c.as_slice-blocked.result.now c.as_slice-items.result.now ++ put ∷ []))) c.last.ensures.last c.finish.ensures.moments))

pub returns-clause-quiet : goal.returns-clause-quiet
returns-clause-quiet g c =
    on_ok_weaker c.finish.result
    (λ wrote. leads_where (λ w is.
    quiet_led (c.requires.prepared.has w is) c.first.ensures.first c.in_ok-put_all.ensures.ok c.in_ok-put_all.ensures.written c.gone.ensures c.in_ok-drop_all.ensures.ok c.requires.can
    (c.as_slice-items.ensures ∙ c.items.ensures.items) c.as_slice-blocked.ensures c.as_slice-standing.ensures
    (subst (λ (put : LeafPut). Leads (g.T.Tree.host c.drop_all.new.host) (g.T.Tree.host c.finish.new.host)
    (WritesLast c.as_slice-items.result.now c.as_slice-blocked.result.now c.as_slice-standing.result.now put)) c.last.ensures.last wrote)))
    c.finish.ensures.written
