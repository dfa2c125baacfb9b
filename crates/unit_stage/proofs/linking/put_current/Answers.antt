use Rattle.std.proofs.Common.{◌≡◌, ◌∷◌, ◌++◌, [], refl, sym, ap, subst, ◌∙◌, inl}
use Rattle.host_trait.specs.Host.{Comes, Passes}
use Rattle.host_trait.specs.World.{WorldState, seen, stage, with_leaf}
use Rattle.host_trait.proofs.Moments.{leads_then, same_as, same_then, started}
use Rattle.tree_put.specs.Put.{AreApart, IsOldOrNew}
use Rattle.tree_put.specs.Written.{WritesOnly}
use Rattle.unit_stage.specs.Owned.{owns_units}
use Rattle.unit_stage.specs.System.{current_place}
use Rattle.unit_stage.proofs.StepLemmas.{current_apart}
use Rattle.unit_stage.proofs.WrittenLemmas.{current_written}
use Rattle.unit_stage.proofs.linking.put_current.Goals as goal

pub returns-in_err-at-clause-moments : goal.returns-in_err-at-clause-moments
returns-in_err-at-clause-moments g c = started (IsOldOrNew current_place c.args.leaf.now) (λ w is. inl refl)

pub returns-in_err-sync-clause-moments : goal.returns-in_err-sync-clause-moments
returns-in_err-sync-clause-moments g c = same_as c.sync.ensures.reads.moments (IsOldOrNew current_place c.args.leaf.now) (λ w is. inl refl)

pub put-requires-clause-apart : goal.put-requires-clause-apart
put-requires-clause-apart g c = subst (λ p. AreApart p stage) (sym c.in_ok-at.ensures) current_apart

pub returns-in_err-put-clause-moments : goal.returns-in_err-put-clause-moments
returns-in_err-put-clause-moments g c =
    same_then c.sync.ensures.reads.moments
    (subst (λ p. Passes (g.T.Tree.host c.sync.new.self) (g.T.Tree.host c.put.new.host) (IsOldOrNew p c.args.leaf.now)) c.in_ok-at.ensures c.put.ensures.moments)
    (IsOldOrNew current_place c.args.leaf.now) (λ w is. inl refl) (λ w m is moment. moment)

pub returns-clause-ok : goal.returns-clause-ok
returns-clause-ok g c =
    leads_then c.sync.ensures.reads.moments.tells
    (subst (λ p. Comes (g.T.Tree.host c.sync.new.self) (g.T.Tree.host c.put.new.host) (with_leaf p c.args.leaf.now)) c.in_ok-at.ensures c.in_ok-put.ensures.ok)
    (λ w u. seen u ≡ seen (with_leaf current_place c.args.leaf.now w))
    (λ w v u is is_v same came. came ∙ ap (λ x. seen (with_leaf current_place c.args.leaf.now x)) same)

pub returns-clause-moments : goal.returns-clause-moments
returns-clause-moments g c =
    same_then c.sync.ensures.reads.moments
    (subst (λ p. Passes (g.T.Tree.host c.sync.new.self) (g.T.Tree.host c.put.new.host) (IsOldOrNew p c.args.leaf.now)) c.in_ok-at.ensures c.put.ensures.moments)
    (IsOldOrNew current_place c.args.leaf.now) (λ w is. inl refl) (λ w m is moment. moment)

pub returns-clause-written : goal.returns-clause-written
returns-clause-written g c =
    leads_then c.sync.ensures.reads.moments.tells c.in_ok-put.ensures.written (WritesOnly owns_units)
    (λ w v u is is_v same now. current_written w u (now ∙ ap (λ p. v.written ++ p ∷ []) c.in_ok-at.ensures ∙ ap (λ (x : WorldState). x.written ++ current_place ∷ []) same))
