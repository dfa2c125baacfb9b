use Rattle.std.proofs.Common.{◌≡◌, ◌∷◌, ◌++◌, [], refl, sym, ap, subst, ◌∙◌, inl}
use Rattle.std.proofs.lemmas.Result.{on_ok_weaker}
use Rattle.host_trait.specs.World.{seen, stage, with_leaf}
use Rattle.host_trait.proofs.Moments.{leads_as, passes_as, started, told_as}
use Rattle.tree_put.specs.Put.{AreApart, CanPut, IsOldOrNew}
use Rattle.etc_clean.specs.Etc.{leaf_of}
use Rattle.etc_clean.specs.Names.{place}
use Rattle.etc_farm.proofs.PlaceLemmas.{place_apart}
use Rattle.etc_farm.proofs.entries.put_item.Goals as goal

pub returns-in_err-leaf-clause-moments : goal.returns-in_err-leaf-clause-moments
returns-in_err-leaf-clause-moments g c = started (IsOldOrNew (place c.args.item.now.place) (leaf_of c.args.item.now.place c.args.item.now.kind)) (λ w is. inl refl)

pub returns-in_err-at-clause-moments : goal.returns-in_err-at-clause-moments
returns-in_err-at-clause-moments g c = started (IsOldOrNew (place c.args.item.now.place) (leaf_of c.args.item.now.place c.args.item.now.kind)) (λ w is. inl refl)

pub put-requires-clause-apart : goal.put-requires-clause-apart
put-requires-clause-apart g c = subst (λ p. AreApart p stage) (sym c.in_ok-at.ensures) (place_apart c.args.item.now.place)

pub put-requires-clause-can : goal.put-requires-clause-can
put-requires-clause-can g c = told_as c.requires (CanPut c.in_ok-at.at) (λ w is can. subst (λ p. CanPut p w) (sym c.in_ok-at.ensures) can)

pub returns-clause-ok : goal.returns-clause-ok
returns-clause-ok g c =
    on_ok_weaker c.put.result
    (λ led. leads_as led (λ w v. seen v ≡ seen (with_leaf (place c.args.item.now.place) (leaf_of c.args.item.now.place c.args.item.now.kind) w))
    (λ w v is new. new ∙ (λ i. seen (with_leaf (c.in_ok-at.ensures i) (c.in_ok-leaf.ensures i) w))))
    c.put.ensures.ok

pub returns-clause-moments : goal.returns-clause-moments
returns-clause-moments g c =
    passes_as c.put.ensures.moments (IsOldOrNew (place c.args.item.now.place) (leaf_of c.args.item.now.place c.args.item.now.kind))
    (λ w m is moment. let there = subst (λ p. IsOldOrNew p c.in_ok-leaf.leaf w m) c.in_ok-at.ensures moment in
    subst (λ l. IsOldOrNew (place c.args.item.now.place) l w m) c.in_ok-leaf.ensures there)

pub returns-clause-written : goal.returns-clause-written
returns-clause-written g c =
    on_ok_weaker c.put.result
    (λ led. leads_as led (λ w v. v.written ≡ w.written ++ place c.args.item.now.place ∷ []) (λ w v is wrote. wrote ∙ ap (λ p. w.written ++ p ∷ []) c.in_ok-at.ensures))
    c.put.ensures.written
