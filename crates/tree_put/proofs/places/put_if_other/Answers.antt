use Rattle.std.proofs.Common.{◌≡◌, ◌∷◌, ◌++◌, [], append-nil, true, false, refl, sym, ap, subst, ◌∙◌, inl}
use Rattle.host_trait.specs.World.{WorldState, seen, with_leaf}
use Rattle.host_trait.proofs.Moments.{same_as, same_then, leads_as, leads_then, told_after}
use Rattle.host_trait.proofs.Seen.{same_leaf}
use Rattle.tree_put.specs.Put.{CanPut, IsOldOrNew, written_if}
use Rattle.host_trait.proofs.Causes.{cause_ok, cause_then}
use Rattle.tree_put.proofs.places.put_if_other.Goals as goal

pub returns-in_err-stands-clause-moments : goal.returns-in_err-stands-clause-moments
returns-in_err-stands-clause-moments g c = same_as c.read.ensures.reads.moments (IsOldOrNew c.args.at.now c.args.leaf.now) (λ w is. inl refl)

pub returns-then-is_leaf-clause-ok : goal.returns-then-is_leaf-clause-ok
returns-then-is_leaf-clause-ok g c =
    leads_as c.read.ensures.reads.moments.tells (λ w v. seen v ≡ seen (with_leaf c.args.at.now c.args.leaf.now w))
    (λ w v is same. ap seen (same ∙ sym (same_leaf c.args.at.now c.args.leaf.now w (sym (c.in_ok-stands.ensures.leaf.has w is) ∙ c.if-is_leaf.ensures))))

pub returns-then-is_leaf-clause-written : goal.returns-then-is_leaf-clause-written
returns-then-is_leaf-clause-written g c =
    leads_as c.read.ensures.reads.moments.tells (λ w v. v.written ≡ w.written ++ written_if false c.args.at.now)
    (λ w v is same. ap (λ (x : WorldState). x.written) same ∙ sym (append-nil w.written))

pub returns-then-is_leaf-clause-moments : goal.returns-then-is_leaf-clause-moments
returns-then-is_leaf-clause-moments g c = same_as c.read.ensures.reads.moments (IsOldOrNew c.args.at.now c.args.leaf.now) (λ w is. inl refl)

pub returns-in_err-put-clause-moments : goal.returns-in_err-put-clause-moments
returns-in_err-put-clause-moments g c =
    same_then c.read.ensures.reads.moments c.put.ensures.moments (IsOldOrNew c.args.at.now c.args.leaf.now) (λ w is. inl refl) (λ w m is moment. moment)

pub returns-clause-ok : goal.returns-clause-ok
returns-clause-ok g c =
    leads_then c.read.ensures.reads.moments.tells c.in_ok-put.ensures.ok (λ w v. seen v ≡ seen (with_leaf c.args.at.now c.args.leaf.now w))
    (λ w v u is_w is_v same done. subst (λ x. seen u ≡ seen (with_leaf c.args.at.now c.args.leaf.now x)) same done)

pub returns-clause-written : goal.returns-clause-written
returns-clause-written g c =
    leads_then c.read.ensures.reads.moments.tells c.in_ok-put.ensures.written (λ w v. v.written ≡ w.written ++ written_if true c.args.at.now)
    (λ w v u is_w is_v same done. done ∙ ap (λ (x : WorldState). x.written ++ c.args.at.now ∷ []) same)

pub returns-clause-moments : goal.returns-clause-moments
returns-clause-moments g c =
    same_then c.read.ensures.reads.moments c.put.ensures.moments (IsOldOrNew c.args.at.now c.args.leaf.now) (λ w is. inl refl) (λ w m is moment. moment)

pub returns-then-is_leaf-clause-put : goal.returns-then-is_leaf-clause-put
returns-then-is_leaf-clause-put g c = record { has = λ w is. sym (c.in_ok-stands.ensures.leaf.has w is) ∙ c.if-is_leaf.ensures }

pub returns-then-is_leaf-clause-cause : goal.returns-then-is_leaf-clause-cause
returns-then-is_leaf-clause-cause g c = cause_ok c.read.ensures.reads.cause false

pub returns-clause-cause : goal.returns-clause-cause
returns-clause-cause g c = cause_ok (cause_then c.read.ensures.reads.cause c.put.ensures.cause) true

pub returns-clause-put : goal.returns-clause-put
returns-clause-put g c = record { has = λ w is same. c.if-is_leaf.ensures (c.in_ok-stands.ensures.leaf.has w is ∙ same) }

pub put-requires-clause-can : goal.put-requires-clause-can
put-requires-clause-can g c =
    told_after c.read.ensures.reads.moments c.read.ensures.reads.moments.tells (CanPut c.args.at.now) (λ w v is same. subst (λ x. CanPut c.args.at.now x) (sym same) (c.requires.can.has w is))

pub returns-then-is_leaf-clause-still : goal.returns-then-is_leaf-clause-still
returns-then-is_leaf-clause-still g c = λ never. c.read.ensures.reads.moments
