use Rattle.std.proofs.Common.{◌≡◌, true, refl, sym, ap, subst, ◌∙◌, inl}
use Rattle.std.proofs.lemmas.Result.{on_ok_weaker}
use Rattle.host_trait.specs.declared.leaf.LeafKind.TheVariants.{Link}
use Rattle.host_trait.specs.World.{seen, stage, with_leaf}
use Rattle.host_trait.proofs.Moments.{started, leads_as, passes_as}
use Rattle.tree_put.specs.Put.{AreApart, IsOldOrNew}
use Rattle.tree_put.specs.Written.{WritesOnly}
use Rattle.tree_put.proofs.WrittenLemmas.{writes_one}
use Rattle.generations.specs.Places.{link_name, profile, with_profile}
use Rattle.generations.specs.ProfilePart.{owns_profile}
use Rattle.generations.proofs.Apart.{profile_apart}
use Rattle.generations.proofs.ProfileApart.{profile_owned}
use Rattle.generations.proofs.setting.point.Goals as goal

pub returns-in_err-at-clause-moments : goal.returns-in_err-at-clause-moments
returns-in_err-at-clause-moments g c = started (IsOldOrNew profile (Link (link_name c.args.number))) (λ w is. inl refl)

pub returns-in_err-link-clause-moments : goal.returns-in_err-link-clause-moments
returns-in_err-link-clause-moments g c = started (IsOldOrNew profile (Link (link_name c.args.number))) (λ w is. inl refl)

pub put-requires-clause-apart : goal.put-requires-clause-apart
put-requires-clause-apart g c = subst (λ p. AreApart p stage) (sym c.in_ok-at.ensures) profile_apart

pub returns-clause-ok : goal.returns-clause-ok
returns-clause-ok g c =
    on_ok_weaker c.put.result (λ ok. leads_as ok (λ w v. seen v ≡ seen (with_profile c.args.number w))
    (λ w v is new. new ∙ ap (λ p. seen (with_leaf p c.in_ok-link.link w)) c.in_ok-at.ensures ∙ ap (λ l. seen (with_leaf profile l w)) c.in_ok-link.ensures)) c.put.ensures.ok

pub returns-clause-moments : goal.returns-clause-moments
returns-clause-moments g c = passes_as c.put.ensures.moments (IsOldOrNew profile (Link (link_name c.args.number))) (λ w m is moment.
    subst (λ l. IsOldOrNew profile l w m) c.in_ok-link.ensures (subst (λ p. IsOldOrNew p c.in_ok-link.link w m) c.in_ok-at.ensures moment))

pub returns-clause-written : goal.returns-clause-written
returns-clause-written g c =
    on_ok_weaker c.put.result (λ led. leads_as led (WritesOnly owns_profile)
    (λ w v is new. writes_one owns_profile c.in_ok-at.at w v (subst (λ p. owns_profile p ≡ true) (sym c.in_ok-at.ensures) profile_owned) new)) c.put.ensures.written
