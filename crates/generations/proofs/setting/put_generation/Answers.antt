use Rattle.std.proofs.Common.{◌≡◌, true, refl, sym, ap, subst, ◌∙◌, inl}
use Rattle.std.proofs.lemmas.Result.{on_ok_weaker}
use Rattle.host_trait.specs.World.{seen, stage}
use Rattle.host_trait.proofs.Moments.{started, passes_as, leads_as, told_as}
use Rattle.tree_put.specs.Put.{AreApart, CanPut}
use Rattle.tree_put.specs.Written.{WritesOnly}
use Rattle.tree_put.proofs.WrittenLemmas.{writes_none, writes_one}
use Rattle.generations.specs.Places.{number_after}
use Rattle.generations.specs.ProfilePart.{owns_profile}
use Rattle.generations.specs.Set.{IsLinkMoment, link_end}
use Rattle.generations.proofs.Apart.{link_apart}
use Rattle.generations.proofs.Numbers.{highest_of_world, number_of_world}
use Rattle.generations.proofs.ProfileApart.{link_owned}
use Rattle.generations.proofs.SetLemmas.{kept_generation, can_put_link, link_moment, link_world}
use Rattle.generations.proofs.setting.put_generation.Goals as goal

pub returns-then-is_highest_of-clause-ok : goal.returns-then-is_highest_of-clause-ok
returns-then-is_highest_of-clause-ok g c = (started (λ w v. seen v ≡ link_end c.args.system.now w) (λ w is.
    ap seen (sym (kept_generation c.args.system.now (number_after w.leaves c.args.system.now) w
    (sym (highest_of_world w.leaves c.args.gens.now c.args.system.now (c.requires.gens.has w is)) ∙ sym c.is_highest_of.ensures ∙ c.if-is_highest_of.true))))).tells

pub returns-then-is_highest_of-clause-moments : goal.returns-then-is_highest_of-clause-moments
returns-then-is_highest_of-clause-moments g c = started (IsLinkMoment c.args.system.now) (λ w is. inl refl)

pub returns-in_err-at-clause-moments : goal.returns-in_err-at-clause-moments
returns-in_err-at-clause-moments g c = started (IsLinkMoment c.args.system.now) (λ w is. inl refl)

pub returns-in_err-link-clause-moments : goal.returns-in_err-link-clause-moments
returns-in_err-link-clause-moments g c = started (IsLinkMoment c.args.system.now) (λ w is. inl refl)

pub put-requires-clause-apart : goal.put-requires-clause-apart
put-requires-clause-apart g c = subst (λ p. AreApart p stage) (sym c.in_ok-at.ensures) (link_apart c.args.number)

pub put-requires-clause-can : goal.put-requires-clause-can
put-requires-clause-can g c = told_as c.requires.can (CanPut c.in_ok-at.at) (λ w is can.
    can_put_link c.args.system.now c.args.number c.in_ok-at.at w c.in_ok-at.ensures
    (number_of_world w.leaves c.args.gens.now c.args.system.now c.args.number (c.requires.gens.has w is) c.requires.number)
    (sym (highest_of_world w.leaves c.args.gens.now c.args.system.now (c.requires.gens.has w is)) ∙ sym c.is_highest_of.ensures ∙ c.if-is_highest_of.false) can)

pub returns-clause-ok : goal.returns-clause-ok
returns-clause-ok g c = on_ok_weaker c.put.result (λ ok. leads_as ok (λ w v. seen v ≡ link_end c.args.system.now w) (λ w v is new.
    link_world c.args.system.now c.args.number c.in_ok-at.at c.in_ok-link.link w v c.in_ok-at.ensures c.in_ok-link.ensures
    (number_of_world w.leaves c.args.gens.now c.args.system.now c.args.number (c.requires.gens.has w is) c.requires.number)
    (sym (highest_of_world w.leaves c.args.gens.now c.args.system.now (c.requires.gens.has w is)) ∙ sym c.is_highest_of.ensures ∙ c.if-is_highest_of.false) new)) c.put.ensures.ok

pub returns-clause-moments : goal.returns-clause-moments
returns-clause-moments g c = passes_as c.put.ensures.moments (IsLinkMoment c.args.system.now) (λ w m is moment.
    link_moment c.args.system.now c.args.number c.in_ok-at.at c.in_ok-link.link w m c.in_ok-at.ensures c.in_ok-link.ensures
    (number_of_world w.leaves c.args.gens.now c.args.system.now c.args.number (c.requires.gens.has w is) c.requires.number)
    (sym (highest_of_world w.leaves c.args.gens.now c.args.system.now (c.requires.gens.has w is)) ∙ sym c.is_highest_of.ensures ∙ c.if-is_highest_of.false) moment)

pub returns-then-is_highest_of-clause-written : goal.returns-then-is_highest_of-clause-written
returns-then-is_highest_of-clause-written g c = (started (WritesOnly owns_profile) (λ w is. writes_none owns_profile w w refl)).tells

pub returns-clause-written : goal.returns-clause-written
returns-clause-written g c =
    on_ok_weaker c.put.result (λ led. leads_as led (WritesOnly owns_profile)
    (λ w v is new. writes_one owns_profile c.in_ok-at.at w v (subst (λ p. owns_profile p ≡ true) (sym c.in_ok-at.ensures) (link_owned c.args.number)) new)) c.put.ensures.written
