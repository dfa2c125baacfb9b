use Rattle.std.proofs.Common.{◌≡◌, true, inl, refl, subst, sym}
use Rattle.std.proofs.lemmas.Result.{on_ok_weaker}
use Rattle.std.specs.Cmp.Lexicographic.{nat_list_eq_equiv}
use Rattle.host_trait.specs.World.{stage}
use Rattle.host_trait.proofs.Moments.{leads_as, started}
use Rattle.tree_put.specs.Put.{AreApart, IsOldOrNew}
use Rattle.tree_put.specs.Written.{WritesOnly}
use Rattle.tree_put.proofs.WrittenLemmas.{writes_one}
use Rattle.generations.specs.Goal.{goal_leaf, goal_place}
use Rattle.generations.specs.GoalPart.{owns_goal}
use Rattle.generations.proofs.Apart.{goal_apart}
use Rattle.generations.proofs.rollback_goal.record_goal.Goals as goal

pub returns-in_err-at-clause-moments : goal.returns-in_err-at-clause-moments
returns-in_err-at-clause-moments g c = started (IsOldOrNew goal_place (goal_leaf c.args.number)) (λ w is. inl refl)

pub returns-in_err-leaf-clause-moments : goal.returns-in_err-leaf-clause-moments
returns-in_err-leaf-clause-moments g c = started (IsOldOrNew goal_place (goal_leaf c.args.number)) (λ w is. inl refl)

pub put-requires-clause-apart : goal.put-requires-clause-apart
put-requires-clause-apart g c = subst (λ p. AreApart p stage) (sym c.in_ok-at.ensures) goal_apart

pub returns-clause-written : goal.returns-clause-written
returns-clause-written g c =
    on_ok_weaker c.put.result (λ led. leads_as led (WritesOnly owns_goal)
    (λ w v is new. writes_one owns_goal c.in_ok-at.at w v (subst (λ p. owns_goal p ≡ true) (sym c.in_ok-at.ensures) (nat_list_eq_equiv.refl goal_place)) new)) c.put.ensures.written
