use Rattle.std.proofs.Common.{◌≡◌, true, inl, ap, refl, subst, sym}
use Rattle.std.proofs.lemmas.Result.{on_ok_weaker}
use Rattle.std.specs.Cmp.Lexicographic.{nat_list_eq_equiv}
use Rattle.host_trait.specs.World.{WorldState}
use Rattle.host_trait.proofs.Moments.{leads_as, started}
use Rattle.tree_put.specs.Put.{IsOldOrGone}
use Rattle.tree_put.specs.Written.{WritesOnly}
use Rattle.tree_put.proofs.WrittenLemmas.{writes_one}
use Rattle.generations.specs.Goal.{goal_place}
use Rattle.generations.specs.GoalPart.{owns_goal}
use Rattle.generations.proofs.rollback_goal.clear_goal.Goals as goal

pub returns-in_err-at-clause-moments : goal.returns-in_err-at-clause-moments
returns-in_err-at-clause-moments g c = started (IsOldOrGone goal_place) (λ w is. inl refl)

pub returns-clause-written : goal.returns-clause-written
returns-clause-written g c =
    on_ok_weaker c.drop_leaf.result (λ led. leads_as led (WritesOnly owns_goal)
    (λ w v is gone. writes_one owns_goal c.in_ok-at.at w v (subst (λ p. owns_goal p ≡ true) (sym c.in_ok-at.ensures) (nat_list_eq_equiv.refl goal_place)) (ap (λ (x : WorldState). x.written) gone))) c.drop_leaf.ensures.ok
