use Rattle.std.proofs.Common.{[], ◌∷◌, ◌++◌, false, ap, subst, sym, ◌∙◌}
use Rattle.std.proofs.lemmas.Result.{on_ok_weaker}
use Rattle.host_trait.specs.World.{stage}
use Rattle.host_trait.proofs.Sound.{line_turned}
use Rattle.tree_put.specs.declared.written_place.WrittenPlace.{WrittenPlace}
use Rattle.tree_put.specs.WrittenPlace.{AreApartFromStage, written}
use Rattle.tree_put.proofs.AddedLemmas.{apart_joined}
use Rattle.generations.specs.Goal.{goal_place}
use Rattle.generations.specs.GoalPart.{goal_places}
use Rattle.generations.proofs.Apart.{goal_apart}
use Rattle.generations.proofs.moving.add_goal_place.Goals as goal

pub returns-clause-apart : goal.returns-clause-apart
returns-clause-apart c before =
    on_ok_weaker c.push.result
    (λ added. subst AreApartFromStage
    (sym (added ∙ ap (λ (place : WrittenPlace). c.args.places.now ++ place ∷ []) (c.unread.ensures ∙ ap (written false) c.in_ok-goal_path.ensures)))
    (apart_joined c.args.places.now goal_places before (line_turned goal_place stage goal_apart.line, tt)))
    c.push.ensures.ok
