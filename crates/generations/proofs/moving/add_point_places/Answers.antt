use Rattle.std.proofs.Common.{List, [], ◌∷◌, ◌++◌, false, ap, subst, sym, ◌∙◌}
use Rattle.std.proofs.lemmas.Result.{on_ok_weaker}
use Rattle.host_trait.specs.World.{stage}
use Rattle.host_trait.proofs.Sound.{line_turned, not_in_line}
use Rattle.tree_put.specs.declared.written_place.WrittenPlace.{WrittenPlace}
use Rattle.tree_put.specs.WrittenPlace.{AreApartFromStage, written}
use Rattle.tree_put.proofs.AddedLemmas.{apart_joined}
use Rattle.generations.specs.Places.{profile}
use Rattle.generations.proofs.Apart.{profile_apart}
use Rattle.generations.proofs.moving.add_point_places.Goals as goal

pub returns-clause-apart : goal.returns-clause-apart
returns-clause-apart c before =
    on_ok_weaker c.add_stage.result
    (λ added. subst AreApartFromStage
    (sym (added ∙ ap (λ (places : List WrittenPlace). places ++ written false stage ∷ [])
    (c.in_ok-push.ensures.ok ∙ ap (λ (place : WrittenPlace). c.args.places.now ++ place ∷ []) (c.unread.ensures ∙ ap (written false) c.in_ok-profile_path.ensures))))
    (apart_joined (c.args.places.now ++ written false profile ∷ []) (written false stage ∷ [])
    (apart_joined c.args.places.now (written false profile ∷ []) before (line_turned profile stage profile_apart.line, tt)) (not_in_line stage, tt)))
    c.add_stage.ensures
