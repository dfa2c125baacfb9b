use Rattle.std.proofs.Common.{ap, true, false, [], ◌∷◌, ◌++◌, ◌∙◌, sym, subst}
use Rattle.std.proofs.lemmas.Result.{on_ok_weaker}
use Rattle.host_trait.specs.World.{stage}
use Rattle.tree_put.specs.WrittenPlace.{AreApartFromStage, written}
use Rattle.tree_put.proofs.AddedLemmas.{apart_joined, joined_three}
use Rattle.etc_farm.specs.FarmPart.{fixed_places}
use Rattle.etc_farm.proofs.PlaceLemmas.{fixed_apart}
use Rattle.etc_farm.proofs.places.add_farm_places.Goals as goal

pub returns-clause-places : goal.returns-clause-places
returns-clause-places c =
    on_ok_weaker c.add_stage.result (λ added.
    joined_three _ _ _ _ _ _ _ c.in_ok-push.ensures.ok c.in_ok-push-2.ensures.ok added
    ∙ (λ i. c.args.places.now ++ (c.read_before.ensures ∙ ap (written true) c.in_ok-clean_path.ensures) i ∷ (c.unread.ensures ∙ ap (written false) c.in_ok-static_path.ensures) i ∷ written false stage ∷ []))
    c.add_stage.ensures

pub returns-clause-apart : goal.returns-clause-apart
returns-clause-apart c before =
    on_ok_weaker c.add_stage.result (λ added.
    subst AreApartFromStage
    (sym (joined_three _ _ _ _ _ _ _ c.in_ok-push.ensures.ok c.in_ok-push-2.ensures.ok added
    ∙ (λ i. c.args.places.now ++ (c.read_before.ensures ∙ ap (written true) c.in_ok-clean_path.ensures) i ∷ (c.unread.ensures ∙ ap (written false) c.in_ok-static_path.ensures) i ∷ written false stage ∷ [])))
    (apart_joined _ fixed_places before fixed_apart))
    c.add_stage.ensures
