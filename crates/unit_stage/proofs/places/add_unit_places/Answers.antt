use Rattle.std.proofs.Common.{ap, false, ◌∷◌, ◌++◌, ◌∙◌, sym, subst}
use Rattle.std.proofs.lemmas.Result.{on_ok_weaker}
use Rattle.host_trait.specs.World.{stage}
use Rattle.tree_put.specs.declared.written_place.WrittenPlace.{WrittenPlace}
use Rattle.tree_put.specs.WrittenPlace.{AreApartFromStage, written}
use Rattle.tree_put.proofs.AddedLemmas.{apart_joined, joined_three}
use Rattle.unit_stage.specs.Owned.{list_places, unit_places}
use Rattle.unit_stage.proofs.ApartLemmas.{units_apart}
use Rattle.unit_stage.proofs.places.add_unit_places.Goals as goal

pub returns-clause-places : goal.returns-clause-places
returns-clause-places c =
    on_ok_weaker c.add_lists.result (λ added.
    joined_three _ _ _ _ _ _ _ c.in_ok-add_stage.ensures c.in_ok-push.ensures.ok added
    ∙ ap (λ (place : WrittenPlace). c.args.places.now ++ written false stage ∷ place ∷ list_places) (c.unread.ensures ∙ ap (written false) c.in_ok-current_path.ensures))
    c.add_lists.ensures

pub returns-clause-apart : goal.returns-clause-apart
returns-clause-apart c before =
    on_ok_weaker c.add_lists.result (λ added.
    subst AreApartFromStage
    (sym (joined_three _ _ _ _ _ _ _ c.in_ok-add_stage.ensures c.in_ok-push.ensures.ok added
    ∙ ap (λ (place : WrittenPlace). c.args.places.now ++ written false stage ∷ place ∷ list_places) (c.unread.ensures ∙ ap (written false) c.in_ok-current_path.ensures)))
    (apart_joined _ unit_places before units_apart))
    c.add_lists.ensures
