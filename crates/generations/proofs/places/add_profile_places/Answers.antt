use Rattle.std.proofs.Common.{◌++◌, ◌∙◌, ap, subst, sym}
use Rattle.std.proofs.lemmas.Result.{on_ok_weaker}
use Rattle.tree_put.specs.WrittenPlace.{AreApartFromStage}
use Rattle.tree_put.proofs.AddedLemmas.{apart_joined}
use Rattle.generations.proofs.PlacesLemmas.{places_apart, places_of_world}
use Rattle.generations.proofs.places.add_profile_places.Goals as goal

pub returns-clause-places : goal.returns-clause-places
returns-clause-places c =
    on_ok_weaker c.add_places.result (λ added leaves of_world. added ∙ ap (λ ps. c.args.places.now ++ ps) (places_of_world leaves c.args.gens.now c.args.system.now of_world)) c.add_places.ensures

pub returns-clause-apart : goal.returns-clause-apart
returns-clause-apart c apart =
    on_ok_weaker c.add_places.result (λ added. subst AreApartFromStage (sym added) (apart_joined c.args.places.now _ apart (places_apart c.args.gens.now.list c.args.system.now))) c.add_places.ensures
