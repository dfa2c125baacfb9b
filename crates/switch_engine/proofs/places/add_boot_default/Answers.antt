use Rattle.std.proofs.Common.{false, [], ◌∷◌, ◌++◌, sym, subst, ap, ◌∙◌}
use Rattle.std.proofs.lemmas.Result.{on_ok_weaker}
use Rattle.tree_put.specs.WrittenPlace.{AreApartFromStage, written}
use Rattle.host_trait.specs.World.{stage}
use Rattle.switch_engine.proofs.PlaceLemmas.{boot_are, stage_apart}
use Rattle.tree_put.proofs.AddedLemmas.{apart_joined, joined_three}
use Rattle.generations.specs.Move.{gens_moved, move_places}
use Rattle.boot_entries.specs.BootDefault.{menu_places}
use Rattle.switch_engine.proofs.places.add_boot_default.Goals as goal

pub returns-clause-places : goal.returns-clause-places
returns-clause-places c =
    on_ok_weaker c.add_stage.result
    (λ staged leaves is.
    let system = c.args.system.now in let to = c.args.to in
    let list = (gens_moved to system leaves).list in
    joined_three c.args.places.now c.add_move_places.new.places c.add_menu_places.new.places c.add_stage.new.places (move_places to system leaves) (menu_places list) (written false stage ∷ [])
    (c.in_ok-add_move_places.ensures.places leaves is) (c.in_ok-add_menu_places.ensures.places leaves is) staged
    ∙ ap (λ ps. c.args.places.now ++ (move_places to system leaves ++ ps)) (sym (boot_are list)))
    c.add_stage.ensures

pub returns-clause-apart : goal.returns-clause-apart
returns-clause-apart c before =
    let menu = c.in_ok-add_menu_places.ensures.apart (c.in_ok-add_move_places.ensures.apart before) in
    on_ok_weaker c.add_stage.result (λ staged. subst AreApartFromStage (sym staged) (apart_joined _ (written false stage ∷ []) menu stage_apart)) c.add_stage.ensures
