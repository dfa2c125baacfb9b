use Rattle.std.proofs.Common.{ap, true, [], ◌∷◌, ◌++◌, ◌∙◌}
use Rattle.std.proofs.lemmas.Result.{on_ok_weaker}
use Rattle.tree_put.specs.WrittenPlace.{written}
use Rattle.tree_put.proofs.AddedLemmas.{joined_four}
use Rattle.accounts_stage.specs.Places.{memory_places}
use Rattle.accounts_stage.proofs.written_places.add_memory.Goals as goal

pub returns : goal.returns
unfolding memory_places
returns c =
    on_ok_weaker c.push-4.result (λ pushed.
    joined_four _ _ _ _ _ _ _ _ _ c.in_ok-push.ensures.ok c.in_ok-push-2.ensures.ok c.in_ok-push-3.ensures.ok pushed
    ∙ (λ i. c.args.places.now ++ (c.read_before.ensures ∙ ap (written true) c.in_ok-groups_path.ensures) i ∷ (c.read_before-2.ensures ∙ ap (written true) c.in_ok-users_path.ensures) i ∷ (c.read_before-3.ensures ∙ ap (written true) c.in_ok-gids_path.ensures) i ∷ (c.read_before-4.ensures ∙ ap (written true) c.in_ok-uids_path.ensures) i ∷ []))
    c.push-4.ensures.ok
