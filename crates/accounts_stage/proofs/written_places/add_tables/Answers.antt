use Rattle.std.proofs.Common.{ap, true, [], ◌∷◌, ◌++◌, ◌∙◌}
use Rattle.std.proofs.lemmas.Result.{on_ok_weaker}
use Rattle.tree_put.specs.WrittenPlace.{written}
use Rattle.tree_put.proofs.AddedLemmas.{joined_three}
use Rattle.accounts_stage.specs.Places.{table_places}
use Rattle.accounts_stage.proofs.written_places.add_tables.Goals as goal

pub returns : goal.returns
unfolding table_places
returns c =
    on_ok_weaker c.push-3.result (λ pushed.
    joined_three _ _ _ _ _ _ _ c.in_ok-push.ensures.ok c.in_ok-push-2.ensures.ok pushed
    ∙ (λ i. c.args.places.now ++ (c.read_before.ensures ∙ ap (written true) c.in_ok-group_path.ensures) i ∷ (c.read_before-2.ensures ∙ ap (written true) c.in_ok-passwd_path.ensures) i ∷ (c.read_before-3.ensures ∙ ap (written true) c.in_ok-shadow_path.ensures) i ∷ []))
    c.push-3.ensures.ok
