use Rattle.std.proofs.Common.{ap, ◌∙◌}
use Rattle.std.proofs.lemmas.Result.{on_ok_weaker}
use Rattle.host_trait.specs.Leaf.{open_file}
use Rattle.id_memory.specs.Json.{ids_text}
use Rattle.tree_put.specs.Sequence.{put_at}
use Rattle.accounts_stage.proofs.PuttingLemmas.{two_added}
use Rattle.accounts_stage.proofs.puts.add_ids.Goals as goal

pub returns : goal.returns
returns c =
    let ids = c.args.ids.now in
    on_ok_weaker c.push-2.result
    (λ added. two_added c.args.puts.now c.push.new.self c.push-2.new.self c.in_ok-uids.uids c.in_ok-gids.gids _ _ c.in_ok-push.ensures.ok added
    (c.in_ok-uids.ensures ∙ ap (λ at. put_at at (open_file (ids_text ids.uids))) c.in_ok-uids_path.ensures)
    (c.in_ok-gids.ensures ∙ ap (λ at. put_at at (open_file (ids_text ids.gids))) c.in_ok-gids_path.ensures))
    c.push-2.ensures.ok
