use Rattle.std.proofs.Common.{ap, ◌∙◌}
use Rattle.std.proofs.lemmas.Result.{on_ok_weaker}
use Rattle.host_trait.specs.Leaf.{open_file}
use Rattle.tree_put.specs.Sequence.{put_at}
use Rattle.accounts_stage.specs.Files.{names_text}
use Rattle.accounts_stage.proofs.PuttingLemmas.{two_added}
use Rattle.accounts_stage.proofs.puts.add_names.Goals as goal

pub returns : goal.returns
returns c =
    let names = c.args.names.now in
    on_ok_weaker c.push-2.result
    (λ added. two_added c.args.puts.now c.push.new.self c.push-2.new.self c.in_ok-users.users c.in_ok-groups.groups _ _ c.in_ok-push.ensures.ok added
    (c.in_ok-users.ensures ∙ ap (λ at. put_at at (open_file (names_text names.users))) c.in_ok-users_path.ensures)
    (c.in_ok-groups.ensures ∙ ap (λ at. put_at at (open_file (names_text names.groups))) c.in_ok-groups_path.ensures))
    c.push-2.ensures.ok
