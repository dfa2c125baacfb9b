use Rattle.std.proofs.Common.{◌∙◌}
use Rattle.std.proofs.lemmas.Result.{on_ok_weaker}
use Rattle.host_trait.specs.Leaf.{open_file}
use Rattle.tree_put.specs.Sequence.{put_at}
use Rattle.accounts_stage.specs.Files.{closed_file}
use Rattle.accounts_stage.proofs.PuttingLemmas.{three_added}
use Rattle.accounts_stage.proofs.puts.add_tables.Goals as goal

pub returns : goal.returns
returns c =
    on_ok_weaker c.push-3.result
    (λ added. three_added c.args.puts.now c.push.new.self c.push-2.new.self c.push-3.new.self c.open_put-group.result c.open_put-passwd.result c.closed_put-shadow.result _ _ _
    c.in_ok-push.ensures.ok c.in_ok-push-2.ensures.ok added
    (c.open_put-group.ensures ∙ (λ i. put_at (c.in_ok-group_path.ensures i) (open_file (c.in_ok-write_group.ensures.text i))))
    (c.open_put-passwd.ensures ∙ (λ i. put_at (c.in_ok-passwd_path.ensures i) (open_file (c.in_ok-write_passwd.ensures.text i))))
    (c.closed_put-shadow.ensures ∙ (λ i. put_at (c.in_ok-shadow_path.ensures i) (closed_file (c.in_ok-write_shadow.ensures.text i)))))
    c.push-3.ensures.ok
