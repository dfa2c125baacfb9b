use Rattle.std.proofs.Common.{ap}
use Rattle.host_trait.specs.declared.leaf.LeafKind.{LeafKind}
use Rattle.tree_put.specs.Sequence.{put_at}
use Rattle.accounts_stage.proofs.puts.closed_put.Goals as goal

pub returns : goal.returns
returns c = ap (λ (leaf : LeafKind). put_at c.args.at leaf) c.file.ensures
