use Rattle.std.proofs.Common.{sym}
use Rattle.std.proofs.lemmas.Bool.{both_ways}
use Rattle.host_trait.proofs.SameLeaves.{all_same, same_leaves}
use Rattle.host_trait.proofs.leaf_map.are_same_leaves.Goals as goal

pub returns-then-are_same_at_paths : goal.returns-then-are_same_at_paths
returns-then-are_same_at_paths c =
    let es = c.args.leaves.now.entries in
    let fs = c.args.other.now.entries in
    let first = c.are_same_at_paths.ensures in
    let second = c.are_same_at_paths-then-are_same_at_paths.ensures in
    (λ is. same_leaves es fs (first.0 c.if-are_same_at_paths.true) (second.0 is), λ same. second.1 (all_same fs es (sym same)))

pub returns-else-are_same_at_paths : goal.returns-else-are_same_at_paths
returns-else-are_same_at_paths c =
    let es = c.args.leaves.now.entries in
    let fs = c.args.other.now.entries in (
      λ is. absurd (both_ways _ c.if-are_same_at_paths.false is),
      λ same. absurd (both_ways _ c.if-are_same_at_paths.false (c.are_same_at_paths.ensures.1 (all_same es fs same))),
    )
