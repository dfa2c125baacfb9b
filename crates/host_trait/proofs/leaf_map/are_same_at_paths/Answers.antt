use Rattle.std.proofs.Common.{refl, subst, sym}
use Rattle.std.proofs.lemmas.Bool.{both_ways}
use Rattle.std.specs.List.{AllByRecursion}
use Rattle.host_trait.specs.LeafMap.{leaves_of}
use Rattle.host_trait.specs.World.{IsSameAt}
use Rattle.host_trait.proofs.leaf_map.are_same_at_paths.Goals as goal

pub loop-path-preserved : goal.loop-path-preserved
loop-path-preserved c =
    let AllSame = AllByRecursion (IsSameAt (leaves_of c.args.leaves.now) (leaves_of c.args.other.now)) in
    let here = c.is_same_at.ensures.0 c.if-not-is_same_at.false in (
      λ all. (subst AllSame c.in-Some.ensures.steps (c.loop-path.invariant.0 all)).1,
      λ rest. c.loop-path.invariant.1 (subst AllSame (sym c.in-Some.ensures.steps) (here, rest)),
    )

pub returns : goal.returns
returns c =
    let AllSame = AllByRecursion (IsSameAt (leaves_of c.args.leaves.now) (leaves_of c.args.other.now)) in
    (λ is. c.loop-path.invariant.1 (subst AllSame (sym c.in-None.ensures.steps.0) tt), λ all. refl)

pub returns-then-not-is_same_at : goal.returns-then-not-is_same_at
returns-then-not-is_same_at c =
    let AllSame = AllByRecursion (IsSameAt (leaves_of c.args.leaves.now) (leaves_of c.args.other.now)) in
    (λ is. absurd (both_ways _ refl is), λ all. absurd (both_ways _ c.if-not-is_same_at.true (c.is_same_at.ensures.1 (subst AllSame c.in-Some.ensures.steps (c.loop-path.invariant.0 all)).0)))
