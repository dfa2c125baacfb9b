use Rattle.std.proofs.Common.{List, ℕ, subst, sym, ◌∙◌}
use Rattle.std.specs.FinMap.{from_entries, insert}
use Rattle.host_trait.specs.declared.leaf.LeafKind.{LeafKind}
use Rattle.host_trait.specs.LeafMap.{leaves_of}
use Rattle.host_trait.specs.World.{Leaves, bytes_cmp}
use Rattle.host_trait.proofs.Copies.{AreRest, all_copied, none_copied, one_copied}
use Rattle.host_trait.proofs.copying.copy_leaves.Goals as goal

pub loop-path-init : goal.loop-path-init
loop-path-init c =
    let all = leaves_of c.args.leaves.now in
    subst (λ (rest : List (List ℕ × LeafKind)). AreRest all (leaves_of c.new-copied.result) rest) (sym (c.into_iter-path-iterator.ensures.into_iter_gives ∙ c.iter-path-items.ensures.rest))
    (subst (λ (es : List (List ℕ × LeafKind)). AreRest all (from_entries {R = bytes_cmp} es) c.args.leaves.now.entries) (sym c.new-copied.ensures.empty)
    (none_copied c.args.leaves.now.entries c.iter-path-items.ensures.ordered))

pub loop-path-preserved-in_ok-_none : goal.loop-path-preserved-in_ok-_none
loop-path-preserved-in_ok-_none c =
    let all = leaves_of c.args.leaves.now in
    let before = leaves_of c.loop-path.copied in
    let key = c.in_ok-copy.ensures in
    let leaf = c.in_ok-copy-2.ensures in
    subst (λ (m : Leaves). AreRest all m c.next.new.self) (sym (c.in_ok-_none.ensures.ok ∙ (λ i. insert before (key i) (leaf i))))
    (one_copied all before c.in-Some.path.now c.in-Some.leaf.now c.next.new.self
    (subst (λ (rest : List (List ℕ × LeafKind)). AreRest all before rest) c.in-Some.ensures.steps c.loop-path.invariant))

pub loop-path-preserved : goal.loop-path-preserved
loop-path-preserved c =
    let all = leaves_of c.args.leaves.now in
    let before = leaves_of c.loop-path.copied in
    let key = c.in_ok-copy.ensures in
    let leaf = c.in_ok-copy-2.ensures in
    subst (λ (m : Leaves). AreRest all m c.next.new.self) (sym (c.in_ok-_none.ensures.ok ∙ (λ i. insert before (key i) (leaf i))))
    (one_copied all before c.in-Some.path.now c.in-Some.leaf.now c.next.new.self
    (subst (λ (rest : List (List ℕ × LeafKind)). AreRest all before rest) c.in-Some.ensures.steps c.loop-path.invariant))

pub returns : goal.returns
returns c =
    all_copied (leaves_of c.args.leaves.now) (leaves_of c.loop-path.copied)
    (subst (λ (rest : List (List ℕ × LeafKind)). AreRest (leaves_of c.args.leaves.now) (leaves_of c.loop-path.copied) rest) c.in-None.ensures.steps.0 c.loop-path.invariant)
