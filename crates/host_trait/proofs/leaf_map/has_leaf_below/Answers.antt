use Rattle.std.proofs.Common.{◌≡◌, false, ℕ, List, None, Some, IsSome, IfSome, IsNone, Option, refl, sym, subst, ◌∙◌}
use Rattle.std.specs.BTreeMap.Range.{IsEntryInRange}
use Rattle.std.specs.List.{slice_get}
use Rattle.std.specs.Ordering.{is_gt}
use Rattle.std.specs.declared.ops.Bound.TheVariants.{Included, Unbounded}
use Rattle.host_trait.specs.declared.leaf.LeafKind.{LeafKind}
use Rattle.host_trait.specs.LeafMap.{leaves_of}
use Rattle.host_trait.specs.World.{bytes_cmp}
use Rattle.host_trait.proofs.BelowKeys.{first_tells, least_below, never_tells, none_tells}
use Rattle.host_trait.proofs.Places.{found}
use Rattle.host_trait.proofs.leaf_map.has_leaf_below.Goals as goal

none_is : {X : Type 0} (o : Option X) → o ≡ None → IsNone o
none_is None is = refl
none_is (Some x) is = absurd cc

pub returns-in-Some-next : goal.returns-in-Some-next
returns-in-Some-next c = λ sound.
    let es = c.args.leaves.now.entries in
    let path = c.in-Some-next.path.now in
    let least : c.in-Some.least ≡ least_below c.args.at.now = subst (λ o. IfSome o (λ made. made ≡ least_below c.args.at.now)) c.in-Some.is c.in_ok-least.ensures.some in
    let range = c.range.ensures.in_range tt in
    let head =
    subst (λ (r : List (List ℕ × LeafKind)). IfSome (slice_get r 0) (IsEntryInRange bytes_cmp (Included c.in-Some.least) Unbounded c.args.leaves.now))
    c.in-Some-next.ensures.steps range.1 in
    c.is_below.ensures
    ∙ first_tells (leaves_of c.args.leaves.now) c.args.at.now sound.paths path
    (subst (λ o. IsSome o) (sym (found es path ∙ head.1)) refl)
    (subst (λ x. is_gt (bytes_cmp x path) ≡ false) least head.0.0)
    (λ q from there.
    subst (λ (r : List (List ℕ × LeafKind)). IfSome (slice_get r 0) (λ e. is_gt (bytes_cmp e.0 q) ≡ false)) c.in-Some-next.ensures.steps
    (range.2 q (subst (λ x. is_gt (bytes_cmp x q) ≡ false) (sym least) from, tt) (subst (λ o. IsSome o) (found es q) there)))

pub returns : goal.returns
returns c = λ sound.
    let es = c.args.leaves.now.entries in
    let least : c.in-Some.least ≡ least_below c.args.at.now = subst (λ o. IfSome o (λ made. made ≡ least_below c.args.at.now)) c.in-Some.is c.in_ok-least.ensures.some in
    let range = c.range.ensures.in_range tt in
    none_tells (leaves_of c.args.leaves.now) c.args.at.now sound.paths
    (λ q from. found es q ∙ range.5 c.in-None.ensures.steps.0 q (subst (λ x. is_gt (bytes_cmp x q) ≡ false) (sym least) from, tt))

pub returns-in_default : goal.returns-in_default
returns-in_default c = λ sound.
    never_tells (leaves_of c.args.leaves.now) c.args.at.now sound.paths (c.in_ok-least.ensures.none (none_is c.in_ok-least.field-0 c.in_default.is))
