use Rattle.std.proofs.Common.{sym, subst, ◌∙◌, arith}
use Rattle.std.specs.List.Sorted.{IsStrictlySortedBy}
use Rattle.std.proofs.lemmas.Option.{slice_get_within}
use Rattle.host_trait.specs.Bytes.{bytes_cmp}
use Rattle.start_order.specs.Graph.{AreMarks}
use Rattle.start_order.specs.Ordered.{IsOrdered}
use Rattle.start_order.proofs.MarkLemmas.{taken_marks}
use Rattle.start_order.proofs.OrderLemmas.{next_among}
use Rattle.start_order.proofs.UnderWayLemmas.{among, begun, ended_way, goes_on}
use Rattle.start_order.proofs.ordering.order.Goals as goal

pub loop-init : goal.loop-init
loop-init c = (
  begun c.as_slice-units.result.now c.as_slice-edges.result.now c.in_ok-left.left.keys c.in_ok-free.free.keys _ c.new.ensures (c.in_ok-copy_edges.ensures ∙ c.as_slice.ensures ∙ sym c.as_slice-edges.ensures) c.new-2.ensures c.new-3.ensures
      c.in_ok-left.ensures.sorted c.in_ok-left.ensures.all c.in_ok-free.ensures.sorted c.in_ok-free.ensures.free,
  c.in_ok-free.ensures.marks,
)

pub returns-in_default : goal.returns-in_default
returns-in_default c =
    subst (λ units. IsOrdered units c.args.edges.now c.add_broken.new.ordered) c.as_slice-units.ensures (subst (λ edges. IsOrdered c.as_slice-units.result.now edges c.add_broken.new.ordered) c.as_slice-edges.ensures
    (ended_way c.as_slice-units.result.now c.as_slice-edges.result.now (subst (IsStrictlySortedBy bytes_cmp) (sym c.as_slice-units.ensures) c.requires.units) _ _ _ _ c.loop.invariant.0 c.in_ok-add_broken.ensures.none (sym c.in_default.ensures.next)))

pub place_in-at-requires-clause-there : goal.place_in-at-requires-clause-there
place_in-at-requires-clause-there c =
    among c.as_slice-units.result.now c.as_slice-edges.result.now c.loop.left.keys _ c.loop.ordered c.loop.invariant.0 c.in-Some.unit (next_among c.as_slice-edges.result.now c.loop.left.keys c.in-Some.unit (sym c.in-Some.ensures.next))

pub replace-was-requires : goal.replace-was-requires
replace-was-requires c =
    let within = slice_get_within c.as_slice-units.result.now c.place_in-at.result c.in-Some.unit c.place_in-at.ensures in
    let many = c.in_ok-add_broken.ensures.marks.many_taken in
    omega (arith, within, many)

pub release-requires-clause-marks : goal.release-requires-clause-marks
release-requires-clause-marks c =
    subst (λ taken. AreMarks c.as_slice-units.result.now c.as_slice-edges.result.now c.take_next.new.left.keys (record { taken = taken; passed = c.add_broken.new.marks.passed })) (sym c.replace-was.ensures.new)
    (taken_marks c.as_slice-units.result.now c.as_slice-edges.result.now c.loop.left.keys c.add_broken.new.marks c.in_ok-add_broken.ensures.marks c.take_next.new.left.keys c.place_in-at.result c.in-Some.unit
    (subst (IsStrictlySortedBy bytes_cmp) (sym c.as_slice-units.ensures) c.requires.units) c.place_in-at.ensures c.in-Some.ensures.fewer)

pub release-requires-clause-there : goal.release-requires-clause-there
release-requires-clause-there c = slice_get_within c.as_slice-units.result.now c.place_in-at.result c.in-Some.unit c.place_in-at.ensures

pub loop-preserved : goal.loop-preserved
loop-preserved c = (
  goes_on c.as_slice-units.result.now c.as_slice-edges.result.now (subst (IsStrictlySortedBy bytes_cmp) (sym c.as_slice-units.ensures) c.requires.units) _ _ _ c.loop.invariant.0 c.in-Some.unit (sym c.in-Some.ensures.next) _ _ _ c.in-Some.ensures.left c.in_ok-release.ensures.sorted
      c.in-Some.ensures.fewer c.in-Some.ensures.fewer_free (λ other. c.in_ok-release.ensures.added c.in-Some.unit other c.place_in-at.ensures) _
      c.in_ok-add_broken.ensures.none c.in_ok-add_broken.ensures.broken _ c.in_ok-push.ensures.ok,
  c.in_ok-release.ensures.marks,
)
