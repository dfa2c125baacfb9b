use Rattle.std.proofs.Common.{◌≡◌, List, drop, false, true, ap, ◌∙◌, arith}
use Rattle.std.proofs.lemmas.Grind.{common_steps}
use Rattle.switch_names.specs.Names.{Name, has, is_name}
use Rattle.std.specs.List.{position_or_len}
use Rattle.start_order.proofs.OrderLemmas.{each_waits}
use Rattle.start_order.proofs.TakeLemmas.{some_copied}
use Rattle.start_order.proofs.WalkLemmas.{comes_again, walks_on}
use Rattle.start_order.proofs.walking.cycle_of.Goals as goal

pub returns-then-not-branch-clause-cycle : goal.returns-then-not-branch-clause-cycle
returns-then-not-branch-clause-cycle c =
    let again : has c.loop.seen c.loop.next ≡ true = grind (arith, common_steps) in
    comes_again c.args.graph.now.edges.now c.args.left.now.keys c.args.unit.now c.loop.walk c.loop.next c.loop.seen c.in_ok-part_from.field-0 c.loop.invariant.0 again
    (c.in_ok-part_from.ensures ∙ ap (λ (names : List Name). drop (position_or_len (is_name c.loop.next) names) names) c.as_slice.ensures)

pub unwrap-requires : goal.unwrap-requires
unwrap-requires c =
    some_copied (λ name. name.now) c.waits_for.result _ c.waits_for.ensures.waits (each_waits c.args.graph.now.edges.now c.args.left.now.keys c.loop.next c.requires.stuck c.loop.invariant.0.is_left)

pub loop-preserved : goal.loop-preserved
loop-preserved c =
    let new : has c.loop.seen c.loop.next ≡ false = grind (arith, common_steps) in (
      walks_on c.args.graph.now.edges.now c.args.left.now.keys c.args.unit.now c.loop.walk c.push.new.self c.loop.next c.replace.result c.in_ok-after.after c.replace.new.dest c.loop.seen c.insert.new.self
          c.loop.invariant.0 new (λ name. grind (arith, common_steps)) (grind (arith, common_steps)) c.in_ok-push.ensures.ok c.replace.ensures.value c.replace.ensures.after,
      c.waits_for.ensures.marks,
    )
