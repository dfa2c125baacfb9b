use Rattle.std.proofs.Common.{◌≡◌, ◌++◌, ◌+◌, [], ◌∷◌, take, sym, subst, arith}
use Rattle.std.proofs.lemmas.Grind.{common_steps}
use Rattle.start_order.specs.Graph.{AreRows, afters_of, befores_of}
use Rattle.start_order.proofs.GraphLemmas.{afters_behind, befores_behind, pushed_rows}
use Rattle.start_order.proofs.graph.rows_of.Goals as goal

pub loop-edge-preserved : goal.loop-edge-preserved
loop-edge-preserved c =
    let edge = c.edge-item.result in
    let front = take c.loop-edge.edge-index c.args.edges.now in
    let more : take (c.loop-edge.edge-index + 1) c.args.edges.now ≡ front ++ edge ∷ [] = grind (arith, common_steps) in
    subst (λ edges. AreRows c.args.units.now c.push_to.new.rows (befores_of edges) × AreRows c.args.units.now c.push_to-in-loop-edge.new.rows (afters_of edges)) (sym more) (
      pushed_rows c.args.units.now c.loop-edge.befores c.push_to.new.rows c.place_in-after.result c.place_in-before.result edge.after edge.before
          (befores_of front) (befores_of (front ++ edge ∷ [])) c.requires.units c.loop-edge.invariant.0 c.place_in-after.ensures c.place_in-before.ensures c.in_ok-push_to.ensures (befores_behind front edge),
      pushed_rows c.args.units.now c.loop-edge.afters c.push_to-in-loop-edge.new.rows c.place_in-before.result c.place_in-after.result edge.before edge.after
          (afters_of front) (afters_of (front ++ edge ∷ [])) c.requires.units c.loop-edge.invariant.1 c.place_in-before.ensures c.place_in-after.ensures c.in_ok-push_to-2.ensures (afters_behind front edge),
    )
