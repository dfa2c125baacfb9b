use Rattle.std.proofs.Common.{◌≡◌, ◌+◌, ◌||◌, ◌&&◌, List, take, ◌∙◌, ap, arith}
use Rattle.std.proofs.lemmas.Grind.{common_steps}
use Rattle.std.proofs.lemmas.Result.{IfOk-weaker}
use Rattle.switch_names.specs.Names.{Name, has, is_name}
use Rattle.start_order.specs.declared.edge.Edge.{Edge}
use Rattle.start_order.specs.Edges.{edge_of, has_pair, is_between}
use Rattle.start_order.specs.Order.{is_before}
use Rattle.start_order.proofs.BetweenLemmas.{kept_edges, kept_exact, one_edge_more}
use Rattle.start_order.proofs.between.edges_between.Goals as goal

pub loop-edge-preserved : goal.loop-edge-preserved
loop-edge-preserved c = (
  c.in_ok-add_between.ensures.sorted,
  λ before after.
      let front = take c.loop-edge.edge-index c.args.edges.now in
      let further = take (c.loop-edge.edge-index + 1) c.args.edges.now in
      let edge = c.edge-item.result in
      let more : is_before further before after ≡ (is_before front before after || (is_name before edge.before && is_name after edge.after)) = grind (arith, common_steps) in
      one_edge_more c.in_ok-units.units front further c.loop-edge.pairs.keys c.add_between.new.pairs.keys edge before after (c.loop-edge.invariant.1 before after) (c.in_ok-add_between.ensures.added before after) more,
)

all : (c : goal.After-drop-units-2) (name : Name) → has c.in_ok-units.units name ≡ has c.args.units.now name
all c name = c.in_ok-units.ensures name ∙ ap (λ (names : List Name). has names name) c.as_slice.ensures

exact : (c : goal.After-drop-units-2) (before after : Name) → has_pair c.loop-edge.pairs.keys before after ≡ (is_between c.in_ok-units.units (edge_of (before, after)) && is_before c.args.edges.now before after)
exact c before after =
    let whole : take c.loop-edge.edge-index c.args.edges.now ≡ c.args.edges.now = grind (arith, common_steps) in
    c.loop-edge.invariant.1 before after ∙ ap (λ (edges : List Edge). is_between c.in_ok-units.units (edge_of (before, after)) && is_before edges before after) whole

pub returns-clause-edges : goal.returns-clause-edges
returns-clause-edges c =
    IfOk-weaker c.edges_of.result _ _
    (λ kept is. kept_edges c.args.units.now c.in_ok-units.units c.args.edges.now c.loop-edge.pairs.keys (all c) (exact c) kept is c.loop-edge.invariant.0) c.edges_of.ensures

pub returns-clause-exact : goal.returns-clause-exact
returns-clause-exact c =
    IfOk-weaker c.edges_of.result _ _ (λ kept is. kept_exact c.args.units.now c.in_ok-units.units c.args.edges.now c.loop-edge.pairs.keys (all c) (exact c) kept is) c.edges_of.ensures
