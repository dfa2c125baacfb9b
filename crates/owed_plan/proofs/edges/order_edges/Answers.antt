use Rattle.std.proofs.Common.{◌≡◌, ◌&&◌, ◌||◌, ◌+◌, List, codes, take, sym, ap, ◌∙◌, arith}
use Rattle.std.specs.List.{list_any}
use Rattle.std.proofs.lemmas.Grind.{common_steps}
use Rattle.std.proofs.lemmas.List.Folds.{list_any_more}
use Rattle.switch_names.specs.Names.{Name, has}
use Rattle.start_order.specs.declared.edge.Edge.{Edge}
use Rattle.start_order.specs.Edges.{edge_of, is_between}
use Rattle.start_order.specs.Order.{is_before}
use Rattle.unit_defs.specs.Defs.{found_in}
use Rattle.owed_plan.specs.StartEdges.{is_put_by, key_words}
use Rattle.owed_plan.proofs.EdgeLemmas.{both_ok, one_text_more, put_exact}
use Rattle.owed_plan.proofs.edges.order_edges.Goals as goal

pub loop-unit-preserved : goal.loop-unit-preserved
loop-unit-preserved c before after =
    let texts = found_in c.args.new.now in
    let unit = c.unit-item.result in
    let put = λ (one : Name). is_put_by texts c.args.starts.now one before after in
    let further = take (c.loop-unit.unit-index + 1) c.as_slice-unit-items.result.now in
    let units = c.as_slice-unit-items.result.now in
    let more : list_any put further ≡ (list_any put (take c.loop-unit.unit-index units) || put unit) =
    list_any_more put units c.loop-unit.unit-index unit c.loop-unit-test.true ∙ ap (λ one. list_any put (take c.loop-unit.unit-index units) || put one) (sym c.unit-item.is) in
    one_text_more texts c.args.starts.now unit before after (is_before c.loop-unit.edges before after) (is_before c.put_before.new.edges before after) (is_before c.put_after.new.edges before after)
    (list_any put (take c.loop-unit.unit-index c.as_slice-unit-items.result.now)) (list_any put further) (has c.as_slice-in-loop-unit.result.now before) (has c.as_slice-in-loop-unit-3.result.now after)
    (c.loop-unit.invariant before after) (c.in_ok-put_before.ensures before after) (c.in_ok-put_after.ensures before after)
    (ap (λ (names : List Name). has names before) c.as_slice-in-loop-unit.ensures ∙ c.in_ok-befores.ensures before
    ∙ ap (λ (names : List Name). has names before && has (key_words texts (codes "After") unit) before) c.as_slice.ensures)
    (ap (λ (names : List Name). has names after) c.as_slice-in-loop-unit-3.ensures ∙ c.in_ok-afters.ensures after
    ∙ ap (λ (names : List Name). has names after && has (key_words texts (codes "Before") unit) after) c.as_slice-in-loop-unit-2.ensures)
    more

pub returns : goal.returns
returns c =
    both_ok c.edges_between.result _ _ _ c.edges_between.ensures.edges c.edges_between.ensures.exact (λ kept are exact. record {
      edges_are = are;
      exact = λ before after.
          let whole : take c.loop-unit.unit-index c.as_slice-unit-items.result.now ≡ c.args.starts.now = grind (arith, common_steps) in
          let given : is_before c.loop-unit.edges before after ≡ list_any (λ unit. is_put_by (found_in c.args.new.now) c.args.starts.now unit before after) c.args.starts.now =
          c.loop-unit.invariant before after ∙ ap (λ (units : List Name). list_any (λ unit. is_put_by (found_in c.args.new.now) c.args.starts.now unit before after) units) whole in
          exact before after
          ∙ ap (λ (edges : List Edge). is_between c.args.starts.now (edge_of (before, after)) && is_before edges before after) c.as_slice-2.ensures
          ∙ put_exact (found_in c.args.new.now) c.args.starts.now before after (is_before c.loop-unit.edges before after) given;
    })
