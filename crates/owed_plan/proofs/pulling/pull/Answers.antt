use Rattle.std.proofs.Common.{sym, ◌∙◌}
use Rattle.std.proofs.lemmas.List.{nil_from_length}
use Rattle.std.proofs.lemmas.Result.{IfOk-weaker}
use Rattle.unit_defs.specs.Defs.{wanted_in}
use Rattle.owed_plan.proofs.PulledLemmas.{pulled_list}
use Rattle.owed_plan.proofs.SearchLemmas.{search_end, search_start, search_turn}
use Rattle.owed_plan.proofs.pulling.pull.Goals as goal

pub loop-unit-init : goal.loop-unit-init
loop-unit-init c = (
  search_start (wanted_in c.args.new.now) c.args.roots.now c.as_slice.result.now c.new-reached.result c.new-left.result.items c.reach_all.new.reached
      c.reach_all.new.left.items c.in_ok-reach_all.ensures.added c.in_ok-reach_all.ensures.pushed c.as_slice.ensures c.new-reached.ensures c.new-left.ensures.items,
  c.in_ok-reach_all.ensures.fits,
)

pub loop-unit-preserved : goal.loop-unit-preserved
loop-unit-preserved c = (
  search_turn (wanted_in c.args.new.now) c.args.roots.now c.as_slice-in-Some.result.now c.loop-unit.reached c.pop.new.self.items c.reach_all-in-Some.new.reached
      c.reach_all-in-Some.new.left.items c.in_ok-reach_all-2.ensures.added c.in_ok-reach_all-2.ensures.pushed c.in-Some.unit c.loop-unit.left.items c.in-Some.ensures.items
      (c.as_slice-in-Some.ensures ∙ c.wanted-wanted.ensures.wanted) c.loop-unit.invariant.0,
  c.in_ok-reach_all-2.ensures.fits,
)

pub returns-clause-reached : goal.returns-clause-reached
returns-clause-reached c =
    IfOk-weaker c.into_names.result _ _ (λ pulled are.
    search_end (wanted_in c.args.new.now) c.args.roots.now pulled c.loop-unit.reached c.loop-unit.left.items
    (nil_from_length c.loop-unit.left.items (sym c.loop-unit.left.ok.0 ∙ c.in_default.ensures.cases.0)) are c.into_names.ensures.sorted c.loop-unit.invariant.0)
    c.into_names.ensures.names

pub returns-clause-pulled : goal.returns-clause-pulled
returns-clause-pulled c =
    IfOk-weaker c.into_names.result _ _ (λ pulled reached old states lists are. pulled_list old c.args.new.now states lists c.args.roots.now are pulled reached) (returns-clause-reached c)
