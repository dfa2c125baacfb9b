use Rattle.std.proofs.Common.{ap, ◌∙◌, ◌||◌, List}
use Rattle.std.specs.List.{filter}
use Rattle.std.proofs.lemmas.Result.{IfOk-weaker}
use Rattle.switch_names.specs.Names.{Name, has}
use Rattle.unit_defs.specs.Defs.{found_in}
use Rattle.owed_plan.specs.Roots.{is_defined_target}
use Rattle.owed_plan.proofs.RootLemmas.{are_roots}
use Rattle.owed_plan.proofs.targets.roots.Goals as goal

pub returns : goal.returns
returns c =
    IfOk-weaker c.into_names.result _ _ (λ roots are old lists.
    are_roots old c.args.new.now c.args.states.now lists c.args.starts.now roots c.new-roots.result c.add_running.new.roots c.add_pending.new.roots c.as_slice.result.now
    (c.as_slice.ensures ∙ c.list.ensures.list) c.new-roots.ensures c.in_ok-add_running.ensures
    (λ unit. c.in_ok-add_pending.ensures unit ∙ ap (λ (names : List Name). has c.add_running.new.roots unit || has (filter (is_defined_target (found_in c.args.new.now)) names) unit) c.as_slice-2.ensures)
    c.into_names.ensures.sorted are)
    c.into_names.ensures.names
