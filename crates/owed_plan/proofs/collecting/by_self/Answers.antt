use Rattle.std.proofs.Common.{◌||◌, List, ap, ◌∙◌}
use Rattle.std.specs.List.{list_any}
use Rattle.std.proofs.lemmas.Result.{IfOk-weaker}
use Rattle.owed_plan.specs.Collected.{defined}
use Rattle.owed_plan.specs.Decisions.{puts, situation_of}
use Rattle.switch_names.specs.Names.{Name, has}
use Rattle.owed_plan.proofs.LoopLemmas.{list_by}
use Rattle.owed_plan.proofs.collecting.by_self.Goals as goal

pub returns : goal.returns
returns c =
    IfOk-weaker c.into_names.result _ _
    (λ names same.
    list_by names c.add_defined.new.set _ same c.into_names.ensures.sorted
    (λ unit.
    let put = c.in_ok-add_put.ensures unit ∙ ap (λ (old : List Name). has old unit || list_any (puts c.args.which unit) c.args.decisions.now) c.new-set.ensures in
    let listed = c.as_slice.ensures ∙ c.of.ensures in
    c.in_ok-add_defined.ensures unit ∙ (λ i. put i || has (defined (situation_of c.args.known) (listed i)) unit)))
    c.into_names.ensures.names
