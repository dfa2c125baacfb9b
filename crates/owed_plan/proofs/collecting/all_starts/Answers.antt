use Rattle.std.proofs.Common.{◌||◌, List, filter, ap, ◌∙◌}
use Rattle.std.specs.List.{list_any}
use Rattle.std.proofs.lemmas.Result.{IfOk-weaker}
use Rattle.owed_plan.specs.Collected.{comes_up_by}
use Rattle.owed_plan.specs.Decisions.{situation_of, wakes}
use Rattle.switch_names.specs.Names.{Name, has}
use Rattle.owed_plan.proofs.LoopLemmas.{list_by}
use Rattle.owed_plan.proofs.collecting.all_starts.Goals as goal

pub returns : goal.returns
returns c =
    IfOk-weaker c.into_names.result _ _
    (λ names same.
    list_by names c.add_pulled.new.set _ same c.into_names.ensures.sorted
    (λ unit.
    let own = c.in_ok-set.ensures unit ∙ ap (λ (names : List Name). has names unit) c.as_slice.ensures in
    let woken = c.in_ok-add_woken.ensures unit ∙ ap (λ is. is || list_any (wakes unit) c.args.decisions.now) own in
    c.in_ok-add_pulled.ensures unit
    ∙ (λ i. woken i || has (filter (comes_up_by (situation_of c.args.known) c.args.stops.now (λ name. c.in_ok-listed.ensures name i)) c.args.pulled.now) unit)))
    c.into_names.ensures.names
