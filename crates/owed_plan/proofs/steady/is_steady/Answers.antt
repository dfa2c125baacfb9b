use Rattle.std.proofs.Common.{List, ap, ◌∙◌}
use Rattle.owed_plan.specs.Steady.{is_steady}
use Rattle.owed_plan.proofs.TargetLemmas.{steady_told}
use Rattle.switch_names.specs.Names.{Name}
use Rattle.owed_plan.proofs.steady.is_steady.Goals as goal

pub returns : goal.returns
returns c old states are =
    let new = c.args.new.now in let lists = c.args.lists.now in
    steady_told old new states lists c.args.pulled.now are _ (c.is_steady_by.ensures ∙ ap (λ (names : List Name). is_steady new lists names) c.as_slice.ensures)
