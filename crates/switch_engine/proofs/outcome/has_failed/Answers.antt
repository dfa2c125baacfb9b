use Rattle.std.proofs.Common.{sym, ap, ◌∙◌}
use Rattle.std.specs.List.{list_any}
use Rattle.switch_engine.specs.Final.{is_failed_of}
use Rattle.switch_engine.proofs.FailedLemmas.{failed_is_found, has_failed}
use Rattle.switch_engine.proofs.outcome.has_failed.Goals as goal

pub returns : goal.returns
returns c =
    let units = c.args.defs.now in let states = c.args.states.now in
    let all = c.any_failed.ensures ∙ ap (list_any (is_failed_of units)) (c.as_slice.ensures ∙ c.list.ensures.list) in
    (λ is. has_failed units states (sym all ∙ is), λ failed. all ∙ failed_is_found units states failed)
