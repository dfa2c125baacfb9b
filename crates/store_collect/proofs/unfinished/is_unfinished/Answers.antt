use Rattle.std.proofs.Common.{ap, ◌∙◌}
use Rattle.std.proofs.lemmas.Result.{IfOk-weaker}
use Rattle.host_trait.proofs.Moments.{told_as}
use Rattle.host_trait.proofs.Readings.{nothing_read, no_device}
use Rattle.store_collect.specs.Unfinished.{stands_at_one}
use Rattle.store_collect.proofs.unfinished.is_unfinished.Goals as goal

pub returns-in_err-paths-clause-reads : goal.returns-in_err-paths-clause-reads
returns-in_err-paths-clause-reads g c = nothing_read _ (no_device _ c.from_residual.ensures.1)

pub returns-clause-unfinished : goal.returns-clause-unfinished
returns-clause-unfinished g c =
    IfOk-weaker c.stands_at_one.result _ _ (λ unfinished told. told_as told _ (λ w world is. is ∙ ap (λ places. stands_at_one places w.leaves) (c.as_slice.ensures ∙ c.in_ok-paths.ensures)))
    c.stands_at_one.ensures.stands
