use Rattle.std.proofs.Common.{refl}
use Rattle.host_trait.proofs.Moments.{told_as}
use Rattle.unit_defs.proofs.NotingLemmas.{one_noted}
use Rattle.unit_defs.proofs.reading.noting.content_measured.Goals as goal

pub returns-clause-short : goal.returns-clause-short
returns-clause-short g c =
    told_as c.in_ok-content.ensures.content _
    (λ w world content. one_noted w.leaves c.args.at.now c.in_ok-content.content c.args.long.now _ c.is_long.result content c.is_long.ensures refl)
