use Rattle.std.proofs.Common.{◌≡◌, length, ap, ◌∙◌}
use Rattle.host_trait.proofs.Moments.{told_as}
use Rattle.unit_defs.specs.Count.{unit_names}
use Rattle.unit_defs.proofs.CountLemmas.{kept_names}
use Rattle.unit_defs.proofs.unit_count.count.Goals as goal

pub returns-clause-count : goal.returns-clause-count
returns-clause-count g c =
    told_as c.in_ok-defs.ensures.defs (λ w. length c.as_slice.result.now ≡ length (unit_names w.leaves c.args.system.now))
    (λ w is are. ap length (c.as_slice.ensures ∙ kept_names w.leaves c.args.system.now c.in_ok-defs.defs _ are c.names.ensures))
