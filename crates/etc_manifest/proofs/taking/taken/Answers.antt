use Rattle.std.proofs.Common.{◌∙◌}
use Rattle.host_trait.proofs.Moments.{told_as}
use Rattle.leaf_limits.specs.Limits.{AreTaken}
use Rattle.etc_manifest.specs.Taken.{takes_entries}
use Rattle.etc_manifest.proofs.TakenLemmas.{are_taken}
use Rattle.etc_manifest.proofs.taking.taken.Goals as goal

pub returns-clause-taken : goal.returns-clause-taken
returns-clause-taken g c =
    told_as c.in_ok-names.ensures.names (λ w. AreTaken c.in_ok-taken_paths.field-0 (takes_entries w.leaves c.args.system.now) w.leaves)
    (λ w is names. are_taken w.leaves c.args.system.now c.in_ok-folder.folder c.as_slice.result.now c.in_ok-taken_paths.field-0 c.in_ok-folder.ensures.named c.in_ok-folder.ensures.folder
    (c.as_slice.ensures ∙ names) c.in_ok-taken_paths.ensures.paths)
