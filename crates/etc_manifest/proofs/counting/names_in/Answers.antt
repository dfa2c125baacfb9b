use Rattle.std.proofs.Common.{◌≡◌, ap, ◌∙◌}
use Rattle.std.proofs.lemmas.Result.{IfOk-weaker}
use Rattle.switch_names.specs.Names.{has}
use Rattle.host_trait.proofs.Moments.{told_as}
use Rattle.host_trait.proofs.Readings.{no_device, nothing_read}
use Rattle.etc_manifest.specs.Entries.{entries_of, entry_names, leaf_names}
use Rattle.etc_manifest.proofs.CountLemmas.{entries_read}
use Rattle.etc_manifest.proofs.counting.names_in.Goals as goal

pub returns-in_err-folder-clause-reads : goal.returns-in_err-folder-clause-reads
returns-in_err-folder-clause-reads g c = nothing_read _ (no_device _ c.from_residual.ensures.1)

pub returns-clause-entries : goal.returns-clause-entries
returns-clause-entries g c =
    IfOk-weaker c.read_names.result _ _
    (λ names told. told_as told (λ w. entry_names (has names) names ≡ entries_of w.leaves c.args.system.now)
    (λ w is are. entries_read w.leaves c.args.system.now names c.in_ok-folder.ensures.named (are ∙ ap (leaf_names w.leaves) c.in_ok-folder.ensures.folder)))
    c.read_names.ensures.names
