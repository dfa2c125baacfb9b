use Rattle.std.proofs.Common.{◌∙◌}
use Rattle.etc_manifest.proofs.LeafLemmas.{names_read}
use Rattle.etc_manifest.proofs.reading.read_names.Goals as goal

pub returns-clause-names : goal.returns-clause-names
returns-clause-names g c = record {
  has = λ w is.
      names_read w.leaves c.args.folder.now c.as_slice.result.now c.in_ok-names_after.field-0
      (c.as_slice.ensures ∙ c.in_ok-paths.ensures.paths.has w is)
      c.in_ok-names_after.ensures.names;
}
