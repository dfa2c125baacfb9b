use Rattle.host_trait.proofs.Readings.{nothing_read_of}
use Rattle.etc_manifest.proofs.AnswerLemmas.{no_host}
use Rattle.etc_manifest.proofs.ManifestLemmas.{apart_where_ok, manifest_where_ok}
use Rattle.etc_manifest.proofs.ReadLemmas.{all_read}
use Rattle.etc_manifest.proofs.manifest.read_entries.Goals as goal

pub returns-in_err-folder-clause-reads : goal.returns-in_err-folder-clause-reads
returns-in_err-folder-clause-reads g c = nothing_read_of _ (no_host _ c.from_residual.ensures.1)

pub returns-clause-items : goal.returns-clause-items
returns-clause-items g c = record {
  has = λ w is.
      all_read w.leaves c.args.system.now c.in_ok-folder.folder c.args.owners.now c.args.names.now c.read_items.result c.in_ok-folder.ensures.named
      c.in_ok-folder.ensures.folder (c.requires.names.has w is) (c.read_items.ensures.items.has w is);
}

pub returns-clause-is_manifest : goal.returns-clause-is_manifest
returns-clause-is_manifest g c = manifest_where_ok c.read_items.result c.args.names.now c.requires.sorted c.read_items.ensures.places c.read_items.ensures.free

pub returns-clause-apart : goal.returns-clause-apart
returns-clause-apart g c = apart_where_ok (g.met.T.Tree.is_host c.args.host.now) c.args.system.now c.args.owners.now c.read_items.result c.in_ok-folder.ensures.named (returns-clause-items g c)
