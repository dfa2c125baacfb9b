use Rattle.std.proofs.Common.{ap, sym, subst, ◌∙◌}
use Rattle.switch_names.specs.Names.{has}
use Rattle.host_trait.proofs.Readings.{nothing_read_of, read_of, reads_then, told_read}
use Rattle.etc_manifest.specs.Entries.{IsAnswer}
use Rattle.etc_manifest.specs.Kind.{kind_of}
use Rattle.etc_manifest.proofs.AnswerLemmas.{fine_no_host}
use Rattle.etc_manifest.proofs.NameLemmas.{name_at}
use Rattle.etc_manifest.proofs.ReadLemmas.{kind_linked, kind_read}
use Rattle.etc_manifest.proofs.entry.read_kind.Goals as goal

pub returns-clause-kind : goal.returns-clause-kind
returns-clause-kind g c = λ name there.
    let names = c.args.names.now in
    let one = c.index-names-at.result in
    let told = told_read c.companion.ensures.reads c.read_with.ensures.kind in
    record {
      has = λ w is.
          subst (λ n. IsAnswer c.read_with.result (kind_of (has names) w.leaves c.args.folder.now c.args.owners.now n)) (name_at names c.args.at one name c.requires.there c.index-names-at.is there)
          (kind_read (has names) w.leaves c.args.folder.now c.args.owners.now one c.in-Some.text c.mode_in-mode.result c.read_with.result
          (sym c.in-Some.is ∙ c.in_ok-text.ensures.says.has w is) c.mode_in-mode.ensures.mode (told.has w is));
    }

pub returns-clause-reads : goal.returns-clause-reads
returns-clause-reads g c = reads_then (read_of c.companion.ensures.reads ⊥ (λ none. absurd none)) c.read_with.ensures.reads

pub returns-in_default-clause-kind : goal.returns-in_default-clause-kind
returns-in_default-clause-kind g c = λ name there.
    let names = c.args.names.now in
    let one = c.index-names-at.result in
    record {
      has = λ w is.
          sym (ap (kind_of (has names) w.leaves c.args.folder.now c.args.owners.now) (name_at names c.args.at one name c.requires.there c.index-names-at.is there))
          ∙ kind_linked (has names) w.leaves c.args.folder.now c.args.owners.now one (sym c.in_default.is ∙ c.in_ok-text.ensures.says.has w is);
    }

pub returns-then-not-has_longer-clause-reads : goal.returns-then-not-has_longer-clause-reads
returns-then-not-has_longer-clause-reads g c = nothing_read_of _ (fine_no_host _)
