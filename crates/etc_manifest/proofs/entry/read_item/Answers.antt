use Rattle.std.proofs.Common.{Some, length, refl, ap, sym, ◌∙◌}
use Rattle.std.proofs.lemmas.Option.{slice_get_read}
use Rattle.switch_names.specs.Names.{has}
use Rattle.host_trait.proofs.Readings.{nothing_read_of}
use Rattle.etc_manifest.specs.Place.{is_reserved}
use Rattle.etc_manifest.proofs.AnswerLemmas.{no_host, reserved_no_host}
use Rattle.etc_manifest.proofs.NameLemmas.{name_at}
use Rattle.etc_manifest.proofs.ReadLemmas.{item_faulty, item_read, item_reserved}
use Rattle.etc_manifest.proofs.entry.read_item.Goals as goal

pub returns-in_err-copy-clause-reads : goal.returns-in_err-copy-clause-reads
returns-in_err-copy-clause-reads g c = nothing_read_of _ (no_host _ c.from_residual.ensures.1)

pub returns-then-is_reserved-clause-item : goal.returns-then-is_reserved-clause-item
returns-then-is_reserved-clause-item g c = λ name there.
    let names = c.args.names.now in
    let same = name_at names c.args.at c.index-names-at.result name c.requires.there c.index-names-at.is there in
    record {
      has = λ w is.
          item_reserved (has names) w.leaves c.args.folder.now c.args.owners.now name c.in_ok-copy.field-0 (ap is_reserved (sym same) ∙ sym c.is_reserved.ensures ∙ c.if-is_reserved.true)
          (c.in_ok-copy.ensures ∙ same);
    }

pub returns-then-is_reserved-clause-reads : goal.returns-then-is_reserved-clause-reads
returns-then-is_reserved-clause-reads g c = nothing_read_of _ (reserved_no_host _)

pub returns-in_err-kind-clause-item : goal.returns-in_err-kind-clause-item
returns-in_err-kind-clause-item g c = λ name there.
    let names = c.args.names.now in
    let same = name_at names c.args.at c.index-names-at.result name c.requires.there c.index-names-at.is there in
    record {
      has = λ w is.
          item_faulty (has names) w.leaves c.args.folder.now c.args.owners.now name _ c.from_residual-in_err-kind.result (ap is_reserved (sym same) ∙ sym c.is_reserved.ensures ∙ c.if-is_reserved.false)
          c.from_residual-in_err-kind.ensures.1 ((c.in_err-kind.ensures.kind name there).has w is);
    }

pub returns-clause-item : goal.returns-clause-item
returns-clause-item g c = λ name there.
    let names = c.args.names.now in
    let same = name_at names c.args.at c.index-names-at.result name c.requires.there c.index-names-at.is there in
    record {
      has = λ w is.
          item_read (has names) w.leaves c.args.folder.now c.args.owners.now name c.in_ok-kind.kind c.in_ok-copy-2.field-0 (ap is_reserved (sym same) ∙ sym c.is_reserved.ensures ∙ c.if-is_reserved.false)
          (c.in_ok-copy-2.ensures ∙ same) ((c.in_ok-kind.ensures.kind name there).has w is);
    }

pub returns-clause-place : goal.returns-clause-place
returns-clause-place g c =
    slice_get_read c.args.names.now (length c.args.names.now) c.args.at c.index-names-at.result refl c.requires.there c.index-names-at.is ∙ ap (λ n. Some n) (sym c.in_ok-copy-2.ensures)

pub returns-clause-free : goal.returns-clause-free
returns-clause-free g c = ap is_reserved c.in_ok-copy-2.ensures ∙ sym c.is_reserved.ensures ∙ c.if-is_reserved.false
