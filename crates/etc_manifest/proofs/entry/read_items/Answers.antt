use Rattle.std.proofs.Common.{◌≡◌, ◌+◌, false, length, not, take, refl, ap, sym, subst, ◌∙◌}
use Rattle.std.specs.List.{AllByRecursion}
use Rattle.std.proofs.lemmas.Option.{slice_get_read}
use Rattle.switch_names.specs.Names.{has}
use Rattle.host_trait.proofs.Moments.{told_before}
use Rattle.host_trait.proofs.Readings.{nothing_read_of, reads_of, reads_then}
use Rattle.etc_manifest.specs.Companion.{is_companion}
use Rattle.etc_manifest.specs.Entries.{entry_names, item_of}
use Rattle.etc_manifest.specs.Manifest.{places}
use Rattle.etc_manifest.specs.Place.{is_reserved}
use Rattle.etc_manifest.proofs.AnswerLemmas.{fault_handed, no_host}
use Rattle.etc_manifest.proofs.GatherLemmas.{gathered_begins, gathered_more, gathered_same}
use Rattle.etc_manifest.proofs.NameLemmas.{name_at}
use Rattle.etc_manifest.proofs.ReadLemmas.{free_more, kept_more, kept_same, place_more, refused_here}
use Rattle.etc_manifest.proofs.entry.read_items.Goals as goal

pub loop-at-init : goal.loop-at-init
loop-at-init g c = record {
  items = record { has = λ w is. gathered_begins (item_of (has c.args.names.now) w.leaves c.args.folder.now c.args.owners.now) (entry_names (has c.args.names.now) c.args.names.now) c.new-items.result c.new-items.ensures };
  placed = ap places c.new-items.ensures;
  free = tt;
  reads = nothing_read_of ⊥ (λ none. none);
}

pub loop-at-preserved-then-branch : goal.loop-at-preserved-then-branch
loop-at-preserved-then-branch g c =
    let names = c.args.names.now in
    let name = c.index-names-at.result in
    let other = ap not (ap (is_companion (has names)) (sym c.as_str.ensures.text) ∙ sym c.in_ok-is_companion.ensures ∙ c.if-branch.true) in
    let same = kept_same (λ one. not (is_companion (has names) one)) names c.loop-at.at name c.loop-at-test.true c.index-names-at.is other in
    record {
      items = record {
        has = λ w is.
            gathered_same (item_of (has names) w.leaves c.args.folder.now c.args.owners.now) (λ one. not (is_companion (has names) one)) names c.loop-at.at name c.loop-at-test.true
            c.index-names-at.is c.loop-at.items other (c.loop-at.invariant.items.has w is);
      };
      placed = c.loop-at.invariant.placed ∙ sym same;
      free = subst (AllByRecursion (λ one. is_reserved one ≡ false)) (sym same) c.loop-at.invariant.free;
      reads = c.loop-at.invariant.reads;
    }

pub loop-at-preserved : goal.loop-at-preserved
loop-at-preserved g c =
    let names = c.args.names.now in
    let name = c.index-names-at.result in
    let entry = ap not (ap (is_companion (has names)) (sym c.as_str.ensures.text) ∙ sym c.in_ok-is_companion.ensures ∙ c.if-branch.false) in
    let more = kept_more (λ one. not (is_companion (has names) one)) names c.loop-at.at name c.loop-at-test.true c.index-names-at.is entry in
    let there = slice_get_read names (length names) c.loop-at.at name refl c.loop-at-test.true c.index-names-at.is in
    let read = told_before c.loop-at.invariant.reads.moments (c.in_ok-read_item.ensures.item name there) in
    let placed = name_at names c.loop-at.at name c.in_ok-read_item.field-0.place c.loop-at-test.true c.index-names-at.is c.in_ok-read_item.ensures.place in
    record {
      items = record {
        has = λ w is.
            gathered_more (item_of (has names) w.leaves c.args.folder.now c.args.owners.now) (λ one. not (is_companion (has names) one)) names c.loop-at.at name c.loop-at-test.true
            c.index-names-at.is c.in_ok-read_item.field-0 c.loop-at.items c.push.new.self entry c.in_ok-push.ensures.ok (read.has w is) (c.loop-at.invariant.items.has w is);
      };
      placed =
          place_more (entry_names (has names) (take c.loop-at.at names)) (entry_names (has names) (take (c.loop-at.at + 1) names)) name c.in_ok-read_item.field-0 c.loop-at.items c.push.new.self
          more (sym placed) c.in_ok-push.ensures.ok c.loop-at.invariant.placed;
      free = free_more (entry_names (has names) (take c.loop-at.at names)) (entry_names (has names) (take (c.loop-at.at + 1) names)) name more (ap is_reserved placed ∙ c.in_ok-read_item.ensures.free) c.loop-at.invariant.free;
      reads = reads_of (reads_then c.loop-at.invariant.reads c.read_item.ensures.reads) ⊥ (λ none. absurd none);
    }

pub returns-in_err-read_item-clause-items : goal.returns-in_err-read_item-clause-items
returns-in_err-read_item-clause-items g c =
    let names = c.args.names.now in
    let name = c.index-names-at.result in
    let entry = ap not (ap (is_companion (has names)) (sym c.as_str.ensures.text) ∙ sym c.in_ok-is_companion.ensures ∙ c.if-branch.false) in
    let there = slice_get_read names (length names) c.loop-at.at name refl c.loop-at-test.true c.index-names-at.is in
    let read = told_before c.loop-at.invariant.reads.moments (c.in_err-read_item.ensures.item name there) in
    record {
      has = λ w is.
          refused_here (item_of (has names) w.leaves c.args.folder.now c.args.owners.now) (λ one. not (is_companion (has names) one)) names c.loop-at.at name c.loop-at-test.true c.index-names-at.is
          _ c.loop-at.items c.from_residual-in_err-read_item.result c.from_residual-in_err-read_item.ensures.1 entry (read.has w is) (c.loop-at.invariant.items.has w is);
    }

pub returns-in_err-read_item-clause-reads : goal.returns-in_err-read_item-clause-reads
returns-in_err-read_item-clause-reads g c = reads_of (reads_then c.loop-at.invariant.reads c.in_err-read_item.ensures.reads) _ (fault_handed _ _ c.from_residual-in_err-read_item.ensures.1)

pub returns-in_err-push-clause-reads : goal.returns-in_err-push-clause-reads
returns-in_err-push-clause-reads g c = reads_of (reads_then c.loop-at.invariant.reads c.read_item.ensures.reads) _ (λ fault. absurd (no_host _ c.from_residual-in_err-push.ensures.1 fault))
