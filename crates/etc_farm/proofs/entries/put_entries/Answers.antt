use Rattle.std.proofs.Common.{◌≡◌, ◌+◌, List, take, refl, sym, ap, subst, ◌∙◌}
use Rattle.std.proofs.lemmas.List.{take_all}
use Rattle.host_trait.specs.World.{seen}
use Rattle.host_trait.proofs.Causes.{cause_ok, cause_started, cause_then}
use Rattle.host_trait.proofs.Moments.{goes_on, leads_as, leads_then, started, told_after}
use Rattle.tree_put.specs.Put.{CanPut}
use Rattle.tree_put.specs.Sequence.{IsPutting, with_puts}
use Rattle.tree_put.proofs.SequenceLemmas.{cause_handed}
use Rattle.etc_manifest.specs.declared.item.Item.{Item}
use Rattle.etc_clean.specs.Names.{place}
use Rattle.etc_farm.specs.Steps.{puts_but}
use Rattle.etc_farm.specs.Written.{WritesEntries}
use Rattle.etc_farm.proofs.MakingLemmas.{entries_next, entries_so_far, entry_next, entry_skipped}
use Rattle.etc_farm.proofs.PutLemmas.{next_can_put}
use Rattle.etc_farm.proofs.SkippedLemmas.{standing_skipped}
use Rattle.etc_farm.proofs.WrittenLemmas.{blocked_unwritten, none_written, standing_unwritten, written_next}
use Rattle.etc_farm.proofs.entries.put_entries.Goals as goal

pub loop-item-init : goal.loop-item-init
loop-item-init g c = record {
  ok = record { to = λ w is. (w, is, refl) };
  written = record { to = λ w is. (w, is, none_written c.args.blocked.now c.args.standing.now w) };
  moments = started (IsPutting (puts_but c.args.blocked.now c.args.items.now)) (λ w is. entries_so_far c.args.blocked.now c.args.items.now 0 w w refl);
  cause = cause_started tt;
}

pub put_item-requires : goal.put_item-requires
put_item-requires g c =
    told_after c.loop-item.invariant.moments c.loop-item.invariant.ok (CanPut (place c.item-item.result.place)) (λ w v is before.
    let can = c.requires.can.has w is in
    next_can_put c.args.items.now c.args.blocked.now c.loop-item.item-index c.item-item.result c.loop-item-test.true c.item-item.is (sym (c.contains.ensures can.sorted) ∙ c.if-contains.false) w v can before)

pub loop-item-preserved : goal.loop-item-preserved
loop-item-preserved g c =
    let items = c.args.items.now in let blocked = c.args.blocked.now in let item = c.item-item.result in let i = c.loop-item.item-index in
    record {
      ok = leads_then c.loop-item.invariant.ok c.in_ok-put_item.ensures.ok (λ w v. seen v ≡ seen (with_puts (puts_but blocked (take (i + 1) items)) w))
          (λ w v u is_w is_v before now. entry_next blocked items i item c.loop-item-test.true c.item-item.is (sym (c.contains.ensures (c.requires.can.has w is_w).sorted) ∙ c.if-contains.false) w v before u now);
      written = leads_then c.loop-item.invariant.written c.in_ok-put_item.ensures.written (WritesEntries (take (i + 1) items) blocked c.args.standing.now)
          (λ w v u is_w is_v so_far now.
          let can = c.requires.can.has w is_w in
          let are = c.requires.standing.has w is_w in
          written_next blocked c.args.standing.now items i item c.loop-item-test.true c.item-item.is (sym (c.contains.ensures can.sorted) ∙ c.if-contains.false)
          (sym (c.contains-in-loop-item.ensures are.sorted) ∙ c.if-contains-2.false) w v u so_far now);
      moments = goes_on c.loop-item.invariant.moments c.loop-item.invariant.ok c.put_item.ensures.moments (IsPutting (puts_but blocked items)) (λ w m is step. step)
          (λ w v m is_w is_v before moment. entries_next blocked items i item c.loop-item-test.true c.item-item.is (sym (c.contains.ensures (c.requires.can.has w is_w).sorted) ∙ c.if-contains.false) w v before m moment);
      cause = cause_ok (cause_then c.loop-item.invariant.cause c.put_item.ensures.cause) tt;
    }

pub loop-item-preserved-then-contains : goal.loop-item-preserved-then-contains
loop-item-preserved-then-contains g c = record {
  ok = leads_as c.loop-item.invariant.ok (λ w v. seen v ≡ seen (with_puts (puts_but c.args.blocked.now (take (c.loop-item.item-index + 1) c.args.items.now)) w))
      (λ w v is before. before ∙ ap (λ ps. seen (with_puts ps w))
      (sym (entry_skipped c.args.blocked.now c.args.items.now c.loop-item.item-index c.item-item.result c.loop-item-test.true c.item-item.is (sym (c.contains.ensures (c.requires.can.has w is).sorted) ∙ c.if-contains.true))));
  written = leads_as c.loop-item.invariant.written (WritesEntries (take (c.loop-item.item-index + 1) c.args.items.now) c.args.blocked.now c.args.standing.now)
      (λ w v is so_far. blocked_unwritten c.args.blocked.now c.args.standing.now c.args.items.now c.loop-item.item-index c.item-item.result c.loop-item-test.true c.item-item.is
      (sym (c.contains.ensures (c.requires.can.has w is).sorted) ∙ c.if-contains.true) w v so_far);
  moments = c.loop-item.invariant.moments;
  cause = c.loop-item.invariant.cause;
}

pub loop-item-preserved-then-contains-2 : goal.loop-item-preserved-then-contains-2
loop-item-preserved-then-contains-2 g c =
    let items = c.args.items.now in let blocked = c.args.blocked.now in let item = c.item-item.result in let i = c.loop-item.item-index in
    record {
      ok = leads_as c.loop-item.invariant.ok (λ w v. seen v ≡ seen (with_puts (puts_but blocked (take (i + 1) items)) w))
          (λ w v is before.
          let can = c.requires.can.has w is in
          let are = c.requires.standing.has w is in
          standing_skipped items blocked can.manifest c.args.standing.now i item c.loop-item-test.true c.item-item.is (sym (c.contains.ensures can.sorted) ∙ c.if-contains.false) w v are
          (sym (c.contains-in-loop-item.ensures are.sorted) ∙ c.if-contains-2.true) before);
      written = leads_as c.loop-item.invariant.written (WritesEntries (take (i + 1) items) blocked c.args.standing.now)
          (λ w v is so_far. standing_unwritten blocked c.args.standing.now items i item c.loop-item-test.true c.item-item.is
          (sym (c.contains-in-loop-item.ensures (c.requires.standing.has w is).sorted) ∙ c.if-contains-2.true) w v so_far);
      moments = c.loop-item.invariant.moments;
      cause = c.loop-item.invariant.cause;
    }

pub returns-in_err-put_item-clause-moments : goal.returns-in_err-put_item-clause-moments
returns-in_err-put_item-clause-moments g c =
    let items = c.args.items.now in let blocked = c.args.blocked.now in let item = c.item-item.result in let i = c.loop-item.item-index in
    goes_on c.loop-item.invariant.moments c.loop-item.invariant.ok c.put_item.ensures.moments (IsPutting (puts_but blocked items)) (λ w m is step. step)
    (λ w v m is_w is_v before moment. entries_next blocked items i item c.loop-item-test.true c.item-item.is (sym (c.contains.ensures (c.requires.can.has w is_w).sorted) ∙ c.if-contains.false) w v before m moment)

pub returns-in_err-put_item-clause-cause : goal.returns-in_err-put_item-clause-cause
returns-in_err-put_item-clause-cause g c = cause_handed c.loop-item.invariant.cause c.in_err-put_item.ensures.cause _ c.from_residual.ensures.1

pub returns-clause-ok : goal.returns-clause-ok
returns-clause-ok g c =
    leads_as c.loop-item.invariant.ok (λ w v. seen v ≡ seen (with_puts (puts_but c.args.blocked.now c.args.items.now) w))
    (λ w v is before. before ∙ ap (λ (items : List Item). seen (with_puts (puts_but c.args.blocked.now items) w)) (take_all c.loop-item.item-index c.args.items.now c.loop-item-test.false))

pub returns-clause-written : goal.returns-clause-written
returns-clause-written g c =
    leads_as c.loop-item.invariant.written (WritesEntries c.args.items.now c.args.blocked.now c.args.standing.now)
    (λ w v is so_far. subst (λ (items : List Item). WritesEntries items c.args.blocked.now c.args.standing.now w v) (take_all c.loop-item.item-index c.args.items.now c.loop-item-test.false) so_far)

pub returns-clause-moments : goal.returns-clause-moments
returns-clause-moments g c = c.loop-item.invariant.moments

pub returns-clause-cause : goal.returns-clause-cause
returns-clause-cause g c = c.loop-item.invariant.cause
