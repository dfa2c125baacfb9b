use Rattle.std.proofs.Common.{◌≡◌, ◌+◌, take, List, refl, ap, subst, ◌∙◌}
use Rattle.std.proofs.lemmas.List.{take_all}
use Rattle.host_trait.specs.World.{WorldState, seen}
use Rattle.host_trait.proofs.Causes.{cause_ok, cause_started, cause_then}
use Rattle.host_trait.proofs.Moments.{goes_on, leads_as, leads_then, one_world, started, told_after}
use Rattle.tree_put.specs.declared.leaf_put.LeafPut.{LeafPut}
use Rattle.tree_put.specs.Put.{CanPut}
use Rattle.tree_put.specs.Sequence.{IsPutting, WritesOthers, with_puts}
use Rattle.tree_put.proofs.SequenceLemmas.{can_put_after, cause_handed, none_written, put_apart, put_next, putting_next, putting_none, written_next}
use Rattle.tree_put.proofs.sequence.put_all.Goals as goal

pub loop-one-init : goal.loop-one-init
loop-one-init g c = record {
  ok = record { to = λ w is. (w, is, refl) };
  written = record { to = λ w is. (w, is, none_written w) };
  moments = started (IsPutting c.args.puts.now) (λ w is. putting_none c.args.puts.now w);
  cause = cause_started tt;
}

pub put_if_other-requires-clause-apart : goal.put_if_other-requires-clause-apart
put_if_other-requires-clause-apart g c = put_apart c.args.puts.now c.loop-one.one-index c.one-item.result c.loop-one-test.true c.one-item.is c.requires.apart

pub put_if_other-requires-clause-can : goal.put_if_other-requires-clause-can
put_if_other-requires-clause-can g c =
    let one = c.one-item.result in
    told_after c.loop-one.invariant.moments c.loop-one.invariant.ok (CanPut one.at)
    (λ w v is before. can_put_after c.args.puts.now c.loop-one.one-index one w v c.loop-one-test.true c.one-item.is c.requires.apart before (c.requires.can.has w is))

pub loop-one-preserved : goal.loop-one-preserved
loop-one-preserved g c =
    let puts = c.args.puts.now in let i = c.loop-one.one-index in let one = c.one-item.result in
    record {
      ok = leads_then c.loop-one.invariant.ok c.in_ok-put_if_other.ensures.ok (λ w v. seen v ≡ seen (with_puts (take (i + 1) puts) w))
          (λ w v u is_w is_v before now. put_next puts i one w v c.loop-one-test.true c.one-item.is before u now);
      written = leads_then c.loop-one.invariant.written c.in_ok-put_if_other.ensures.written (WritesOthers (take (i + 1) puts))
          (λ w v u is_w is_v so_far now.
          let there = c.loop-one.invariant.ok.to w is_w in
          let before = subst (λ (x : WorldState). seen x ≡ seen (with_puts (take i puts) w)) (one_world _ there.0 v there.1 is_v) there.2 in
          written_next puts i one w v c.loop-one-test.true c.one-item.is before u _ (put_apart puts i one c.loop-one-test.true c.one-item.is c.requires.apart) so_far
          (c.in_ok-put_if_other.ensures.put.has v is_v) now);
      moments = goes_on c.loop-one.invariant.moments c.loop-one.invariant.ok c.put_if_other.ensures.moments (IsPutting puts) (λ w m is moment. moment)
          (λ w v m is_w is_v before moment. putting_next puts i one w v c.loop-one-test.true c.one-item.is before m moment);
      cause = cause_ok (cause_then c.loop-one.invariant.cause c.put_if_other.ensures.cause) tt;
    }

pub returns-in_err-put_if_other-clause-moments : goal.returns-in_err-put_if_other-clause-moments
returns-in_err-put_if_other-clause-moments g c =
    let puts = c.args.puts.now in let i = c.loop-one.one-index in let one = c.one-item.result in
    goes_on c.loop-one.invariant.moments c.loop-one.invariant.ok c.put_if_other.ensures.moments (IsPutting puts) (λ w m is moment. moment)
    (λ w v m is_w is_v before moment. putting_next puts i one w v c.loop-one-test.true c.one-item.is before m moment)

pub returns-in_err-put_if_other-clause-cause : goal.returns-in_err-put_if_other-clause-cause
returns-in_err-put_if_other-clause-cause g c = cause_handed c.loop-one.invariant.cause c.in_err-put_if_other.ensures.cause _ c.from_residual.ensures.1

pub returns-clause-ok : goal.returns-clause-ok
returns-clause-ok g c =
    leads_as c.loop-one.invariant.ok (λ w v. seen v ≡ seen (with_puts c.args.puts.now w))
    (λ w v is before. before ∙ ap (λ (puts : List LeafPut). seen (with_puts puts w)) (take_all c.loop-one.one-index c.args.puts.now c.loop-one-test.false))

pub returns-clause-written : goal.returns-clause-written
returns-clause-written g c =
    leads_as c.loop-one.invariant.written (WritesOthers c.args.puts.now)
    (λ w v is so_far. subst (λ (puts : List LeafPut). WritesOthers puts w v) (take_all c.loop-one.one-index c.args.puts.now c.loop-one-test.false) so_far)

pub returns-clause-moments : goal.returns-clause-moments
returns-clause-moments g c = c.loop-one.invariant.moments

pub returns-clause-cause : goal.returns-clause-cause
returns-clause-cause g c = c.loop-one.invariant.cause
