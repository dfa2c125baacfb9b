use Rattle.std.proofs.Common.{◌++◌, ◌∷◌, [], sym, subst}
use Rattle.host_trait.specs.World.{stage}
use Rattle.host_trait.proofs.Causes.{cause_ok, cause_then}
use Rattle.host_trait.proofs.Moments.{passes_as, told_after}
use Rattle.tree_put.specs.Put.{AreApart, CanPut}
use Rattle.tree_put.specs.Sequence.{IsPutting}
use Rattle.etc_clean.specs.CleanList.{clean_name}
use Rattle.etc_farm.specs.Steps.{puts_but}
use Rattle.etc_farm.proofs.MakingLemmas.{last_led, last_steps, putting_more}
use Rattle.etc_farm.proofs.PlaceLemmas.{place_apart}
use Rattle.etc_farm.proofs.PutLemmas.{can_put_last}
use Rattle.etc_farm.proofs.WrittenLemmas.{last_wrote}
use Rattle.etc_farm.proofs.farm.finish.Goals as goal

pub put_entries_kept-requires-clause-can : goal.put_entries_kept-requires-clause-can
put_entries_kept-requires-clause-can g c = c.requires.can

pub put_entries_kept-requires-clause-standing : goal.put_entries_kept-requires-clause-standing
put_entries_kept-requires-clause-standing g c = c.requires.standing

pub put_if_other-requires-clause-apart : goal.put_if_other-requires-clause-apart
put_if_other-requires-clause-apart g c = subst (λ p. AreApart p stage) (sym c.requires.list) (place_apart clean_name)

pub put_if_other-requires-clause-can : goal.put_if_other-requires-clause-can
put_if_other-requires-clause-can g c =
    told_after c.put_entries_kept.ensures.moments c.in_ok-put_entries_kept.ensures.ok (CanPut c.args.list.now.at) (λ w v is new.
    subst (λ p. CanPut p v) (sym c.requires.list) (can_put_last c.args.items.now c.args.blocked.now w v (c.requires.can.has w is) new))

pub returns-in_err-put_entries_kept-clause-moments : goal.returns-in_err-put_entries_kept-clause-moments
returns-in_err-put_entries_kept-clause-moments g c =
    passes_as c.put_entries_kept.ensures.moments (IsPutting (puts_but c.args.blocked.now c.args.items.now ++ c.args.list.now ∷ []))
    (λ w m is step. putting_more (puts_but c.args.blocked.now c.args.items.now) (c.args.list.now ∷ []) w m step)

pub returns-in_err-put_if_other-clause-moments : goal.returns-in_err-put_if_other-clause-moments
returns-in_err-put_if_other-clause-moments g c =
    last_steps (puts_but c.args.blocked.now c.args.items.now) c.args.list.now c.put_entries_kept.ensures.moments c.in_ok-put_entries_kept.ensures.ok c.put_if_other.ensures.moments

pub returns-clause-moments : goal.returns-clause-moments
returns-clause-moments g c =
    last_steps (puts_but c.args.blocked.now c.args.items.now) c.args.list.now c.put_entries_kept.ensures.moments c.in_ok-put_entries_kept.ensures.ok c.put_if_other.ensures.moments

pub returns-clause-ok : goal.returns-clause-ok
returns-clause-ok g c = last_led (puts_but c.args.blocked.now c.args.items.now) c.args.list.now c.in_ok-put_entries_kept.ensures.ok c.in_ok-put_if_other.ensures.ok

pub returns-clause-cause : goal.returns-clause-cause
returns-clause-cause g c = cause_ok (cause_then c.put_entries_kept.ensures.cause c.put_if_other.ensures.cause) tt

pub returns-clause-written : goal.returns-clause-written
returns-clause-written g c =
    last_wrote c.args.items.now c.args.blocked.now c.args.standing.now c.args.list.now c.requires.list _ c.requires.can c.in_ok-put_entries_kept.ensures.ok c.in_ok-put_entries_kept.ensures.written
    c.in_ok-put_if_other.ensures.put c.in_ok-put_if_other.ensures.written
