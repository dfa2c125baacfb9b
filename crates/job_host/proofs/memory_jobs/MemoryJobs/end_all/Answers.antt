use Rattle.std.proofs.Common.{append_assoc, ◌≡◌, ◌<◌, ◌+◌, List, [], ◌∷◌, ◌++◌, length, slice_get, None, Some, refl, sym, ap, ◌∙◌, arith}
use Rattle.std.specs.List.{remove}
use Rattle.std.proofs.lemmas.List.{append-nil}
use Rattle.host_trait.proofs.Readings.{nothing_read_ok, read_handed, read_then}
use Rattle.job_host.specs.MemoryJobs.{host_of}
use Rattle.job_host.specs.Settled.{Job, units_in}
use Rattle.switch_names.specs.Names.{Name}
use Rattle.job_host.proofs.memory_jobs.MemoryJobs.end_all.Goals as goal

one_less : (jobs : List Job) → 0 < length jobs → length (remove jobs 0) + 1 ≡ length jobs
one_less [] some = absurd (omega (arith, some))
one_less (job ∷ jobs) some = omega arith

-- the units of which a job has ended and those that wait stay the same, one after the other
moved_over : (done after : List Name) (jobs rest : List Job) (job : Job) →
    slice_get jobs 0 ≡ Some job → rest ≡ remove jobs 0 → after ≡ done ++ job.unit ∷ [] → after ++ units_in rest ≡ done ++ units_in jobs
moved_over done after [] rest job first left grown = absurd (let no : None ≡ Some job = first in cc)
moved_over done after (one ∷ jobs) rest job first left grown =
    let same : one ≡ job = let e : Some one ≡ Some job = first in cc in
    (λ i. grown i ++ units_in (left i)) ∙ append_assoc done (job.unit ∷ []) (units_in jobs) ∙ ap (λ (j : Job). done ++ j.unit ∷ units_in jobs) (sym same)

pub loop-number-init : goal.loop-number-init
loop-number-init c = record {
  left = let all = c.len-number-end.ensures in omega (arith, all);
  ended = refl;
  clock = refl;
  waits = λ unit waits. waits;
  reads = nothing_read_ok {a = host_of c.args.self.now} tt;
}

pub loop-number-preserved : goal.loop-number-preserved
loop-number-preserved c =
    let so_far = c.loop-number.invariant.left in let here = c.loop-number-test.true in
    let fewer = ap length c.in_ok-end_at.ensures.ok.queue in let less = one_less c.loop-number.self.queue.items (omega (arith, so_far, here)) in
    record {
      left = omega (arith, so_far, fewer, less);
      ended =
          moved_over _ _ c.loop-number.self.queue.items _ c.in_ok-end_at.ensures.ok.job c.in_ok-end_at.ensures.ok.there c.in_ok-end_at.ensures.ok.queue c.in_ok-end_at.ensures.ok.ended
          ∙ c.loop-number.invariant.ended;
      clock = c.end_at.ensures.clock ∙ c.loop-number.invariant.clock;
      waits = λ unit waits. c.loop-number.invariant.waits unit (c.end_at.ensures.waits unit waits);
      reads = read_then c.loop-number.invariant.reads c.in_ok-end_at.ensures.reads;
    }

pub returns-in_err-end_at-clause-reads : goal.returns-in_err-end_at-clause-reads
returns-in_err-end_at-clause-reads c = read_handed (read_then c.loop-number.invariant.reads c.in_err-end_at.ensures.reads) _ c.from_residual.ensures.1

nothing_left : (done all : List Name) (jobs : List Job) → length jobs ≡ 0 → done ++ units_in jobs ≡ all → done ≡ all
nothing_left done all [] none is = sym (append-nil done) ∙ is
nothing_left done all (job ∷ jobs) none is = absurd (omega (arith, none))

pub returns-clause-ended : goal.returns-clause-ended
returns-clause-ended c =
    let so_far = c.loop-number.invariant.left in let end = c.loop-number-test.false in
    nothing_left c.loop-number.self.ended.items _ c.loop-number.self.queue.items (omega (arith, so_far, end)) c.loop-number.invariant.ended

pub returns-in_err-end_at-clause-clock : goal.returns-in_err-end_at-clause-clock
returns-in_err-end_at-clause-clock c = c.end_at.ensures.clock ∙ c.loop-number.invariant.clock
