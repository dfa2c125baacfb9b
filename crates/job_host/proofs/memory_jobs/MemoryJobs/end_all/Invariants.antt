use Rattle.std.proofs.Common.{◌≡◌, ◌+◌, ◌++◌, length, Ok}
use Rattle.host_trait.specs.Reading.{IsReading}
use Rattle.host_trait.specs.Waiting.{StaysWithin}
use Rattle.job_host.specs.MemoryJobs.{host_of, waiting_of}
use Rattle.job_host.proofs.memory_jobs.MemoryJobs.end_all.Given as goal

-- so many jobs have ended
abbrev pub invariant-loop-number : goal.invariant-loop-number
invariant-loop-number l = record {
  left : length l.self.queue.items + l._number ≡ l._number-end;
  ended : l.self.ended.items ++ waiting_of l.self ≡ l.fn.self.ended.items ++ waiting_of l.fn.self;
  clock : (host_of l.self).clock ≡ (host_of l.fn.self).clock;
  waits : StaysWithin (waiting_of l.fn.self) (waiting_of l.self);
  reads : IsReading {T = Unit {0}} (host_of l.fn.self) (host_of l.self) (Ok tt);
}
