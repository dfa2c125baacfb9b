use Rattle.host_trait.proofs.Readings.{nothing_read_ok}
use Rattle.job_host.specs.MemoryJobs.{host_of}
use Rattle.job_host.proofs.memory_jobs.MemoryJobs.turn.Goals as goal

pub returns-then-at-eq0-clause-reads : goal.returns-then-at-eq0-clause-reads
returns-then-at-eq0-clause-reads c = nothing_read_ok {a = host_of c.args.self.now} tt
