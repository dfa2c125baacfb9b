use Rattle.job_host.proofs.MemoryLemmas.{still_same}
use Rattle.job_host.proofs.memory_jobs.MemoryJobs.fail.Goals as goal

pub returns-clause-moments : goal.returns-clause-moments
returns-clause-moments c = still_same c.args.self.now.queue.items c.args.self.now.host c.fail.new.self c.fail.ensures.still
