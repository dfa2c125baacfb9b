use Rattle.job_host.proofs.MemoryLemmas.{still_same}
use Rattle.job_host.proofs.memory_jobs.MemoryJobs.revive.Goals as goal

pub returns-clause-moments : goal.returns-clause-moments
returns-clause-moments c = still_same c.args.self.now.queue.items c.args.self.now.host c.revive.new.self c.revive.ensures.still
