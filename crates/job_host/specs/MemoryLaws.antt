-- The laws of a host hold of a device in memory.
use Rattle.std.specs.Prelude.{List, [], ◌∷◌}
use Rattle.host_memory.specs.Laws.{with_is_host}
use Rattle.host_memory.specs.MemoryHost.{manager_of}
use Rattle.host_trait.specs.declared.manager_state.ManagerState.{ManagerState}
use Rattle.host_trait.specs.Host.{IsHost}
use Rattle.host_trait.specs.Manager.{HasPlainTexts}
use Rattle.job_host.specs.declared.memory_jobs.MemoryJobs.{MemoryJobs}
use Rattle.job_host.specs.MemoryJobs.{host_of}
use Rattle.job_host.specs.Settled.{Job, ended, settled}

-- the end of a job changes no text
settled_plain : (jobs : List Job) (manager : ManagerState) → HasPlainTexts manager → HasPlainTexts (settled jobs manager)
settled_plain [] manager plain = plain
settled_plain (job ∷ jobs) manager plain = settled_plain jobs (ended job manager) (record { loaded = plain.loaded; bad = plain.bad; journal = plain.journal })

pub jobs_are_host : (jobs : MemoryJobs) → IsHost (host_of jobs)
jobs_are_host jobs =
    with_is_host (settled jobs.queue.items (manager_of jobs.host)) (settled_plain jobs.queue.items (manager_of jobs.host) jobs.host.history.plain) jobs.states jobs.host
