-- A device in memory that queues jobs: systemctl(1), "--no-block".
use Rattle.std.specs.Prelude.{◌≡◌, ℕ, List, [], ◌∷◌, ◌++◌, slice_get, unwrap_or, Option, None, Some}
use Rattle.std.specs.List.{remove}
use Rattle.host_memory.specs.declared.memory_host.MemoryHost.{MemoryHost}
use Rattle.host_memory.specs.MemoryHost.{host_with, manager_of}
use Rattle.host_trait.specs.Host.{HostState}
use Rattle.host_trait.specs.World.{WorldState}
use Rattle.job_host.specs.declared.memory_jobs.MemoryJobs.{MemoryJobs}
use Rattle.job_host.specs.Schedule.{ending}
use Rattle.job_host.specs.Settled.{Job, settled, units_in}
use Rattle.switch_names.specs.Names.{Name}

-- a host in memory with jobs that wait: it tells the world in which each of them has ended
abbrev pub settled_host : List Job → MemoryHost → HostState
settled_host queue host = host_with (settled queue (manager_of host)) host

-- as a host a device tells the world in which each of its jobs has ended
abbrev pub host_of : MemoryJobs → HostState
host_of jobs = settled_host jobs.queue.items jobs.host

-- the units of which a job waits, in the order of submission
abbrev pub waiting_of : MemoryJobs → List Name
waiting_of jobs = units_in jobs.queue.items

-- its world as it is, in which jobs may wait
abbrev pub raw_of : MemoryJobs → WorldState
raw_of jobs = jobs.host.history.world

-- the job at a place of the queue has ended: it is no longer there, and its unit is the last of those of which one has
pub record Ends (at : ℕ) (old new : MemoryJobs) : Type 0 where
  pub job : Job
  pub there : slice_get old.queue.items at ≡ Some job
  pub queue : new.queue.items ≡ remove old.queue.items at
  pub ended : new.ended.items ≡ old.ended.items ++ job.unit ∷ []

-- the job whose turn it is has ended, or none has
abbrev pub HasTurned : Option ℕ → MemoryJobs → MemoryJobs → Type 0
HasTurned None old new = (new.queue.items ≡ old.queue.items) × (new.ended.items ≡ old.ended.items)
HasTurned (Some at) old new = Ends at old new

-- the number of the schedule that a call takes as it begins
abbrev pub next_number : MemoryJobs → ℕ
next_number jobs = unwrap_or (slice_get jobs.schedule.numbers jobs.schedule.taken) 0

-- each job has ended: first the one whose turn it was, if any, and then the others in the order of submission
pub record EndsAll (old new : MemoryJobs) : Type 0 where
  pub turned : MemoryJobs
  pub turn : HasTurned (ending (next_number old) old.queue.items) old turned
  pub ended : new.ended.items ≡ turned.ended.items ++ waiting_of turned
