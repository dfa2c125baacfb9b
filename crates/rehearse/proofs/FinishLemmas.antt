-- A command that was run until it ended on a host whose jobs end later, and then waits for each job.
use Rattle.std.proofs.Common.{◌≡◌, ◌≤◌, ◌+◌, [], List, take, Some, sym, ap, subst, arith}
use Rattle.host_memory.specs.MemoryHost.{manager_of}
use Rattle.host_trait.specs.Change.{IsSame}
use Rattle.host_trait.specs.Host.{HostState, Passes}
use Rattle.host_trait.specs.World.{with_manager}
use Rattle.host_trait.proofs.Moments.{goes_on_same, leads_then}
use Rattle.job_host.specs.declared.memory_jobs.MemoryJobs.{MemoryJobs}
use Rattle.job_host.specs.MemoryJobs.{host_of, raw_of, waiting_of}
use Rattle.job_host.specs.Settled.{settled}
use Rattle.job_host.proofs.QueueLemmas.{no_jobs}
use Rattle.rehearse.specs.declared.cut.Cut.{Cut}
use Rattle.rehearse.specs.declared.summary.Summary.{Summary}
use Rattle.rehearse.specs.Ends.{HasEnded, IsHeld}
use Rattle.rehearse.specs.Through.{IsRunThrough, IsThrough}
use Rattle.rehearse.specs.Troubles.{allowed}
use Rattle.switch_engine.specs.declared.command.Command.{Command}

module _ {a b c : HostState} (command : Command) where
  -- each moment, with the wait
  pub way_finished : Passes a b (IsHeld command) → Passes b c IsSame → Passes a c (IsHeld command)
  way_finished way same = goes_on_same way way.tells same (IsHeld command) (λ w m is moment. moment) (λ w v is moment. moment)

  -- what holds of the runs holds after the wait
  pub through_finished : (cuts : List Cut) (summary : Summary) → IsRunThrough command a b cuts summary → Passes b c IsSame → c.clock ≡ b.clock → b.faults ≤ c.faults → IsRunThrough command a c cuts summary
  through_finished cuts summary is same clock later = record {
    ended = record {
      some = is.ended.some;
      most = is.ended.most;
      led = leads_then is.ended.led same.tells (IsThrough command summary.end) (λ w v u is is_v ended still. subst (λ x. IsThrough command summary.end w x) (sym still) ended);
      at_once = λ one.
          leads_then (is.ended.at_once one) same.tells (HasEnded command summary.end) (λ w v u is is_v ended still. subst (λ x. HasEnded command summary.end w x) (sym still) ended);
      faults = let so_far = is.ended.faults in omega (arith, so_far, later);
    };
    clock = λ few. subst (λ n. n ≤ a.clock + allowed (take summary.runs cuts)) (sym clock) (is.clock few);
  }

-- where no job waits, the world that is told is the world as it is
pub raw_told : (jobs : MemoryJobs) → waiting_of jobs ≡ [] → (host_of jobs).world ≡ Some (raw_of jobs)
raw_told jobs none =
    ap (λ queue. Some (with_manager (settled queue (manager_of jobs.host)) jobs.host.history.world)) (no_jobs jobs.queue.items none)
