use Rattle.std.proofs.Common.{List, length, ap, ◌∙◌}
use Rattle.host_memory.specs.declared.history.DoneCall.{DoneCall}
use Rattle.std.proofs.lemmas.Result.{on_ok_weaker}
use Rattle.host_trait.proofs.Readings.{read_handed, read_then}
use Rattle.job_host.proofs.MemoryLemmas.{still_reads}
use Rattle.job_host.proofs.memory_calls.MemoryJobsJobs.settle.Goals as goal

pub returns-in_err-admit-clause-reads : goal.returns-in_err-admit-clause-reads
returns-in_err-admit-clause-reads c =
    read_handed (read_then c.turn.ensures.reads (still_reads c.turn.new.self.queue.items c.turn.new.self.host c.admit.new.self _ c.admit.ensures.still c.in_err-admit.ensures.reads)) _
    c.from_residual-in_err-admit.ensures.1

pub returns-clause-reads : goal.returns-clause-reads
returns-clause-reads c =
    read_then (read_then c.turn.ensures.reads (still_reads c.turn.new.self.queue.items c.turn.new.self.host c.admit.new.self _ c.admit.ensures.still c.admit.ensures.reads)) c.end_all.ensures.reads

pub returns-clause-order : goal.returns-clause-order
returns-clause-order c = on_ok_weaker c.end_all.result (λ is. record { turned = c.turn.new.self; turn = c.in_ok-turn.ensures.turn; ended = is }) c.end_all.ensures.ended

pub returns-in_err-admit-clause-clock : goal.returns-in_err-admit-clause-clock
returns-in_err-admit-clause-clock c = ap (λ (calls : List DoneCall). length calls) c.admit.ensures.still.calls ∙ c.turn.ensures.clock

pub returns-clause-clock : goal.returns-clause-clock
returns-clause-clock c = c.end_all.ensures.clock ∙ ap (λ (calls : List DoneCall). length calls) c.admit.ensures.still.calls ∙ c.turn.ensures.clock
