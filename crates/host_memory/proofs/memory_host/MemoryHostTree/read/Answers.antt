use Rattle.std.proofs.Common.{sym}
use Rattle.host_memory.proofs.Admitted.{counted_read, done_reads, not_refused, refused_reads, starved_reads, still}
use Rattle.host_memory.proofs.memory_host.MemoryHostTree.read.Goals as goal

pub returns-in_err-admit-clause-reads : goal.returns-in_err-admit-clause-reads
returns-in_err-admit-clause-reads c =
    refused_reads c.args.self.now.history c.args.self.now.troubles c.admit.new.self _
    (sym c.in_err-admit.ensures.answer) c.in_err-admit.ensures.new c.admit.ensures.later

pub returns-in_err-admit-clause-same : goal.returns-in_err-admit-clause-same
returns-in_err-admit-clause-same c = still c.args.self.now.history c.args.self.now.troubles c.admit.new.self

pub returns-in_err-copy-in-Some-clause-reads : goal.returns-in_err-copy-in-Some-clause-reads
returns-in_err-copy-in-Some-clause-reads c = starved_reads c.args.self.now.history c.args.self.now.troubles c.admit.new.self _ c.in_ok-admit.ensures.new c.from_residual-in_err-copy-in-Some.ensures.1

pub returns-in_err-copy-in-Some-clause-troubles : goal.returns-in_err-copy-in-Some-clause-troubles
returns-in_err-copy-in-Some-clause-troubles c = counted_read c.args.self.now c.in_ok-admit.ensures.answer c.admit.new.self c.in_ok-admit.ensures.new

pub returns-in_err-copy-in-Some-clause-same : goal.returns-in_err-copy-in-Some-clause-same
returns-in_err-copy-in-Some-clause-same c = still c.args.self.now.history c.args.self.now.troubles c.admit.new.self

pub returns-in_ok-copy-in-Some-clause-reads : goal.returns-in_ok-copy-in-Some-clause-reads
returns-in_ok-copy-in-Some-clause-reads c = done_reads c.args.self.now.history c.args.self.now.troubles c.admit.new.self _ c.in_ok-admit.ensures.new

pub returns-in_ok-copy-in-Some-clause-troubles : goal.returns-in_ok-copy-in-Some-clause-troubles
returns-in_ok-copy-in-Some-clause-troubles c = counted_read c.args.self.now c.in_ok-admit.ensures.answer c.admit.new.self c.in_ok-admit.ensures.new

pub returns-in_ok-copy-in-Some-clause-device : goal.returns-in_ok-copy-in-Some-clause-device
returns-in_ok-copy-in-Some-clause-device c = not_refused c.args.self.now c.in_ok-admit.ensures.answer _

pub returns-in_ok-copy-in-Some-clause-same : goal.returns-in_ok-copy-in-Some-clause-same
returns-in_ok-copy-in-Some-clause-same c = still c.args.self.now.history c.args.self.now.troubles c.admit.new.self

pub returns-in-None-clause-reads : goal.returns-in-None-clause-reads
returns-in-None-clause-reads c = done_reads c.args.self.now.history c.args.self.now.troubles c.admit.new.self _ c.in_ok-admit.ensures.new

pub returns-in-None-clause-troubles : goal.returns-in-None-clause-troubles
returns-in-None-clause-troubles c = counted_read c.args.self.now c.in_ok-admit.ensures.answer c.admit.new.self c.in_ok-admit.ensures.new

pub returns-in-None-clause-device : goal.returns-in-None-clause-device
returns-in-None-clause-device c = not_refused c.args.self.now c.in_ok-admit.ensures.answer _

pub returns-in-None-clause-same : goal.returns-in-None-clause-same
returns-in-None-clause-same c = still c.args.self.now.history c.args.self.now.troubles c.admit.new.self
