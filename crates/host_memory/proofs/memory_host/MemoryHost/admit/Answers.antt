use Rattle.std.proofs.Common.{sym}
use Rattle.host_memory.proofs.Admitted.{counted_read, done_reads, not_refused, refused_reads}
use Rattle.host_memory.proofs.memory_host.MemoryHost.admit.Goals as goal

pub returns-in_err-admit-clause-reads : goal.returns-in_err-admit-clause-reads
returns-in_err-admit-clause-reads c =
    refused_reads c.args.self.now.history c.args.self.now.troubles c.admit.new.self _
    (sym c.in_err-admit.ensures.answer) c.in_err-admit.ensures.new c.admit.ensures.later

pub returns-clause-reads : goal.returns-clause-reads
returns-clause-reads c = done_reads c.args.self.now.history c.args.self.now.troubles c.admit.new.self _ c.in_ok-admit.ensures.new

pub returns-clause-troubles : goal.returns-clause-troubles
returns-clause-troubles c = counted_read c.args.self.now c.in_ok-admit.ensures.answer c.admit.new.self c.in_ok-admit.ensures.new

pub returns-clause-device : goal.returns-clause-device
returns-clause-device c = not_refused c.args.self.now c.in_ok-admit.ensures.answer _
