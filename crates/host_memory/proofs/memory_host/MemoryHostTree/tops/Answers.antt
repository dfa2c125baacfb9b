use Rattle.std.proofs.Common.{sym, subst}
use Rattle.host_memory.proofs.Admitted.{counted_read, done_reads, not_refused, refused_reads, starved_reads, still, told}
use Rattle.host_memory.proofs.memory_host.MemoryHostTree.tops.Goals as goal
use Rattle.host_trait.specs.World.{AreTops, WorldState}

pub returns-in_err-admit-clause-reads : goal.returns-in_err-admit-clause-reads
returns-in_err-admit-clause-reads c =
    refused_reads c.args.self.now.history c.args.self.now.troubles c.admit.new.self _
    (sym c.in_err-admit.ensures.answer) c.in_err-admit.ensures.new c.admit.ensures.later

pub returns-in_err-admit-clause-same : goal.returns-in_err-admit-clause-same
returns-in_err-admit-clause-same c = still c.args.self.now.history c.args.self.now.troubles c.admit.new.self

pub returns-in_err-tops-clause-reads : goal.returns-in_err-tops-clause-reads
returns-in_err-tops-clause-reads c = starved_reads c.args.self.now.history c.args.self.now.troubles c.admit.new.self _ c.in_ok-admit.ensures.new c.from_residual-in_err-tops.ensures.1

pub returns-in_err-tops-clause-troubles : goal.returns-in_err-tops-clause-troubles
returns-in_err-tops-clause-troubles c = counted_read c.args.self.now c.in_ok-admit.ensures.answer c.admit.new.self c.in_ok-admit.ensures.new

pub returns-in_err-tops-clause-same : goal.returns-in_err-tops-clause-same
returns-in_err-tops-clause-same c = still c.args.self.now.history c.args.self.now.troubles c.admit.new.self

pub returns-clause-reads : goal.returns-clause-reads
returns-clause-reads c = done_reads c.args.self.now.history c.args.self.now.troubles c.admit.new.self _ c.in_ok-admit.ensures.new

pub returns-clause-troubles : goal.returns-clause-troubles
returns-clause-troubles c = counted_read c.args.self.now c.in_ok-admit.ensures.answer c.admit.new.self c.in_ok-admit.ensures.new

pub returns-clause-device : goal.returns-clause-device
returns-clause-device c = not_refused c.args.self.now c.in_ok-admit.ensures.answer _

pub returns-clause-same : goal.returns-clause-same
returns-clause-same c = still c.args.self.now.history c.args.self.now.troubles c.admit.new.self

pub returns-clause-tops : goal.returns-clause-tops
returns-clause-tops c =
    told c.args.self.now.history c.args.self.now.troubles (λ w. AreTops w.leaves c.in_ok-tops.field-0)
    (subst (λ (w : WorldState). AreTops w.leaves c.in_ok-tops.field-0) c.world.ensures c.in_ok-tops.ensures)
