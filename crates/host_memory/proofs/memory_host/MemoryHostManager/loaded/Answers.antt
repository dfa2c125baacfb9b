use Rattle.std.proofs.Common.{◌≡◌, sym, ap, ◌∙◌}
use Rattle.host_memory.proofs.Admitted.{counted_read, done_reads, not_refused, refused_reads, starved_reads, told}
use Rattle.host_memory.proofs.memory_host.MemoryHostManager.loaded.Goals as goal
use Rattle.host_trait.specs.World.{WorldState}

pub returns-in_err-admit-clause-reads : goal.returns-in_err-admit-clause-reads
returns-in_err-admit-clause-reads c =
    refused_reads c.args.self.now.history c.args.self.now.troubles c.admit.new.self _
    (sym c.in_err-admit.ensures.answer) c.in_err-admit.ensures.new c.admit.ensures.later

pub returns-in_err-copy-clause-reads : goal.returns-in_err-copy-clause-reads
returns-in_err-copy-clause-reads c = starved_reads c.args.self.now.history c.args.self.now.troubles c.admit.new.self _ c.in_ok-admit.ensures.new c.from_residual-in_err-copy.ensures.1

pub returns-in_err-copy-clause-troubles : goal.returns-in_err-copy-clause-troubles
returns-in_err-copy-clause-troubles c = counted_read c.args.self.now c.in_ok-admit.ensures.answer c.admit.new.self c.in_ok-admit.ensures.new

pub returns-clause-reads : goal.returns-clause-reads
returns-clause-reads c = done_reads c.args.self.now.history c.args.self.now.troubles c.admit.new.self _ c.in_ok-admit.ensures.new

pub returns-clause-troubles : goal.returns-clause-troubles
returns-clause-troubles c = counted_read c.args.self.now c.in_ok-admit.ensures.answer c.admit.new.self c.in_ok-admit.ensures.new

pub returns-clause-device : goal.returns-clause-device
returns-clause-device c = not_refused c.args.self.now c.in_ok-admit.ensures.answer _

pub returns-clause-loaded : goal.returns-clause-loaded
returns-clause-loaded c =
    told c.args.self.now.history c.args.self.now.troubles (λ w. c.in_ok-copy.field-0 ≡ w.manager.loaded)
    (c.in_ok-copy.ensures ∙ c.loaded.ensures.text ∙ ap (λ (w : WorldState). w.manager.loaded) c.world.ensures)
