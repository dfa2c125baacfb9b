use Rattle.std.proofs.Common.{Some, ap, ◌∙◌}
use Rattle.host_memory.specs.MemoryHost.{host_of}
use Rattle.host_trait.specs.World.{WorldState}
use Rattle.world_text.proofs.FallenLemmas.{none_after}
use Rattle.world_text.proofs.fallen.fallen_host.Goals as goal

pub returns : goal.returns
returns c =
    none_after (host_of c.new-host.result) (host_of c.arm.new.self) (host_of c.daemon_reload-cut.new.self)
    (c.new-host.ensures.world ∙ ap (λ (w : WorldState). Some w) c.new.ensures) c.arm.ensures.world c.daemon_reload-cut.ensures.moments
