use Rattle.std.proofs.Common.{Some, ap, ◌∙◌}
use Rattle.host_memory.specs.MemoryHost.{host_of}
use Rattle.host_trait.specs.World.{WorldState}
use Rattle.world_text.proofs.FallenLemmas.{none_first}
use Rattle.world_text.proofs.fallen.empty_host.Goals as goal

pub returns : goal.returns
returns c = none_first (host_of c.new-2.result) (c.new-2.ensures.world ∙ ap (λ (w : WorldState). Some w) c.new.ensures)
