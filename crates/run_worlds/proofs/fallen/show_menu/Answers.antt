use Rattle.std.proofs.Common.{refl}
use Rattle.host_memory.specs.MemoryHost.{host_of}
use Rattle.run_worlds.proofs.FallenLemmas.{can_apply_boot}
use Rattle.run_worlds.proofs.fallen.show_menu.Goals as goal

pub apply-requires-clause-can : goal.apply-requires-clause-can
apply-requires-clause-can c =
    can_apply_boot (host_of c.empty_host.result) (host_of c.fallen_host-2.result) c.empty_host.result.history.world refl c.empty_host.ensures c.fallen_host-2.ensures
    c.args.gens.now c.in_ok-menu.menu c.in_ok-menu.ensures.texts
