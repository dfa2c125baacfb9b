use Rattle.std.proofs.Common.{refl}
use Rattle.etc_farm.specs.FarmPart.{farm_of}
use Rattle.host_memory.specs.MemoryHost.{host_of}
use Rattle.run_worlds.proofs.FallenLemmas.{can_apply}
use Rattle.run_worlds.proofs.fallen.show_etc.Goals as goal

pub obsolete-requires : goal.obsolete-requires
obsolete-requires c = record { found = record { has = λ w is. c.nothing_found-findings.ensures w.leaves } }

pub obsolete-requires-2 : goal.obsolete-requires-2
obsolete-requires-2 c = record { found = record { has = λ w is. c.nothing_found-findings-2.ensures w.leaves } }

pub apply-requires : goal.apply-requires
apply-requires c =
    can_apply (host_of c.empty_host.result) (host_of c.fallen_host-2.result) c.empty_host.result.history.world refl c.empty_host.ensures c.fallen_host-2.ensures
    (farm_of c.args.system.now c.args.manifest.now) c.in_ok-sorted.sorted c.requires c.in_ok-sorted.ensures.sorted
