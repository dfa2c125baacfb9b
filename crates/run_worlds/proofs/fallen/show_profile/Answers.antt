use Rattle.std.proofs.Common.{refl}
use Rattle.generations.specs.Goal.{goal_place}
use Rattle.generations.specs.Places.{profile}
use Rattle.host_memory.specs.MemoryHost.{host_of}
use Rattle.run_worlds.proofs.FallenLemmas.{can_put, can_set, same_gens}
use Rattle.run_worlds.proofs.fallen.show_profile.Goals as goal

pub set-requires-clause-gens : goal.set-requires-clause-gens
set-requires-clause-gens c =
    same_gens (host_of c.empty_host.result) (host_of c.fallen_host-2.result) c.empty_host.result.history.world refl c.empty_host.ensures c.fallen_host-2.ensures c.in_ok-gens.gens c.in_ok-gens.ensures.gens

pub set-requires-clause-can : goal.set-requires-clause-can
set-requires-clause-can c = can_set (host_of c.fallen_host-2.result) c.fallen_host-2.ensures c.args.system.now

pub point-requires : goal.point-requires
point-requires c = can_put (host_of c.fallen_host-3.result) c.fallen_host-3.ensures profile

pub goal-requires : goal.goal-requires
goal-requires c =
    same_gens (host_of c.empty_host.result) (host_of c.fallen_host-4.result) c.empty_host.result.history.world refl c.empty_host.ensures c.fallen_host-4.ensures c.in_ok-gens.gens c.in_ok-gens.ensures.gens

pub record_goal-requires : goal.record_goal-requires
record_goal-requires c = can_put (host_of c.fallen_host-5.result) c.fallen_host-5.ensures goal_place
