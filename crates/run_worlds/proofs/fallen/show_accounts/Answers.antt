use Rattle.accounts_stage.specs.Places.{account_places}
use Rattle.host_memory.specs.MemoryHost.{host_of}
use Rattle.run_worlds.proofs.FallenLemmas.{nothing_in_the_way}
use Rattle.run_worlds.proofs.fallen.show_accounts.Goals as goal

pub apply-requires : goal.apply-requires
apply-requires c = nothing_in_the_way (host_of c.fallen_host.result) c.fallen_host.ensures account_places
