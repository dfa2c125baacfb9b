-- A put on a host without leaves.
use Rattle.std.proofs.Common.{◌≡◌, ℕ, List, codes, refl}
use Rattle.host_trait.specs.Host.{HostState, Told}
use Rattle.host_trait.specs.World.{stage}
use Rattle.tree_put.specs.Put.{AreApart, CanPut}
use Rattle.world_text.proofs.FallenLemmas.{clear_of_none}
use Rattle.world_text.specs.Leafless.{HasNoLeaf}

pub can_put : (host : HostState) (at : List ℕ) → Told host HasNoLeaf → Told host (CanPut at)
can_put host at told = record { has = λ w is. record { stage = clear_of_none w (told.has w is) stage; place = clear_of_none w (told.has w is) at } }

pub place_apart : AreApart (codes "etc/put") stage
unfolding stage
place_apart = record { other = refl; line = refl }
