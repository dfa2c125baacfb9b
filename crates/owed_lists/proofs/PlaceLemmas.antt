-- Where the lists stand.
use Rattle.std.proofs.Common.{refl}
use Rattle.host_trait.specs.World.{stage}
use Rattle.log_text.specs.declared.lists.Which.{Which}
use Rattle.log_text.specs.declared.lists.Which.TheVariants.{Starts, Restarts, Reloads}
use Rattle.owed_lists.specs.Lists.{place_of}
use Rattle.tree_put.specs.Put.{AreApart}

-- no list stands at the stage, nor in line with it
pub place_apart : (which : Which) → AreApart (place_of which) stage
unfolding place_of stage
place_apart Starts = record { other = refl; line = refl }
place_apart Restarts = record { other = refl; line = refl }
place_apart Reloads = record { other = refl; line = refl }
