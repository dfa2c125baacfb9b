-- Runs of a collection, of which all but the last are cut.
use Rattle.std.proofs.Common.{ℕ, List, [], ◌∷◌, subst}
use Rattle.host_trait.specs.World.{WorldState}
use Rattle.store_collect.specs.Again.{IsCollected}
use Rattle.store_collect.proofs.AgainLemmas.{cut_collections}
use Rattle.switch_run.specs.Collecting.{CollectionsLead, IsCollectionMoment}
use Rattle.switch_run.specs.Collecting.IsCollectionMoment.{Collecting, Unchanged}

-- a collection that ends from a moment of another ends as that
from_moment : (keep : ℕ) (w m v : WorldState) → IsCollectionMoment keep w m → IsCollected keep m v → IsCollected keep w v
from_moment keep w m v (Unchanged same) ended = subst (λ (x : WorldState). IsCollected keep x v) same ended
from_moment keep w m v (Collecting collection is entries moment) ended =
    cut_collections keep (m ∷ []) w v (record { collection = collection; planned = is; moment = moment }, ended)

pub collected : (keep : ℕ) (cuts : List WorldState) (w v : WorldState) → CollectionsLead keep cuts w v → IsCollected keep w v
collected keep [] w v led = led
collected keep (m ∷ cuts) w v led = from_moment keep w m v led.0 (collected keep cuts m v led.1)
