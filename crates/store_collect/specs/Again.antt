-- Collections that are cut, and run again: nix-collect-garbage(1).
use Rattle.std.specs.Prelude.{◌≡◌, ◌↔◌, ◌∷◌, ℕ, false, List, []}
use Rattle.host_trait.specs.World.{Leaves, WorldState}
use Rattle.switch_names.specs.Names.{Name, has}
use Rattle.store_live.specs.Live.{Live}
use Rattle.store_collect.specs.declared.collection.Collection.{Collection}
use Rattle.store_collect.specs.Collection.{AreShortFor, IsCollectionOf, IsRefusedAt, passed_over}
use Rattle.store_collect.specs.Steps.{IsCollectedBy, IsCollecting}
use Rattle.store_collect.specs.Unfinished.{is_unfinished}

-- a collection of a world that keeps so many generations is cut at this moment
pub record IsCut (keep : ℕ) (w m : WorldState) : Type 0 where
  pub collection : Collection
  pub planned : IsCollectionOf keep w collection
  pub moment : IsCollecting collection w m

-- a collection of a world that keeps so many generations has come to its end
pub record IsCollected (keep : ℕ) (w v : WorldState) : Type 0 where
  pub collection : Collection
  pub planned : IsCollectionOf keep w collection
  pub end : IsCollectedBy collection w v

-- Collections that keep as many generations lead from one world to another: each but the last is cut, in one of these worlds,
-- which is a moment of it, and the last comes to its end.
abbrev pub CollectsBy : ℕ → List WorldState → WorldState → WorldState → Type 0
CollectsBy keep [] w v = IsCollected keep w v
CollectsBy keep (m ∷ cuts) w v = IsCut keep w m × CollectsBy keep cuts m v

-- a collection of a moment of another that keeps as many has the end of that one, and no other
abbrev pub CollectedAgainLaw : Type 0
CollectedAgainLaw =
    (keep : ℕ) (one again : Collection) (w m v : WorldState) → IsCollectionOf keep w one → IsCollecting one w m → IsCollectionOf keep m again →
    IsCollectedBy again m v ↔ IsCollectedBy one w v

-- what is live in a world is so at each moment of its collection, by one of that moment that keeps as many
abbrev pub LiveStaysLaw : Type 0
LiveStaysLaw =
    (keep : ℕ) (one again : Collection) (w m : WorldState) (x : Name) → IsCollectionOf keep w one → IsCollecting one w m → IsCollectionOf keep m again →
    Live (has (passed_over one.links one.texts)) w x ↔ Live (has (passed_over again.links again.texts)) m x

-- however often collections are cut, the last leaves what one leaves that isn't cut
abbrev pub CutCollectionsLaw : Type 0
CutCollectionsLaw = (keep : ℕ) (cuts : List WorldState) (w v : WorldState) → CollectsBy keep cuts w v → IsCollected keep w v

-- no collection that keeps so many generations is refused: no switch is unfinished, no file is too long, and nothing is in the way
pub record IsAllowed (keep : ℕ) (leaves : Leaves) : Type 0 where
  pub finished : is_unfinished leaves ≡ false
  pub short : AreShortFor keep leaves
  pub free : (at : Name) → IsRefusedAt keep leaves at → ⊥

-- at each moment of a collection that isn't refused none is refused
abbrev pub AllowedLaw : Type 0
AllowedLaw =
    (keep : ℕ) (collection : Collection) (w m : WorldState) → IsCollectionOf keep w collection → IsAllowed keep w.leaves → IsCollecting collection w m → IsAllowed keep m.leaves
