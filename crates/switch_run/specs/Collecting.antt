-- The collection that words ask for: nix-collect-garbage(1), "--delete-generations".
use Rattle.std.specs.Prelude.{◌≡◌, ◌<◌, ◌^◌, ◌++◌, ℕ, true, false, List, [], ◌∷◌, codes, map, nat_eq, Option, None, Some, if◌then◌else◌}
use Rattle.std.specs.Cmp.Lexicographic.{pointwise}
use Rattle.std.specs.Fmt.{decimal}
use Rattle.boot_entries.specs.Steps.{AreEntries}
use Rattle.dry_report.specs.Close.{closing}
use Rattle.dry_report.specs.Collecting.{collection_lines}
use Rattle.generations.specs.Places.{link_path}
use Rattle.host_trait.specs.Sink.{IsPrefixOf}
use Rattle.host_trait.specs.World.{Leaves, WorldState}
use Rattle.store_collect.specs.declared.collection.Collection.{Collection}
use Rattle.store_collect.specs.Collection.{AreShortFor, IsCollectionOf, IsRefusedAt, IsTooLongFor}
use Rattle.store_collect.specs.Again.{IsAllowed, IsCollected}
use Rattle.store_collect.specs.Steps.{IsCollecting}
use Rattle.store_collect.specs.Unfinished.{is_unfinished}
use Rattle.switch_parts.specs.declared.refusal.Refusal.{Refusal}
use Rattle.switch_parts.specs.declared.refusal.Refusal.TheVariants.{InTheWay, TooMany, Unfinished}
use Rattle.switch_parts.specs.declared.refusal.What.TheVariants.{LeafBytes}
use Rattle.switch_run.specs.declared.status.Status.{Status}
use Rattle.switch_run.specs.declared.status.Status.TheVariants.{Done, NoMemory, Refused}

-- what stands behind the word `collect`, or none
abbrev pub collected_word : List (List ℕ) → Option (List ℕ)
collected_word [] = None
collected_word (verb ∷ []) = None
collected_word (verb ∷ word ∷ []) = if pointwise nat_eq verb (codes "collect") then Some word else None
collected_word (verb ∷ word ∷ more ∷ rest) = None

-- words ask for the collection that keeps so many generations: the number is below 2 ^ 32, and has no leading zeros
pub record AsksCollection (words : List (List ℕ)) (keep : ℕ) : Type 0 where
  pub word : List ℕ
  pub behind : collected_word words ≡ Some word
  pub digits : word ≡ decimal keep
  pub below : keep < 2 ^ 32

-- why a world refuses a collection: a switch is unfinished, or else a file of the boot menu is too long, or else a leaf is in the way
abbrev pub RefusesCollection : ℕ → Leaves → Refusal → Type 0
RefusesCollection keep leaves Unfinished = is_unfinished leaves ≡ true
RefusesCollection keep leaves (TooMany LeafBytes count) = (is_unfinished leaves ≡ false) × IsTooLongFor keep leaves count
RefusesCollection keep leaves (InTheWay at) = (is_unfinished leaves ≡ false) × AreShortFor keep leaves × IsRefusedAt keep leaves at
RefusesCollection keep leaves why = ⊥

-- what a collection without a fault answers
abbrev pub AnswersCollection : ℕ → Leaves → Status → Type 0
AnswersCollection keep leaves Done = IsAllowed keep leaves
AnswersCollection keep leaves (Refused why) = RefusesCollection keep leaves why
AnswersCollection keep leaves NoMemory = Unit {0}
AnswersCollection keep leaves status = ⊥

-- what each moment of a collection has: nothing has changed, or the collection of the world is being carried out
pub data IsCollectionMoment (keep : ℕ) (w m : WorldState) : Type 0 where
  Unchanged : m ≡ w → IsCollectionMoment keep w m
  Collecting : (collection : Collection) → IsCollectionOf keep w collection → AreEntries collection.texts.entries → IsCollecting collection w m → IsCollectionMoment keep w m

-- Runs of a collection lead from one world to another: each but the last is cut, in one of these worlds, and the last comes to its
-- end.
abbrev pub CollectionsLead : ℕ → List WorldState → WorldState → WorldState → Type 0
CollectionsLead keep [] w v = IsCollected keep w v
CollectionsLead keep (m ∷ cuts) w v = IsCollectionMoment keep w m × CollectionsLead keep cuts m v

-- a text is the report of the collection of a world: the numbers are those of the links that go
pub record IsCollectionReport (keep : ℕ) (w : WorldState) (text : List ℕ) : Type 0 where
  pub collection : Collection
  pub is_collection : IsCollectionOf keep w collection
  pub numbers : List ℕ
  pub links : collection.links ≡ map link_path numbers
  pub is_text : text ≡ collection_lines numbers collection.names

-- a beginning of the report
pub record IsInCollectionReport (keep : ℕ) (w : WorldState) (more : List ℕ) : Type 0 where
  pub report : List ℕ
  pub is_report : IsCollectionReport keep w report
  pub begun : IsPrefixOf report more

-- all that a collection puts which comes to its end: the report, and the last line
pub record IsWholeCollection (keep : ℕ) (w : WorldState) (more : List ℕ) : Type 0 where
  pub report : List ℕ
  pub is_report : IsCollectionReport keep w report
  pub is_all : more ≡ report ++ closing

-- the whole report, and a beginning of the last line
pub record IsInCollectionClosing (keep : ℕ) (w : WorldState) (more : List ℕ) : Type 0 where
  pub report : List ℕ
  pub rest : List ℕ
  pub is_report : IsCollectionReport keep w report
  pub is_all : more ≡ report ++ rest
  pub begun : IsPrefixOf closing rest
