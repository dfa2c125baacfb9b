-- What holds of a collection: nix-store(1), "--gc"; Nix manual, "Garbage Collector Roots".
use Rattle.std.specs.Prelude.{◌≡◌, ◌↔◌, ◌<◌, ◌^◌, ℕ, true, IsSome, Some}
use Rattle.std.specs.FinMap.{get}
use Rattle.generations.specs.Places.{Names, generation_at, link_path}
use Rattle.host_trait.specs.World.{WorldState}
use Rattle.switch_names.specs.Names.{Name, has}
use Rattle.boot_entries.specs.Entries.{version_path}
use Rattle.boot_entries.specs.Places.{entry_path}
use Rattle.boot_entries.specs.Steps.{AreEntries}
use Rattle.store_live.specs.Live.{Live}
use Rattle.store_live.specs.StorePaths.{is_at, is_store_path}
use Rattle.store_collect.specs.declared.collection.Collection.{Collection}
use Rattle.store_collect.specs.Collection.{IsCollectionOf, passed_over}
use Rattle.store_collect.specs.Steps.{IsCollecting}

-- there is one collection of a world
abbrev pub OneCollectionLaw : Type 0
OneCollectionLaw = (keep : ℕ) (w : WorldState) (one other : Collection) → IsCollectionOf keep w one → IsCollectionOf keep w other → one ≡ other

-- at each moment of a collection each leaf at or below a live store path stands as it did
abbrev pub LiveLaw : Type 0
LiveLaw =
    (keep : ℕ) (collection : Collection) (w m : WorldState) (x q : Name) → AreEntries collection.texts.entries → IsCollectionOf keep w collection → IsCollecting collection w m →
    Live (has (passed_over collection.links collection.texts)) w x → is_at x q ≡ true → get m.leaves q ≡ get w.leaves q

-- at each moment a generation that stands and names a system has that whole
abbrev pub WholeLaw : Type 0
WholeLaw =
    (keep : ℕ) (collection : Collection) (w m : WorldState) (n : ℕ) (system q : Name) → AreEntries collection.texts.entries → IsCollectionOf keep w collection → IsCollecting collection w m →
    generation_at m.leaves n ≡ Some (Some system) → is_at system q ≡ true → get m.leaves q ≡ get w.leaves q

-- at each moment the profile names the same system
abbrev pub NamesLaw : Type 0
NamesLaw =
    (keep : ℕ) (collection : Collection) (w m : WorldState) (system : Name) → AreEntries collection.texts.entries → IsCollectionOf keep w collection → IsCollecting collection w m →
    Names m.leaves system ↔ Names w.leaves system

-- at each moment a store path whose version stands has all its leaves
abbrev pub VersionLaw : Type 0
VersionLaw =
    (keep : ℕ) (collection : Collection) (w m : WorldState) (x q : Name) → AreEntries collection.texts.entries → IsCollectionOf keep w collection → IsCollecting collection w m →
    is_store_path x ≡ true → IsSome (get m.leaves (version_path x)) → is_at x q ≡ true → get m.leaves q ≡ get w.leaves q

-- at each moment a number whose boot entry stands has the link that it had, or none where it had none
abbrev pub EntryLaw : Type 0
EntryLaw =
    (keep : ℕ) (collection : Collection) (w m : WorldState) (n : ℕ) → IsCollectionOf keep w collection → IsCollecting collection w m → n < 2 ^ 32 →
    IsSome (get m.leaves (entry_path n)) → get m.leaves (link_path n) ≡ get w.leaves (link_path n)
