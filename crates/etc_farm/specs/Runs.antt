-- Runs of switches one after another, each cut or ended: setup-etc.pl of nixpkgs.
use Rattle.std.specs.Prelude.{◌≡◌, ◌⊎◌, ◌∷◌, [], List, None, Some, false, true}
use Rattle.switch_names.specs.Names.{Name, has}
use Rattle.host_trait.specs.World.{IsSound, Leaves, WorldState}
use Rattle.switch_parts.specs.Part.{IsPartMoment, IsSameFor}
use Rattle.etc_manifest.specs.declared.item.Item.{Item}
use Rattle.etc_manifest.specs.declared.item.ItemKind.TheVariants.{Linked}
use Rattle.etc_manifest.specs.Manifest.{IsManifest}
use Rattle.etc_manifest.specs.Place.{is_reserved}
use Rattle.etc_clean.specs.declared.sorting.Sorted.{Sorted}
use Rattle.etc_clean.specs.CleanList.{clean_of}
use Rattle.etc_clean.specs.Etc.{Farm, leaf_of}
use Rattle.etc_clean.specs.Farm.{at, is_below_nixos, is_foreign}
use Rattle.etc_clean.specs.Keeps.{AreAlike, AreFree}
use Rattle.etc_farm.specs.declared.etc_plan.EtcPlan.{EtcPlan}
use Rattle.etc_farm.specs.EtcPart.{CanPutEtc, items_of}
use Rattle.etc_farm.specs.FarmPart.{AreListed, CanApply, farm_of, farm_part}
use Rattle.etc_farm.specs.Making.{IsMaking, IsMakingEtc}

-- worlds one after another, each left by a run of one farm that was cut or ended, or by what changes where the farm doesn't look
abbrev pub AreRuns : Farm → WorldState → List WorldState → WorldState → Type 0
AreRuns farm w [] m = m ≡ w
AreRuns farm w (v ∷ worlds) m = (IsPartMoment (farm_part farm) w v ⊎ IsSameFor (farm_part farm) w v) × AreRuns farm v worlds m

-- however often runs are cut, a copied or direct entry that isn't blocked has its leaf of the first world, or is on the clean list
abbrev pub ListedLaw : Type 0
ListedLaw =
    (farm : Farm) (w m : WorldState) (worlds : List WorldState) → AreFree farm.items → AreRuns farm w worlds m →
    AreListed farm.items w.leaves m.leaves

-- a run of a farm that could be put in one world has left another
pub record IsLeftBy (farm : Farm) (w v : WorldState) : Type 0 where
  pub manifest : IsManifest farm.items
  pub found : Sorted
  pub can : CanApply farm found w
  pub making : IsMaking farm w v

-- each moment of making /etc as planned is left by a run of the farm that the system wants
abbrev pub EtcRunLaw : Type 0
EtcRunLaw =
    (system : Name) (plan : EtcPlan) (w v : WorldState) → CanPutEtc system plan w → IsMakingEtc system plan.owners w v →
    IsLeftBy (farm_of system (items_of system plan.owners w.leaves)) w v

-- what leads from one world to the next: a run of some farm, or a change where no farm looks
pub data IsNext (w v : WorldState) : Type 0 where
  Run : (farm : Farm) → IsLeftBy farm w v → IsNext w v
  Elsewhere : AreAlike w.leaves v.leaves → IsNext w v

-- worlds one after another, each with no leaf above or below another, each left so by a farm of its own
abbrev pub AreSwitches : WorldState → List WorldState → WorldState → Type 0
AreSwitches w [] m = m ≡ w
AreSwitches w (v ∷ worlds) m = IsSound w.leaves × IsNext w v × AreSwitches v worlds m

-- the leaf of a name below etc since a first world: the one of then, none, a link into `/etc/static`, or one on the clean list
pub data IsKnownSince (first m : Leaves) (q : Name) : Type 0 where
  AsThen : at m q ≡ at first q → IsKnownSince first m q
  Away : at m q ≡ None → IsKnownSince first m q
  IntoStatic : at m q ≡ Some (leaf_of q Linked) → IsKnownSince first m q
  Listed : has (clean_of m) q ≡ true → IsKnownSince first m q

-- however often switches of whatever systems are cut, what they have put is a link into `/etc/static` or on the clean list
abbrev pub KnownLaw : Type 0
KnownLaw =
    (w m : WorldState) (worlds : List WorldState) → AreSwitches w worlds m → (q : Name) → is_reserved q ≡ false →
    IsKnownSince w.leaves m.leaves q

-- so what a later switch of another system finds foreign stood so in the first world, or is a link below `nixos`
abbrev pub ForeignLaw : Type 0
ForeignLaw =
    (items : List Item) (w m : WorldState) (worlds : List WorldState) → AreSwitches w worlds m → (q : Name) → is_foreign items m.leaves q ≡ true →
    (at m.leaves q ≡ at w.leaves q) ⊎ ((is_below_nixos q ≡ true) × (at m.leaves q ≡ Some (leaf_of q Linked)))
