-- The part of a switch that makes /etc what a system wants: NixOS manual, `environment.etc`; setup-etc.pl of nixpkgs.
use Rattle.std.specs.Prelude.{◌≡◌, ◌||◌, Bool, false, List, [], Option, None, Some, Result, Ok, Err}
use Rattle.std.specs.Option.{option_or}
use Rattle.etc_clean.specs.Etc.{etc}
use Rattle.etc_clean.specs.CleanList.{clean_name}
use Rattle.etc_clean.specs.Names.{name_of, place}
use Rattle.etc_clean.specs.Obsolete.{IsSortedOf}
use Rattle.etc_manifest.specs.declared.item.Item.{Item}
use Rattle.etc_manifest.specs.declared.manifest_fault.ManifestFault.{ManifestFault}
use Rattle.etc_manifest.specs.declared.manifest_fault.ManifestFault as faults
use Rattle.etc_manifest.specs.Count.{entries_past}
use Rattle.etc_manifest.specs.Entries.{entries_of, manifest_of}
use Rattle.etc_manifest.specs.Manifest.{AreApart, places}
use Rattle.etc_manifest.specs.Owners.{OwnerIds}
use Rattle.etc_manifest.specs.Taken.{takes_entries}
use Rattle.host_trait.specs.World.{IsSound, Leaves, WorldState, content_of}
use Rattle.leaf_limits.specs.Limits.{content_past, long_past}
use Rattle.switch_names.specs.Names.{Name, is_name}
use Rattle.switch_names.specs.SystemName.{IsSystemPath}
use Rattle.switch_parts.specs.declared.refusal.Refusal.{Refusal}
use Rattle.switch_parts.specs.declared.refusal.Refusal.TheVariants.{EtcEntry, Owner, Reserved, TooMany}
use Rattle.switch_parts.specs.declared.refusal.What.TheVariants.{Entries, LeafBytes}
use Rattle.switch_parts.specs.Limits.{too_many}
use Rattle.switch_parts.specs.Part.{IsAtEnd, IsDone, IsFree, IsPart, IsSameFor, Part}
use Rattle.etc_farm.specs.declared.etc_plan.EtcPlan.{EtcPlan}
use Rattle.etc_farm.specs.FarmPart.{KeepsFarm, farm_of, fixed_places, owns_farm, reads_farm}
use Rattle.etc_farm.specs.Lists.{list_long}
use Rattle.etc_farm.specs.Steps.{IsPrepared}

-- a fault of a manifest as a refusal; a fault of the host is none
abbrev pub manifest_refusal : ManifestFault → Option Refusal
manifest_refusal (faults.TheVariants.Many count) = Some (TooMany Entries count)
manifest_refusal (faults.TheVariants.Reserved place) = Some (Reserved place)
manifest_refusal (faults.TheVariants.Entry place) = Some (EtcEntry place)
manifest_refusal (faults.TheVariants.Owner place) = Some (Owner place)
manifest_refusal (faults.TheVariants.Host why) = None

-- why what is read of a manifest is refused, or nothing
abbrev pub refusal_in : Result (List Item) ManifestFault → Option Refusal
refusal_in (Ok items) = None
refusal_in (Err why) = manifest_refusal why

-- the refusal of a system whose etc has too many entries
abbrev pub entries_too_many : Leaves → Name → Option Refusal
entries_too_many leaves system = too_many Entries (entries_past leaves system)

-- making /etc takes the content at a place: of the entries, and the clean list that stands
abbrev pub takes_etc : Leaves → Name → Name → Bool
takes_etc leaves system q = takes_entries leaves system q || is_name q (place clean_name)

-- the refusal of a system to make whose etc a content is taken that is too long
abbrev pub etc_too_long : Leaves → Name → Option Refusal
etc_too_long leaves system = too_many LeafBytes (long_past (takes_etc leaves system) leaves)

-- the refusal of a clean list that stands and is too long
abbrev pub clean_too_long : Leaves → Option Refusal
clean_too_long leaves = too_many LeafBytes (content_past (content_of leaves (place clean_name)))

-- why what a system wants below /etc is refused: too many entries come before what is wrong with any of them, and the clean list
-- that stands comes last
abbrev pub etc_refusal : Name → OwnerIds → Leaves → Option Refusal
etc_refusal system owners leaves =
    option_or (entries_too_many leaves system) (option_or (refusal_in (manifest_of leaves system owners)) (clean_too_long leaves))

-- the items that were read, and none where they can't be
abbrev pub items_in : Result (List Item) ManifestFault → List Item
items_in (Ok items) = items
items_in (Err why) = []

-- what a system wants below /etc, with the owners of these ids
abbrev pub items_of : Name → OwnerIds → Leaves → List Item
items_of system owners leaves = items_in (manifest_of leaves system owners)

-- each moment keeps the system's entries, what it wants there, and what its farm looks at
pub record KeepsEtc (system : Name) (owners : OwnerIds) (w m : WorldState) : Type 0 where
  pub entries : entries_of m.leaves system ≡ entries_of w.leaves system
  pub manifest : manifest_of m.leaves system owners ≡ manifest_of w.leaves system owners
  pub farm : KeepsFarm (items_of system owners w.leaves) w m

-- the part that puts the farm of a system
abbrev pub etc_part : Name → OwnerIds → Part
etc_part system owners = record {
  owns = owns_farm;
  reads = reads_farm;
  calls = false;
  places = λ leaves. fixed_places;
  refusal = etc_refusal system owners;
  long = λ leaves. list_long (items_of system owners leaves) leaves;
  end = λ leaves path. etc (farm_of system (items_of system owners leaves)) leaves (name_of path);
  Keeps = KeepsEtc system owners;
}

-- the plan for /etc of a system: what it wants there, what of /etc is gone, blocked and on the clean list, and what is put beside the entries
pub record IsEtcPlanOf (system : Name) (leaves : Leaves) (plan : EtcPlan) : Type 0 where
  pub wanted : manifest_of leaves system plan.owners ≡ Ok plan.manifest
  pub apart : AreApart (places plan.manifest)
  pub sorted : IsSortedOf plan.manifest leaves plan.sorted
  pub prepared : IsPrepared (farm_of system plan.manifest) plan.sorted plan.prepared

-- a plan can be carried out: it is that of these leaves, and nothing is in its way
pub record CanPutEtc (system : Name) (plan : EtcPlan) (w : WorldState) : Type 0 where
  pub planned : IsEtcPlanOf system w.leaves plan
  pub free : IsFree (etc_part system plan.owners) w.leaves

-- making /etc what a system wants is a part of a switch
abbrev pub EtcPartLaw : Type 0
EtcPartLaw = (system : Name) (owners : OwnerIds) → IsSystemPath system → IsPart (etc_part system owners)

-- a plan stays one where nothing has changed that the part looks at
abbrev pub EtcPlanLaw : Type 0
EtcPlanLaw =
    (system : Name) (w u : WorldState) (plan : EtcPlan) → IsSystemPath system → IsSameFor (etc_part system plan.owners) w u →
    IsEtcPlanOf system w.leaves plan → IsEtcPlanOf system u.leaves plan

-- where /etc is what a system wants, and nothing else has changed that the part looks at, making it again leaves what stands
abbrev pub EtcAgainLaw : Type 0
EtcAgainLaw =
    (system : Name) (owners : OwnerIds) (w v : WorldState) → IsSystemPath system → IsSound w.leaves → IsDone (etc_part system owners) w v →
    IsAtEnd (etc_part system owners) v v
