-- How many entries a system's etc has: NixOS manual, `environment.etc`.
use Rattle.std.specs.Prelude.{ℕ, List, length, Option, None, Some}
use Rattle.leaf_limits.specs.Counts.{entries_max, past}
use Rattle.switch_names.specs.Names.{Name}
use Rattle.host_trait.specs.World.{Leaves}
use Rattle.etc_manifest.specs.declared.manifest_fault.ManifestFault.{ManifestFault}
use Rattle.etc_manifest.specs.declared.manifest_fault.ManifestFault.TheVariants.{Many, Reserved, Entry, Owner, Host}
use Rattle.etc_manifest.specs.Entries.{entries_of}

-- how many entries a system's etc has, where these are too many: companions are none
abbrev pub entries_past : Leaves → List ℕ → Option ℕ
entries_past leaves system = past entries_max (length (entries_of leaves system))

-- the place of the entry that a fault refuses, where it refuses one
abbrev pub refused_place : ManifestFault → Option Name
refused_place (Many count) = None
refused_place (Reserved place) = Some place
refused_place (Entry place) = Some place
refused_place (Owner place) = Some place
refused_place (Host fault) = None
