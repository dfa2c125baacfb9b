-- What is read of a system's etc is a manifest.
use Rattle.std.proofs.Common.{◌≡◌, false, not, List, ℕ, Result, Ok, Err, IfOk, OnOk, sym, subst}
use Rattle.std.specs.List.{AllByRecursion}
use Rattle.std.specs.List.Sorted.{IsStrictlySortedBy}
use Rattle.std.proofs.lemmas.List.Kept.{IsStrictlySortedBy-filter}
use Rattle.switch_names.specs.Names.{has}
use Rattle.switch_names.specs.SystemName.{IsSystemPath}
use Rattle.host_trait.specs.Bytes.{bytes_cmp}
use Rattle.host_trait.specs.Host.{HostState, IsHost, Told}
use Rattle.host_trait.proofs.Moments.{told_as}
use Rattle.etc_manifest.specs.declared.item.Item.{Item}
use Rattle.etc_manifest.specs.declared.manifest_fault.ManifestFault.{ManifestFault}
use Rattle.etc_manifest.specs.Companion.{is_companion}
use Rattle.etc_manifest.specs.Entries.{IsAnswer, entry_names, manifest_of}
use Rattle.etc_manifest.specs.Manifest.{AreApart, IsManifest, places}
use Rattle.etc_manifest.specs.Owners.{OwnerIds}
use Rattle.etc_manifest.specs.Place.{is_reserved}
use Rattle.etc_manifest.proofs.ApartLemmas.{are_apart}

-- entries in order that aren't reserved make a manifest
pub manifest_where_ok : (r : Result (List Item) ManifestFault) (names : List (List ℕ)) → IsStrictlySortedBy bytes_cmp names →
    IfOk r (λ items. places items ≡ entry_names (has names) names) → OnOk r (AllByRecursion (λ name. is_reserved name ≡ false) (entry_names (has names) names)) → IfOk r IsManifest
manifest_where_ok (Ok items) names sorted placed free = record {
  sorted = subst (IsStrictlySortedBy bytes_cmp) (sym placed) (IsStrictlySortedBy-filter bytes_cmp (λ name. not (is_companion (has names) name)) names sorted);
  free = subst (AllByRecursion (λ name. is_reserved name ≡ false)) (sym placed) free;
}
manifest_where_ok (Err fault) names sorted placed free = tt

-- a host tells sound worlds, in which no entry is above another
pub apart_where_ok : {host : HostState} → IsHost host → (system : List ℕ) (owners : OwnerIds) (r : Result (List Item) ManifestFault) → IsSystemPath system →
    Told host (λ w. IsAnswer r (manifest_of w.leaves system owners)) → IfOk r (λ items. Told host (λ w. AreApart (places items)))
apart_where_ok is_host system owners (Ok items) named told =
    told_as told (λ w. AreApart (places items)) (λ w is answer. are_apart w.leaves system owners items named (is_host.sound w is) answer)
apart_where_ok is_host system owners (Err fault) named told = tt
