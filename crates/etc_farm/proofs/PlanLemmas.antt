-- A plan of /etc is made by what is read of a host.
use Rattle.std.proofs.Common.{◌≡◌, ℕ, List, Option, None, Some, Result, Ok, Err, IsErrOf, refl, sym, ap, subst, ◌∙◌}
use Rattle.std.specs.Option.{option_or}
use Rattle.host_trait.specs.Host.{HostState, Told}
use Rattle.host_trait.specs.World.{Leaves}
use Rattle.switch_names.specs.Names.{Name}
use Rattle.switch_parts.specs.declared.refusal.Refusal.{Refusal}
use Rattle.switch_parts.specs.declared.refusal.Refusal.TheVariants.{TooMany}
use Rattle.switch_parts.specs.declared.refusal.What.TheVariants.{Entries, LeafBytes}
use Rattle.switch_parts.specs.Limits.{too_many}
use Rattle.etc_manifest.specs.declared.item.Item.{Item}
use Rattle.etc_manifest.specs.declared.manifest_fault.ManifestFault.{ManifestFault}
use Rattle.etc_manifest.specs.declared.manifest_fault.ManifestFault as faults
use Rattle.etc_manifest.specs.Count.{entries_past, refused_place}
use Rattle.etc_manifest.specs.Entries.{manifest_of}
use Rattle.etc_manifest.specs.Owners.{OwnerIds}
use Rattle.etc_clean.specs.declared.sorting.Sorted.{Sorted}
use Rattle.etc_clean.specs.Obsolete.{IsSortedOf}
use Rattle.etc_farm.specs.EtcPart.{clean_too_long, etc_refusal, manifest_refusal, refusal_in}

-- ---- why a plan is refused

-- a refusal by how many entries there are, what is wanted, and whether the clean list is too long
refusal_by : (system : Name) (owners : OwnerIds) (leaves : Leaves) (many : Option ℕ) (wanted : Result (List Item) ManifestFault) (long : Option Refusal) →
    entries_past leaves system ≡ many → manifest_of leaves system owners ≡ wanted → clean_too_long leaves ≡ long →
    etc_refusal system owners leaves ≡ option_or (too_many Entries many) (option_or (refusal_in wanted) long)
refusal_by system owners leaves many wanted long counted read listed = λ i. option_or (too_many Entries (counted i)) (option_or (refusal_in (read i)) (listed i))

module _ (host : HostState) (system : Name) (owners : OwnerIds) where
  abbrev Counted : Option ℕ → Type 0
  Counted many = Told host (λ w. entries_past w.leaves system ≡ many)

  abbrev Wanted : Result (List Item) ManifestFault → Type 0
  Wanted wanted = Told host (λ w. manifest_of w.leaves system owners ≡ wanted)

  abbrev Refused : Option Refusal → Type 0
  Refused why = Told host (λ w. etc_refusal system owners w.leaves ≡ why)

  abbrev Listed : Option Refusal → Type 0
  Listed why = Told host (λ w. clean_too_long w.leaves ≡ why)

  -- a system with few entries, all of which can be placed, is refused for its clean list alone
  told_list : (items : List Item) (why : Option Refusal) → Counted None → Wanted (Ok items) → Listed why → Refused why
  told_list items why few wanted list = record { has = λ w is. refusal_by system owners w.leaves None (Ok items) why (few.has w is) (wanted.has w is) (list.has w is) }

  -- one with too many is refused for that
  told_many : (count : ℕ) → Counted (Some count) → Refused (Some (TooMany Entries count))
  told_many count many = record { has = λ w is. refusal_by system owners w.leaves (Some count) (manifest_of w.leaves system owners) (clean_too_long w.leaves) (many.has w is) refl refl }

  -- and one with few for what its first refused entry is
  told_fault : (fault : ManifestFault) (why : Refusal) → manifest_refusal fault ≡ Some why → Counted None → Wanted (Err fault) → Refused (Some why)
  told_fault fault why refused few wanted = record {
    has = λ w is.
        refusal_by system owners w.leaves None (Err fault) (clean_too_long w.leaves) (few.has w is) (wanted.has w is) refl ∙ ap (λ o. option_or o (clean_too_long w.leaves)) refused;
  }

  -- what the list of what was found says of the clean list
  pub told_past : (items : List Item) (sorted : Sorted) (why : Option Refusal) → Counted None → Wanted (Ok items) → Told host (λ w. IsSortedOf items w.leaves sorted) → too_many LeafBytes sorted.past ≡ why → Refused why
  told_past items sorted why few wanted are is = told_list items why few wanted (record { has = λ w there. ap (too_many LeafBytes) (sym (are.has w there).past) ∙ is })

  -- what is refused of a manifest refuses its plan
  pub told_refusal : {M : Type 0} (fault : ManifestFault) (why : Refusal) →
      ((count : ℕ) → IsErrOf {T = M} (Err fault) (faults.TheVariants.Many count) → Counted (Some count)) →
      ((one : ManifestFault) (place : Name) → IsErrOf {T = M} (Err fault) one → refused_place one ≡ Some place → Counted None) →
      ((place : Name) → IsErrOf {T = M} (Err fault) (faults.TheVariants.Reserved place) → Wanted (Err (faults.TheVariants.Reserved place))) →
      ((place : Name) → IsErrOf {T = M} (Err fault) (faults.TheVariants.Entry place) → Wanted (Err (faults.TheVariants.Entry place))) →
      ((place : Name) → IsErrOf {T = M} (Err fault) (faults.TheVariants.Owner place) → Wanted (Err (faults.TheVariants.Owner place))) →
      manifest_refusal fault ≡ Some why → Refused (Some why)
  told_refusal (faults.TheVariants.Many count) why many few reserved entry owner refused = subst Refused refused (told_many count (many count refl))
  told_refusal (faults.TheVariants.Reserved place) why many few reserved entry owner refused =
      told_fault (faults.TheVariants.Reserved place) why refused (few (faults.TheVariants.Reserved place) place refl refl) (reserved place refl)
  told_refusal (faults.TheVariants.Entry place) why many few reserved entry owner refused =
      told_fault (faults.TheVariants.Entry place) why refused (few (faults.TheVariants.Entry place) place refl refl) (entry place refl)
  told_refusal (faults.TheVariants.Owner place) why many few reserved entry owner refused =
      told_fault (faults.TheVariants.Owner place) why refused (few (faults.TheVariants.Owner place) place refl refl) (owner place refl)
  told_refusal (faults.TheVariants.Host fault) why many few reserved entry owner refused = absurd cc
