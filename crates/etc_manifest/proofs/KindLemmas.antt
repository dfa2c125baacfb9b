-- How a copy is made of its parts.
use Rattle.std.proofs.Common.{◌≡◌, ℕ, ◌⊎◌, List, Option, None, Some, Err, ⊎_elim, ap, refl}
use Rattle.etc_manifest.specs.declared.manifest_fault.ManifestFault.TheVariants.{Entry}
use Rattle.etc_manifest.specs.declared.reading.Parts.{Parts}
use Rattle.etc_manifest.specs.Kind.{copied_by, copied_kind, owned_kind}
use Rattle.etc_manifest.specs.Owners.{OwnerIds, owner_id}

module _ (owners : OwnerIds) (name : List ℕ) (mode : ℕ) (parts : Parts) where
  -- one without a text of an owner is refused
  pub not_owned : (parts.uid ≡ None) ⊎ (parts.gid ≡ None) → copied_kind owners name mode parts ≡ Err (Entry name)
  not_owned lacks = by parts.bytes parts.uid parts.gid lacks
    where
      by : (bytes uid gid : Option (List ℕ)) → (uid ≡ None) ⊎ (gid ≡ None) → copied_by owners name mode bytes uid gid ≡ Err (Entry name)
      by None uid gid lacks = refl
      by (Some bytes) None gid lacks = refl
      by (Some bytes) (Some uid) None lacks = refl
      by (Some bytes) (Some uid) (Some gid) lacks = ⊎_elim (λ e. absurd (cc)) (λ e. absurd (cc)) lacks

  -- and so is one without content
  pub without_content : parts.bytes ≡ None → copied_kind owners name mode parts ≡ Err (Entry name)
  without_content none = ap (λ bytes. copied_by owners name mode bytes parts.uid parts.gid) none

  -- any other is one of these owners
  pub copied_of : (bytes uid gid : List ℕ) → parts.bytes ≡ Some bytes → parts.uid ≡ Some uid → parts.gid ≡ Some gid →
      copied_kind owners name mode parts ≡ owned_kind name bytes mode (owner_id owners.users uid) (owner_id owners.groups gid)
  copied_of bytes uid gid b u g = λ i. copied_by owners name mode (b i) (u i) (g i)
