-- What a switch of the units puts on the way is the same where an activation sees the same.
use Rattle.std.proofs.Common.{◌≡◌, ◌++◌, true, ap, ◌∙◌}
use Rattle.std.proofs.lemmas.Bool.{or_left, or_right}
use Rattle.std.specs.FinMap.{get}
use Rattle.accounts_stage.specs.AccountsPart.{reads_accounts}
use Rattle.accounts_stage.specs.OnTheWay.{first_by, names_first}
use Rattle.accounts_stage.proofs.FrameLemmas.{contents_same, declared_same, merged_in_kept}
use Rattle.activation_stage.specs.ActivationPart.{activation_in}
use Rattle.activation_stage.specs.Owners.{owners_after}
use Rattle.activation_stage.specs.Quiet.{activation_first}
use Rattle.activation_stage.proofs.ActivationLemmas.{activation_part_law, owners_law}
use Rattle.etc_farm.specs.Written.{clean_first}
use Rattle.etc_farm.proofs.QuietStageLemmas.{first_same}
use Rattle.etc_manifest.specs.Owners.{OwnerIds}
use Rattle.host_trait.specs.World.{WorldState}
use Rattle.switch_names.specs.Names.{Name}
use Rattle.switch_names.specs.SystemName.{IsSystemPath}
use Rattle.switch_parts.specs.Leaves.{End}
use Rattle.switch_parts.specs.Part.{IsSameFor, final_leaf}

-- what an activation leaves
abbrev pub activation_end : Name → End
activation_end system leaves q = final_leaf (activation_in system leaves) leaves q

module _ (system : Name) (named : IsSystemPath system) (w m : WorldState) (same : IsSameFor (activation_in system w.leaves) w m) where
  names_kept : (q : Name) → names_first system m.leaves q ≡ names_first system w.leaves q
  names_kept q =
      let read : (at : Name) → reads_accounts at ≡ true → get m.leaves at ≡ get w.leaves at = λ at is. same.leaves at (or_left _ _ is) in
      λ i. first_by (merged_in_kept w.leaves m.leaves (contents_same w.leaves m.leaves read) system (declared_same w.leaves m.leaves read system named) i) q

  owners_kept : owners_after system m.leaves ≡ owners_after system w.leaves
  owners_kept = owners_law system (owners_after system w.leaves) w m ((activation_part_law system (owners_after system w.leaves) named).frame w m same)

  clean_kept : (q : Name) → clean_first system (owners_after system m.leaves) m.leaves q ≡ clean_first system (owners_after system w.leaves) w.leaves q
  clean_kept q =
      ap (λ (owners : OwnerIds). clean_first system owners m.leaves q) owners_kept
      ∙ first_same system (owners_after system w.leaves) named w m (record { leaves = λ at is. same.leaves at (or_right _ _ is); manager = λ call. same.manager call }) q

  pub first_kept : (q : Name) → activation_first system m.leaves q ≡ activation_first system w.leaves q
  first_kept q = λ i. names_kept q i ++ clean_kept q i
