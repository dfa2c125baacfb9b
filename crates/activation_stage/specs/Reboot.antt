-- What a reboot leaves of an activation: file-hierarchy(7), "/run/"; NixOS manual, "What happens during a system switch?".
use Rattle.std.specs.Prelude.{◌≡◌, ◌⊎◌, true}
use Rattle.etc_manifest.specs.Owners.{OwnerIds}
use Rattle.host_trait.specs.Reboot.{rebooted, rebooted_with_blank}
use Rattle.host_trait.specs.World.{WorldState}
use Rattle.switch_names.specs.Names.{Name}
use Rattle.switch_names.specs.SystemName.{IsSystemPath}
use Rattle.switch_parts.specs.Part.{IsSameFor}
use Rattle.activation_stage.specs.ActivationPart.{activation_in, activation_part}

-- a world is the other after a reboot, which may leave an empty file at the stage
abbrev pub IsAfterReboot : WorldState → WorldState → Type 0
IsAfterReboot w r = (r ≡ rebooted w) ⊎ (r ≡ rebooted_with_blank w)

-- a reboot loses nothing that an activation looks at
abbrev pub RebootLaw : Type 0
RebootLaw = (system : Name) (owners : OwnerIds) (w r : WorldState) → IsAfterReboot w r → IsSameFor (activation_part system owners) w r

-- an activation leaves after a reboot what it leaves before it
abbrev pub RebootEndLaw : Type 0
RebootEndLaw =
    (system : Name) (w r : WorldState) → IsSystemPath system → IsAfterReboot w r →
    (q : Name) → (activation_in system w.leaves).owns q ≡ true → (activation_in system r.leaves).end r.leaves q ≡ (activation_in system w.leaves).end w.leaves q
