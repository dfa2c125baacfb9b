-- What stands where an activation is done is left by the next one.
use Rattle.std.proofs.Common.{sym, subst}
use Rattle.switch_parts.specs.Part.{IsAtEnd}
use Rattle.switch_parts.proofs.Parts.{ends_again, first_done, first_free, second_done}
use Rattle.etc_manifest.specs.Owners.{OwnerIds}
use Rattle.etc_farm.specs.EtcPart.{etc_part}
use Rattle.etc_farm.proofs.AgainLemmas.{etc_again_law}
use Rattle.etc_farm.proofs.EtcLemmas.{etc_is}
use Rattle.accounts_stage.specs.AccountsPart.{accounts_part}
use Rattle.accounts_stage.proofs.AgainLemmas as accounts
use Rattle.accounts_stage.proofs.PartLemmas.{part_law}
use Rattle.activation_stage.specs.ActivationPart.{ActivationAgainLaw, activation_part}
use Rattle.activation_stage.specs.Owners.{owners_after}
use Rattle.activation_stage.proofs.ActivationLemmas.{owners_same}
use Rattle.activation_stage.proofs.PartedLemmas.{are_parted}

pub activation_again_law : ActivationAgainLaw
activation_again_law system w v named sound free done =
    let owners = owners_after system w.leaves in
    let first = accounts_part system in
    let second = etc_part system owners in
    let first_is = part_law system named in
    let second_is = etc_is system owners named in
    let parted = are_parted system owners in
    let set = accounts.again_law system w v named (first_free first second w.leaves free) (first_done first second first_is second_is parted w v done) in
    let made = etc_again_law system owners w v named sound (second_done first second first_is second_is parted w v done) in
    subst (λ (ids : OwnerIds). IsAtEnd (activation_part system ids) v v) (sym (owners_same system w.leaves v.leaves set.0.tables))
    (ends_again first second first_is second_is parted v set.1 made)
