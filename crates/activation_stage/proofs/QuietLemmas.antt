-- An activation writes no leaf that stands.
use Rattle.std.proofs.Common.{subst}
use Rattle.switch_names.specs.Names.{Name}
use Rattle.switch_names.specs.SystemName.{IsSystemPath}
use Rattle.host_trait.specs.Host.{HostState, Leads, Told}
use Rattle.host_trait.specs.World.{WorldState}
use Rattle.host_trait.proofs.Moments.{leads_then, one_world}
use Rattle.switch_parts.specs.Part.{final_leaf}
use Rattle.switch_parts.specs.Quiet.{IsQuiet}
use Rattle.switch_parts.proofs.QuietLemmas.{quiet_then}
use Rattle.etc_farm.specs.EtcPart.{etc_part}
use Rattle.etc_farm.specs.Written.{clean_first}
use Rattle.etc_farm.proofs.EtcLemmas.{etc_is}
use Rattle.etc_farm.proofs.QuietStageLemmas as farm
use Rattle.accounts_stage.specs.AccountsPart.{accounts_part}
use Rattle.accounts_stage.specs.OnTheWay.{names_first}
use Rattle.accounts_stage.specs.Plan.{AreAccountsSet}
use Rattle.accounts_stage.proofs.PartLemmas.{part_law}
use Rattle.accounts_stage.proofs.QuietLemmas as accounts
use Rattle.activation_stage.specs.declared.activation_plan.ActivationPlan.{ActivationPlan}
use Rattle.activation_stage.specs.ActivationPart.{CanActivate}
use Rattle.activation_stage.specs.Owners.{owners_after}
use Rattle.activation_stage.specs.Quiet.{ActivatesQuietly}
use Rattle.activation_stage.proofs.ActivationLemmas.{accounts_free, accounts_only, farm_still}
use Rattle.activation_stage.proofs.PartedLemmas.{are_parted}

module _ (system : Name) (named : IsSystemPath system) (plan : ActivationPlan) where
  both_quiet : (w u v : WorldState) → CanActivate system plan w → AreAccountsSet system w u →
      IsQuiet (names_first system) (final_leaf (accounts_part system)) w u →
      IsQuiet (clean_first system plan.etc.owners) (final_leaf (etc_part system plan.etc.owners)) u v → ActivatesQuietly system w v
  both_quiet w u v can set quiet then =
      let owners = owners_after system w.leaves in
      let etc = subst (λ ids. IsQuiet (clean_first system ids) (final_leaf (etc_part system ids)) u v) can.planned.owners then in
      let is =
      quiet_then (accounts_part system) (etc_part system owners) (part_law system named) (etc_is system owners named) (are_parted system owners)
      (names_first system) (clean_first system owners) w u v
      (λ q none. accounts.first_owned system w q none)
      (λ q none. farm.first_owned system owners u.leaves q none)
      (λ q. farm.first_same system owners named w u (farm_still system named plan w can u set) q)
      (accounts_only system named w (accounts_free system named plan w can) u set) quiet etc in
      record { places = is.places; written = is.written; quiet = λ q. is.quiet q }

  pub activated_quietly : {a b c : HostState} → Told a (CanActivate system plan) → Leads a b (AreAccountsSet system) →
      Leads a b (IsQuiet (names_first system) (final_leaf (accounts_part system))) →
      Leads b c (IsQuiet (clean_first system plan.etc.owners) (final_leaf (etc_part system plan.etc.owners))) → Leads a c (ActivatesQuietly system)
  activated_quietly {b = b} can led quiet then = leads_then quiet then (ActivatesQuietly system)
      (λ w u v is_w is_u one etc.
      let come = led.to w is_w in
      let set = subst (λ (x : WorldState). AreAccountsSet system w x) (one_world b.world come.0 u come.1 is_u) come.2 in
      both_quiet w u v (can.has w is_w) set one etc)
