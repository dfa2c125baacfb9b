-- What holds of an activation at each moment.
use Rattle.std.proofs.Common.{◌≡◌, Option, None, Some, refl, sym, ap, subst, ◌∙◌, inl, inr, ⊎_elim}
use Rattle.std.proofs.lemmas.Bool.{or_left, or_right}
use Rattle.std.specs.Option.{option_or}
use Rattle.switch_names.specs.Names.{Name}
use Rattle.switch_names.specs.SystemName.{IsSystemPath}
use Rattle.host_trait.specs.Host.{HostState, Leads, Passes}
use Rattle.host_trait.specs.World.{Leaves, WorldState}
use Rattle.host_trait.proofs.Moments.{one_world}
use Rattle.switch_parts.specs.declared.refusal.Refusal.{Refusal}
use Rattle.switch_parts.specs.Part.{IsAtEnd, IsFree, IsPartMoment, IsOnly, IsPart, IsSameFor, Part}
use Rattle.switch_parts.proofs.Parts.{both_part, first_free, first_moment, moment_then, only_beside, only_first, only_second, only_then, second_free, second_moment, ends_both}
use Rattle.etc_manifest.specs.Owners.{OwnerIds}
use Rattle.etc_farm.specs.EtcPart.{CanPutEtc, IsEtcPlanOf, etc_part, etc_refusal}
use Rattle.etc_farm.specs.Making.{IsMakingEtc}
use Rattle.etc_farm.proofs.EtcLemmas.{etc_frame, etc_is, etc_plan_law}
use Rattle.accounts_stage.specs.AccountsPart.{accounts_part, accounts_refusal, tables_after}
use Rattle.accounts_stage.specs.Plan.{AreAccountsSet, CanSetAccounts}
use Rattle.accounts_stage.proofs.AgainLemmas.{set_is_setting}
use Rattle.accounts_stage.proofs.EndLemmas.{end_law}
use Rattle.accounts_stage.proofs.MomentLemmas.{moment_law}
use Rattle.accounts_stage.proofs.PartLemmas.{part_law, plan_law}
use Rattle.account_text.specs.declared.tables.Tables.{Tables}
use Rattle.activation_stage.specs.declared.activation_plan.ActivationPlan.{ActivationPlan}
use Rattle.activation_stage.specs.ActivationPart.{ActivationMomentLaw, ActivationPartLaw, ActivationPlanLaw, CanActivate, IsActivated, IsActivating, OwnersLaw, activation_in, activation_part}
use Rattle.activation_stage.specs.ActivationPart.IsActivating.{Making, Setting}
use Rattle.activation_stage.specs.Owners.{owners_after, owners_in}
use Rattle.activation_stage.proofs.PartedLemmas.{are_parted}

-- ---- an activation is a part

module _ (system : Name) (named : IsSystemPath system) (owners : OwnerIds) where
  abbrev first : Part
  first = accounts_part system

  abbrev second : Part
  second = etc_part system owners

  first_is : IsPart first
  first_is = part_law system named

  second_is : IsPart second
  second_is = etc_is system owners named

  pub activation_is : IsPart (activation_part system owners)
  activation_is = both_part first second first_is second_is

  -- where the accounts alone have changed, nothing has for the farm
  pub farm_same : (w u : WorldState) → IsOnly first w u → IsSameFor second w u
  farm_same w u only = only_beside first second second_is (are_parted system owners).first refl w u only

  pub setting_moment : (w m : WorldState) → IsPartMoment first w m → IsPartMoment (activation_part system owners) w m
  setting_moment = first_moment first second first_is second_is (are_parted system owners)

  pub making_moment : (w m : WorldState) → IsPartMoment second w m → IsPartMoment (activation_part system owners) w m
  making_moment = second_moment first second first_is second_is (are_parted system owners)

pub activation_part_law : ActivationPartLaw
activation_part_law system owners named = activation_is system named owners

-- ---- its moments

module _ (system : Name) (named : IsSystemPath system) (w : WorldState) (free : IsFree (accounts_part system) w.leaves) where
  pub accounts_only : (u : WorldState) → AreAccountsSet system w u → IsOnly (accounts_part system) w u
  accounts_only u set = (end_law system w u named free set).1

  pub accounts_end : (u : WorldState) → AreAccountsSet system w u → IsAtEnd (accounts_part system) w u
  accounts_end u set = (end_law system w u named free set).0

  set_moment : (u : WorldState) → AreAccountsSet system w u → IsPartMoment (accounts_part system) w u
  set_moment u set = moment_law system w u named free (set_is_setting system w u set)

pub activation_moment_law : ActivationMomentLaw
activation_moment_law system w m named free (Setting setting) =
    setting_moment system named (owners_after system w.leaves) w m
    (moment_law system w m named (first_free (accounts_part system) (etc_part system (owners_after system w.leaves)) w.leaves free) setting)
activation_moment_law system w m named free (Making u set making step) =
    let owners = owners_after system w.leaves in
    let accounts_free = first_free (accounts_part system) (etc_part system owners) w.leaves free in
    moment_then (activation_part system owners) (activation_is system named owners) w u m
    (setting_moment system named owners w u (set_moment system named w accounts_free u set)) (making_moment system named owners u m making)

-- ---- the owners, and the plan

pub owners_same : (system : Name) (w m : Leaves) → tables_after system m ≡ tables_after system w → owners_after system m ≡ owners_after system w
unfolding owners_after
owners_same system w m same = ap owners_in same

pub owners_law : OwnersLaw
owners_law system owners w m keeps = owners_same system w.leaves m.leaves keeps.0.tables

pub activation_plan_law : ActivationPlanLaw
activation_plan_law system w u plan named same is =
    let accounts : IsSameFor (accounts_part system) w u = record { leaves = λ q read. same.leaves q (or_left _ _ read); manager = λ calls. same.manager calls } in
    let farm : IsSameFor (etc_part system plan.etc.owners) w u = record { leaves = λ q read. same.leaves q (or_right _ _ read); manager = λ calls. same.manager calls } in
    record {
      accounts = plan_law system w u plan.accounts named accounts is.accounts;
      etc = etc_plan_law system w u plan.etc named farm is.etc;
      owners = is.owners ∙ sym (owners_same system w.leaves u.leaves ((part_law system named).frame w u accounts).tables);
    }

-- ---- a plan is carried out

module _ (system : Name) (named : IsSystemPath system) (plan : ActivationPlan) (w : WorldState) (can : CanActivate system plan w) where
  abbrev owners : OwnerIds
  owners = owners_after system w.leaves

  pub accounts_free : IsFree (accounts_part system) w.leaves
  accounts_free = first_free (accounts_part system) (etc_part system owners) w.leaves can.free

  pub can_set : CanSetAccounts system plan.accounts w
  can_set = record { planned = can.planned.accounts; free = accounts_free }

  module _ (u : WorldState) (set : AreAccountsSet system w u) where
    pub farm_still : IsSameFor (etc_part system owners) w u
    farm_still = farm_same system named owners w u (accounts_only system named w accounts_free u set)

    plan_still : IsEtcPlanOf system u.leaves plan.etc
    plan_still = etc_plan_law system w u plan.etc named (record { leaves = farm_still.leaves; manager = farm_still.manager }) can.planned.etc

    pub can_put : CanPutEtc system plan.etc u
    can_put = record {
      planned = plan_still;
      free = subst (λ ids. IsFree (etc_part system ids) u.leaves) (sym can.planned.owners)
          ((etc_is system owners named).stays_free w u (etc_frame system owners named w u farm_still) (second_free (accounts_part system) (etc_part system owners) w.leaves can.free));
    }

    pub making : (m : WorldState) → IsPartMoment (etc_part system plan.etc.owners) u m → IsMakingEtc system plan.etc.owners u m → IsActivating system w m
    making m moment step = Making u set
        (subst (λ ids. IsPartMoment (etc_part system ids) u m) can.planned.owners moment)
        (subst (λ ids. IsMakingEtc system ids u m) can.planned.owners step)

    pub activated : (v : WorldState) → IsAtEnd (etc_part system plan.etc.owners) u v → IsPartMoment (etc_part system plan.etc.owners) u v → IsActivated system w v
    activated v end moment =
        let ends = subst (λ ids. IsAtEnd (etc_part system ids) u v) can.planned.owners end in
        let only = (subst (λ ids. IsPartMoment (etc_part system ids) u v) can.planned.owners moment).only in
        record {
          end = ends_both (accounts_part system) (etc_part system owners) (part_law system named) (etc_is system owners named) (are_parted system owners).first w u v
              (accounts_end system named w accounts_free u set) farm_still ends only;
          only = only_then (activation_part system owners) w u v
              (only_first (accounts_part system) (etc_part system owners) w u (accounts_only system named w accounts_free u set))
              (only_second (accounts_part system) (etc_part system owners) u v only);
        }

-- ---- a plan is made

pub owners_planned : (system : Name) (leaves : Leaves) (tables : Tables) (owners : OwnerIds) → tables ≡ tables_after system leaves → owners ≡ owners_in tables → owners ≡ owners_after system leaves
unfolding owners_after
owners_planned system leaves tables owners after are = are ∙ ap owners_in after

-- accounts that are refused refuse an activation
pub first_refusal : (system : Name) (leaves : Leaves) (why : Refusal) → accounts_refusal system leaves ≡ Some why → (activation_in system leaves).refusal leaves ≡ Some why
first_refusal system leaves why is = ap (λ (o : Option Refusal). option_or o (etc_refusal system (owners_after system leaves) leaves)) is

-- where they aren't, an activation is refused as its etc is
pub second_refusal : (system : Name) (leaves : Leaves) (owners : OwnerIds) (refusal : Option Refusal) → accounts_refusal system leaves ≡ None → owners ≡ owners_after system leaves →
    etc_refusal system owners leaves ≡ refusal → (activation_in system leaves).refusal leaves ≡ refusal
second_refusal system leaves owners refusal none are is =
    ap (λ (o : Option Refusal). option_or o (etc_refusal system (owners_after system leaves) leaves)) none
    ∙ ap (λ ids. etc_refusal system ids leaves) (sym are) ∙ is

-- ---- two calls, of which the second has led where its moments tell

module _ {a b d : HostState} where
  pub leads_so : {P Q S : WorldState → WorldState → Type 0} → Leads a b P → Leads b d Q → Leads b d S → (R : WorldState → WorldState → Type 0) →
      ((w u v : WorldState) → a.world ≡ Some w → P w u → Q u v → S u v → R w v) → Leads a d R
  leads_so {S = S} first second also R all = record {
    to = λ w is.
        let there = first.to w is in let then = second.to there.0 there.1 in let told = also.to there.0 there.1 in
        (then.0, then.1, all w there.0 then.0 is there.2 then.2 (subst (λ v. S there.0 v) (one_world d.world told.0 then.0 told.1 then.1) told.2));
  }

-- ---- two relations that the moments of one call have are one

module _ {a b : HostState} where
  pub passes_both : {P Q : WorldState → WorldState → Type 0} → Passes a b P → Passes a b Q → Passes a b (λ w m. P w m × Q w m)
  passes_both {P = P} {Q = Q} first second = record {
    later = first.later;
    nothing_else = λ t m early left.
        ⊎_elim (λ before. inl before)
        (λ now. ⊎_elim (λ before. inl before)
        (λ other. inr (now.0, now.1, (now.2, subst (λ x. Q x m) (one_world a.world other.0 now.0 other.1 now.1) other.2)))
        (second.nothing_else t m early left))
        (first.nothing_else t m early left);
    keeps = first.keeps;
    tells = record {
      to = λ w is.
          let there = first.tells.to w is in let other = second.tells.to w is in
          (there.0, there.1, (there.2, subst (λ v. Q w v) (one_world b.world other.0 there.0 other.1 there.1) other.2));
    };
    silent = first.silent;
  }
