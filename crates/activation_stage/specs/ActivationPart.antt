-- The part of a switch that sets the accounts and makes /etc: NixOS manual, "What happens during a system switch?".
use Rattle.std.specs.Prelude.{◌≡◌}
use Rattle.accounts_stage.specs.AccountsPart.{accounts_part}
use Rattle.accounts_stage.specs.Plan.{AreAccountsSet, IsAccountsPlanOf, IsSettingAccounts}
use Rattle.etc_farm.specs.EtcPart.{IsEtcPlanOf, etc_part}
use Rattle.etc_farm.specs.Making.{IsMakingEtc}
use Rattle.etc_manifest.specs.Owners.{OwnerIds}
use Rattle.host_trait.specs.World.{IsSound, Leaves, WorldState}
use Rattle.switch_names.specs.Names.{Name}
use Rattle.switch_names.specs.SystemName.{IsSystemPath}
use Rattle.switch_parts.specs.Part.{IsAtEnd, IsDone, IsFree, IsPartMoment, IsOnly, IsPart, IsSameFor, Part, both}
use Rattle.activation_stage.specs.declared.activation_plan.ActivationPlan.{ActivationPlan}
use Rattle.activation_stage.specs.Owners.{owners_after}

-- the part that sets the accounts of a system and puts its etc, with the owners of these ids
abbrev pub activation_part : Name → OwnerIds → Part
activation_part system owners = both (accounts_part system) (etc_part system owners)

-- the same with the owners of the tables that it leaves
abbrev pub activation_in : Name → Leaves → Part
activation_in system leaves = activation_part system (owners_after system leaves)

-- the plan of an activation: of the accounts, and of /etc with the owners of the tables that are left
pub record IsActivationPlanOf (system : Name) (leaves : Leaves) (plan : ActivationPlan) : Type 0 where
  pub accounts : IsAccountsPlanOf system leaves plan.accounts
  pub etc : IsEtcPlanOf system leaves plan.etc
  pub owners : plan.etc.owners ≡ owners_after system leaves

-- a plan can be carried out: it is that of these leaves, and nothing is in its way
pub record CanActivate (system : Name) (plan : ActivationPlan) (w : WorldState) : Type 0 where
  pub planned : IsActivationPlanOf system w.leaves plan
  pub free : IsFree (activation_in system w.leaves) w.leaves

-- a moment of an activation: the accounts are being set, or they are set, and /etc is being made, step by step
pub data IsActivating (system : Name) (w m : WorldState) : Type 0 where
  Setting : IsSettingAccounts system w m → IsActivating system w m
  Making :
      (u : WorldState) → AreAccountsSet system w u → IsPartMoment (etc_part system (owners_after system w.leaves)) u m →
      IsMakingEtc system (owners_after system w.leaves) u m → IsActivating system w m

-- each place of an activation is at its end, and nothing else has changed
pub record IsActivated (system : Name) (w v : WorldState) : Type 0 where
  pub end : IsAtEnd (activation_in system w.leaves) w v
  pub only : IsOnly (activation_in system w.leaves) w v

-- an activation is a part of a switch
abbrev pub ActivationPartLaw : Type 0
ActivationPartLaw = (system : Name) (owners : OwnerIds) → IsSystemPath system → IsPart (activation_part system owners)

-- each moment of it is one of the part
abbrev pub ActivationMomentLaw : Type 0
ActivationMomentLaw =
    (system : Name) (w m : WorldState) → IsSystemPath system → IsFree (activation_in system w.leaves) w.leaves → IsActivating system w m →
    IsPartMoment (activation_in system w.leaves) w m

-- the tables that are left have the same owners, wherever an activation is cut
abbrev pub OwnersLaw : Type 0
OwnersLaw =
    (system : Name) (owners : OwnerIds) (w m : WorldState) → (activation_part system owners).Keeps w m →
    owners_after system m.leaves ≡ owners_after system w.leaves

-- a plan stays one where nothing has changed that the part looks at, and so do the owners
abbrev pub ActivationPlanLaw : Type 0
ActivationPlanLaw =
    (system : Name) (w u : WorldState) (plan : ActivationPlan) → IsSystemPath system → IsSameFor (activation_in system w.leaves) w u →
    IsActivationPlanOf system w.leaves plan → IsActivationPlanOf system u.leaves plan

-- where an activation is done, and nothing else has changed that it looks at, the next one leaves what stands
abbrev pub ActivationAgainLaw : Type 0
ActivationAgainLaw =
    (system : Name) (w v : WorldState) → IsSystemPath system → IsSound w.leaves → IsFree (activation_in system w.leaves) w.leaves →
    IsDone (activation_in system w.leaves) w v → IsAtEnd (activation_in system v.leaves) v v
