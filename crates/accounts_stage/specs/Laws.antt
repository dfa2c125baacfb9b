-- What holds of setting accounts at each moment: nixpkgs, update-users-groups.pl, which writes its files one after another.
use Rattle.host_trait.specs.World.{WorldState}
use Rattle.switch_names.specs.Names.{Name}
use Rattle.switch_parts.specs.Part.{IsAtEnd, IsDone, IsFree, IsPartMoment, IsOnly, IsPart, IsSameFor}
use Rattle.switch_names.specs.SystemName.{IsSystemPath}
use Rattle.accounts_stage.specs.declared.accounts_plan.AccountsPlan.{AccountsPlan}
use Rattle.accounts_stage.specs.AccountsPart.{accounts_part}
use Rattle.accounts_stage.specs.Plan.{AreAccountsSet, IsAccountsPlanOf, IsSettingAccounts}

-- setting the accounts of a system is a part of a switch
abbrev pub AccountsPartLaw : Type 0
AccountsPartLaw = (system : Name) → IsSystemPath system → IsPart (accounts_part system)

-- each moment of it is one of the part
abbrev pub AccountsMomentLaw : Type 0
AccountsMomentLaw =
    (system : Name) (w m : WorldState) → IsSystemPath system → IsFree (accounts_part system) w.leaves → IsSettingAccounts system w m →
    IsPartMoment (accounts_part system) w m

-- and its last leaves the part at its end, and nothing else has changed
abbrev pub AccountsEndLaw : Type 0
AccountsEndLaw =
    (system : Name) (w v : WorldState) → IsSystemPath system → IsFree (accounts_part system) w.leaves → AreAccountsSet system w v →
    IsAtEnd (accounts_part system) w v × IsOnly (accounts_part system) w v

-- where the accounts are set, and nothing else has changed that the part looks at, it keeps what it kept, and setting them again leaves what stands
abbrev pub AccountsAgainLaw : Type 0
AccountsAgainLaw =
    (system : Name) (w v : WorldState) → IsSystemPath system → IsFree (accounts_part system) w.leaves → IsDone (accounts_part system) w v →
    (accounts_part system).Keeps w v × IsAtEnd (accounts_part system) v v

-- a plan stays one where nothing has changed that the part looks at
abbrev pub AccountsPlanLaw : Type 0
AccountsPlanLaw =
    (system : Name) (w u : WorldState) (plan : AccountsPlan) → IsSystemPath system → IsSameFor (accounts_part system) w u →
    IsAccountsPlanOf system w.leaves plan → IsAccountsPlanOf system u.leaves plan
