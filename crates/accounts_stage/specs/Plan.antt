-- What is planned for accounts, and the steps in which they are set: nixpkgs, update-users-groups.pl.
use Rattle.std.specs.Prelude.{◌≡◌, Option, None, Some, Ok, Err}
use Rattle.host_trait.specs.World.{Leaves, WorldState, seen}
use Rattle.switch_names.specs.Names.{Name}
use Rattle.switch_parts.specs.Part.{IsFree}
use Rattle.users_merge.specs.declared.merged.Merged as answered
use Rattle.users_merge.specs.Merge.{kept, merge_of}
use Rattle.users_merge.specs.Order.{AreInOrder}
use Rattle.users_merge.specs.Stored.{Merged, merged_of}
use Rattle.users_spec.specs.Fields.{Read}
use Rattle.users_spec.specs.Spec.{Accounts}
use Rattle.accounts_stage.specs.declared.accounts_plan.AccountsPlan.{AccountsPlan}
use Rattle.tree_put.specs.Sequence.{IsPutting, with_puts}
use Rattle.accounts_stage.specs.AccountsPart.{accounts_part, puts_of}
use Rattle.accounts_stage.specs.Puts.{first_planned, last_planned}
use Rattle.accounts_stage.specs.Standing.{declared_by, stored_in, tables_in}

-- an answer of a merge is this merge, with its rows in order
pub record IsAnswerOf (m : Merged) (answer : answered.Merged) : Type 0 where
  pub merged : merged_of answer ≡ m
  pub order : AreInOrder answer

-- what is planned for accounts that are declared so: their merge, and those that keep other ids than the ones that are asked for
abbrev pub IsMergePlanned : Leaves → Option (Read Accounts) → Option answered.Merged → Type 0
IsMergePlanned leaves None answer = answer ≡ None
IsMergePlanned leaves (Some (Err why)) answer = ⊥
IsMergePlanned leaves (Some (Ok spec)) None = ⊥
IsMergePlanned leaves (Some (Ok spec)) (Some answer) = IsAnswerOf (merge_of spec (stored_in leaves)) answer × (answer.kept ≡ kept spec (stored_in leaves))

-- the plan for accounts that are declared so: the tables as they stand, and the merge with its puts where accounts are declared
pub record ArePlanned (leaves : Leaves) (declared : Option (Read Accounts)) (plan : AccountsPlan) : Type 0 where
  pub tables : plan.tables ≡ tables_in leaves
  pub merged : IsMergePlanned leaves declared plan.merged
  pub first : plan.first ≡ first_planned plan.merged
  pub last : plan.last ≡ last_planned plan.merged

-- the plan for the accounts that a system declares
abbrev pub IsAccountsPlanOf : Name → Leaves → AccountsPlan → Type 0
IsAccountsPlanOf system leaves plan = ArePlanned leaves (declared_by system leaves) plan

-- a plan can be carried out: it is that of these leaves, and nothing is in its way
pub record CanSetAccounts (system : Name) (plan : AccountsPlan) (w : WorldState) : Type 0 where
  pub planned : IsAccountsPlanOf system w.leaves plan
  pub free : IsFree (accounts_part system) w.leaves

-- a moment of setting the accounts of a system is exactly at one of its puts
abbrev pub IsSettingAccounts : Name → WorldState → WorldState → Type 0
IsSettingAccounts system w m = IsPutting (puts_of system w.leaves) w m

-- but for the stage, the world after all puts
abbrev pub AreAccountsSet : Name → WorldState → WorldState → Type 0
AreAccountsSet system w v = seen v ≡ seen (with_puts (puts_of system w.leaves) w)
