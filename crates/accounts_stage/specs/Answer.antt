-- What each step of planning accounts answers: nixpkgs, update-users-groups.pl.
use Rattle.std.specs.Prelude.{◌≡◌, Option, None, Some, Result, Ok, Err, IfOk, IsErrOf, OnOk}
use Rattle.account_text.specs.declared.row_fault.RowFault.{RowFault}
use Rattle.account_text.specs.declared.row_fault.RowFault as rows
use Rattle.host_trait.specs.declared.tree.HostFault.TheVariants.{Memory}
use Rattle.switch_parts.specs.declared.plan_fault.PlanFault.{PlanFault}
use Rattle.switch_parts.specs.declared.plan_fault.PlanFault.TheVariants.{Host, Refused}
use Rattle.switch_parts.specs.declared.refusal.Refusal.{Refusal}
use Rattle.switch_parts.specs.declared.refusal.Refusal.TheVariants.{NoFreeId, Table, UnknownGroup, UsersSpec}
use Rattle.switch_parts.specs.declared.refusal.TableFile.{TableFile}
use Rattle.users_merge.specs.declared.merge_fault.MergeFault.{MergeFault}
use Rattle.users_merge.specs.declared.merge_fault.MergeFault as merges
use Rattle.users_merge.specs.declared.merged.Merged as answered
use Rattle.users_merge.specs.Merge.{kept, merge_of}
use Rattle.users_merge.specs.Stored.{Stored}
use Rattle.users_spec.specs.declared.spec_fault.SpecFault.{SpecFault}
use Rattle.users_spec.specs.declared.spec_fault.SpecFault as spec_faults
use Rattle.users_spec.specs.Fields.{Read}
use Rattle.users_spec.specs.Spec.{Accounts}
use Rattle.accounts_stage.specs.Plan.{IsAnswerOf}

-- a step goes well where nothing is refused, and tells why where it is; the host may fail at any time
pub record Answers {X : Type 0} (refusal : Option Refusal) (P : X → Type 0) (result : Result X PlanFault) : Type 0 where
  pub ok : IfOk result P
  pub not_refused : OnOk result (refusal ≡ None)
  pub refused : (why : Refusal) → IsErrOf result (Refused why) → refusal ≡ Some why

-- what comes of a fault of a table
abbrev pub table_fault : TableFile → RowFault → PlanFault
table_fault file (rows.TheVariants.Line at) = Refused (Table file at)
table_fault file rows.TheVariants.Memory = Host Memory

-- what comes of a fault of a specification
abbrev pub spec_fault : SpecFault → PlanFault
spec_fault spec_faults.TheVariants.Memory = Host Memory
spec_fault why = Refused (UsersSpec why)

-- what comes of a fault of a merge
abbrev pub merge_fault : MergeFault → PlanFault
merge_fault (merges.TheVariants.NoFreeId name) = Refused (NoFreeId name)
merge_fault (merges.TheVariants.UnknownGroup user group) = Refused (UnknownGroup user group)
merge_fault merges.TheVariants.Memory = Host Memory

-- why a specification is refused, or nothing
abbrev pub spec_refusal : Option (Read Accounts) → Option Refusal
spec_refusal None = None
spec_refusal (Some (Ok spec)) = None
spec_refusal (Some (Err why)) = Some (UsersSpec why)

-- an answer is the merge, and tells those that keep other ids
pub record IsMergedBy (spec : Accounts) (s : Stored) (answer : answered.Merged) : Type 0 where
  pub is : IsAnswerOf (merge_of spec s) answer
  pub kept : answer.kept ≡ kept spec s
