-- Faults that the steps of planning and of setting accounts hand on, and the answer of a merge.
use Rattle.std.proofs.Common.{◌≡◌, Option, None, Result, Ok, Err, IfOk, OnOk, IsErrAnd, IsErrOf, ap, option_and_then, refl, subst, sym}
use Rattle.std.specs.Option.{option_or}
use Rattle.account_text.specs.declared.tables.Tables.{Tables}
use Rattle.host_trait.specs.declared.tree.HostFault.{HostFault}
use Rattle.host_trait.specs.declared.tree.HostFault.TheVariants.{Device}
use Rattle.host_trait.specs.Host.{HostState, Told}
use Rattle.host_trait.specs.World.{WorldState}
use Rattle.switch_parts.specs.declared.plan_fault.PlanFault.{PlanFault}
use Rattle.switch_parts.specs.declared.plan_fault.PlanFault.TheVariants.{Host, Refused}
use Rattle.switch_parts.specs.declared.refusal.Refusal.{Refusal}
use Rattle.switch_parts.proofs.Faults.{host_device, no_err}
use Rattle.users_merge.proofs.ExistLemmas.{one_merge, some_merge}
use Rattle.users_merge.specs.declared.merged.Merged as answered
use Rattle.users_merge.specs.Merge.{IsMerge, fault, kept, merge_of}
use Rattle.users_merge.specs.Order.{AreInOrder}
use Rattle.users_merge.specs.Stored.{Stored, merged_of}
use Rattle.users_spec.specs.Spec.{Accounts}
use Rattle.accounts_stage.specs.Refusals.{maps_refusal, merge_refusal, stored_refusal, table_refusal}
use Rattle.accounts_stage.specs.declared.memory.MemoryTexts.{MemoryTexts}
use Rattle.accounts_stage.specs.declared.stored.Stored as read
use Rattle.accounts_stage.specs.All.{all_in, all_of}
use Rattle.accounts_stage.specs.Answer.{Answers, IsMergedBy}
use Rattle.accounts_stage.specs.Standing.{memory_in, tables_in}

module _ {Y : Type 0} where
  -- a fault that is handed on
  pub err_handed : {X : Type 0} (f y : PlanFault) (s : Result Y PlanFault) → IsErrAnd s (λ x. x ≡ f) → IsErrOf s y → IsErrOf {T = X} (Err f) y
  err_handed f y (Ok x) is e = absurd is
  err_handed f y (Err x) is e = cc

-- a fault of the host that is handed on
pub host_handed : {X Y : Type 0} (f : HostFault) (s : Result Y PlanFault) → IsErrAnd s (λ x. x ≡ Host f) → IsErrOf s (Host Device) → IsErrOf {T = X} (Err f) Device
host_handed f (Ok x) is e = absurd is
host_handed f (Err x) is e = host_device (Err x) x f refl is e

-- the answer of a merge is the one merge that there is
pub merge_made :
    (spec : Accounts) (s : Stored) (answer : answered.Merged) → IsMerge spec s (merged_of answer) → AreInOrder answer → answer.kept ≡ kept spec s →
    Answers (option_and_then merge_refusal (fault spec s)) (IsMergedBy spec s) (Ok answer)
merge_made spec s answer is order keeps = record {
  ok = record {
    is = record { merged = one_merge spec s (merged_of answer) (merge_of spec s) is (some_merge spec s is.fine); order = order };
    kept = keeps;
  };
  not_refused = ap (option_and_then merge_refusal) is.fine;
  refused = λ why e. absurd (no_err answer (Refused why) e);
}

-- what a step answers is told of the world at its beginning
module _ {a : HostState} {X : Type 0} (refusal : WorldState → Option Refusal) (P : WorldState → X → Type 0) where
  pub told_ok : (result : Result X PlanFault) → Told a (λ w. Answers (refusal w) (P w) result) → IfOk result (λ x. Told a (λ w. P w x))
  told_ok (Ok x) told = record { has = λ w is. (told.has w is).ok }
  told_ok (Err f) told = tt

  pub told_fine : (result : Result X PlanFault) → Told a (λ w. Answers (refusal w) (P w) result) → OnOk result (Told a (λ w. refusal w ≡ None))
  told_fine (Ok x) told = record { has = λ w is. (told.has w is).not_refused }
  told_fine (Err f) told = tt

-- tables that can be read, with the texts of what is remembered
pub read_with :
    {a : HostState} (tables : Tables) (texts : MemoryTexts) (result : Result read.Stored PlanFault) →
    Told a (λ w. tables ≡ tables_in w.leaves) → Told a (λ w. table_refusal w.leaves ≡ None) → Told a (λ w. texts ≡ memory_in w.leaves) →
    Answers (maps_refusal texts) (λ stored. stored ≡ all_of tables texts) result →
    Told a (λ w. Answers (stored_refusal w.leaves) (λ stored. stored ≡ all_in w.leaves) result)
read_with tables texts result same fine beside answers = record {
  has = λ w is.
      subst (λ (t : Tables). Answers (stored_refusal w.leaves) (λ stored. stored ≡ all_of t (memory_in w.leaves)) result) (same.has w is)
      (subst (λ (o : Option Refusal). Answers (option_or o (maps_refusal (memory_in w.leaves))) (λ stored. stored ≡ all_of tables (memory_in w.leaves)) result) (sym (fine.has w is))
      (subst (λ (m : MemoryTexts). Answers (maps_refusal m) (λ stored. stored ≡ all_of tables m) result) (beside.has w is) answers));
}
