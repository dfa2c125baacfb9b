use Rattle.std.proofs.Common.{ap, option_map, ◌∙◌, inl, inr}
use Rattle.std.specs.Option.{option_or}
use Rattle.users_merge.specs.Merge.{gid_of, user_fault, user_ids}
use Rattle.users_merge.specs.Stored.{stored_of}
use Rattle.users_merge.specs.declared.merge_fault.MergeFault.TheVariants.{NoFreeId}
use Rattle.users_merge.proofs.CollectedLemmas.{handed}
use Rattle.users_merge.proofs.merging.merge.Goals as goal

pub returns-in_err-groups-clause-fault : goal.returns-in_err-groups-clause-fault
returns-in_err-groups-clause-fault c =
    let s = stored_of c.args.tables.now c.args.remembered.now c.args.declared.now in
    handed _ _ _ c.from_residual.ensures.1
    (elim c.in_err-groups.ensures.fault [
      | inl memory ↦ inl memory
      | inr is ↦ inr (ap (λ o. option_or o (user_fault (gid_of c.args.spec.now s) c.args.spec.now.users (user_ids c.args.spec.now s))) is)
    ])

pub returns-in_err-users-clause-fault : goal.returns-in_err-users-clause-fault
returns-in_err-users-clause-fault c =
    let s = stored_of c.args.tables.now c.args.remembered.now c.args.declared.now in
    handed _ _ _ c.from_residual-in_err-users.ensures.1
    (elim c.in_err-users.ensures.fault [
      | inl memory ↦ inl memory
      | inr is ↦
          inr (ap (λ none. option_or (option_map NoFreeId none) (user_fault (gid_of c.args.spec.now s) c.args.spec.now.users (user_ids c.args.spec.now s))) c.in_ok-groups.ensures.ok.fine ∙ is)
    ])
