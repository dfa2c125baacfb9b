use Rattle.std.proofs.Common.{inl, inr, option_map, sym, ap, ◌∙◌}
use Rattle.std.proofs.Math.Path.{fun_ext}
use Rattle.account_text.specs.declared.group.GroupRow.{GroupRow}
use Rattle.users_merge.specs.Given.{given_accounts, given_ids}
use Rattle.users_merge.specs.Merge.{user_fault}
use Rattle.users_merge.proofs.CollectedLemmas.{handed}
use Rattle.users_merge.proofs.users.merged_users.Goals as goal

pub returns-in_err-rows-clause-fault : goal.returns-in_err-rows-clause-fault
returns-in_err-rows-clause-fault c =
    handed _ _ _ c.from_residual-in_err-rows.ensures.1
    (elim c.in_err-rows.ensures.fault [
      | inl memory ↦ inl memory
      | inr is ↦
          inr (ap (λ gids. user_fault gids (given_accounts c.args.given.now) (given_ids c.args.given.now)) (fun_ext (λ name. ap (option_map (λ (row : GroupRow). row.gid)) (sym (c.in_ok-groups.ensures name)))) ∙ is)
    ])
