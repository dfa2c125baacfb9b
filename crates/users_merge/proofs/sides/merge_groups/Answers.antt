use Rattle.std.proofs.Common.{◌≤◌, List, length, map, option_map, inl, inr, refl, sym, ap, subst, ◌∙◌}
use Rattle.std.proofs.lemmas.List.{take_all}
use Rattle.users_spec.specs.Spec.{group_names, user_names}
use Rattle.users_spec.specs.declared.group_spec.GroupSpec.{GroupSpec}
use Rattle.users_merge.specs.Account.{first_without, group_account}
use Rattle.users_merge.specs.Given.{given_ids}
use Rattle.users_merge.specs.GroupRows.{merged_groups}
use Rattle.users_merge.specs.Staying.{undeclared}
use Rattle.users_merge.specs.declared.giving.Given.{Given}
use Rattle.users_merge.specs.declared.merge_fault.MergeFault.TheVariants.{NoFreeId}
use Rattle.users_merge.proofs.CollectedLemmas.{handed}
use Rattle.users_merge.proofs.SideLemmas.{are_groups, group_ids_are, group_rows_bounded, groups_asked}
use Rattle.users_merge.proofs.sides.merge_groups.Goals as goal

pub returns-in_err-check_given-clause-fault : goal.returns-in_err-check_given-clause-fault
returns-in_err-check_given-clause-fault c =
    let accounts = c.as_slice-accounts.ensures ∙ c.groups.ensures.groups in
    let ids = group_ids_are c.args.spec.now c.args.tables.now c.args.remembered.now c.args.declared.now (given_ids c.in_ok-given.given.items) c.as_slice-accounts.result.now c.as_slice-table.result.now
    accounts c.as_slice-table.ensures c.requires c.in_ok-given.ensures.ids in
    let same = ap (λ (given : List (Given GroupSpec)). given_ids given) c.as_slice.ensures.value ∙ ids in
    handed _ _ _ c.from_residual-in_err-check_given.ensures.1
    (elim c.in_err-check_given.ensures.fault [
      | inl memory ↦ inl memory
      | inr is ↦ inr ((λ i. option_map NoFreeId (first_without (map group_account (sym accounts i)) (sym same i))) ∙ is)
    ])

pub returns-clause-ok : goal.returns-clause-ok
returns-clause-ok c =
    let spec = c.args.spec.now in
    let given = c.in_ok-given.given.items in
    let accounts = c.as_slice-accounts.ensures ∙ c.groups.ensures.groups in
    let ids = group_ids_are spec c.args.tables.now c.args.remembered.now c.args.declared.now (given_ids given) c.as_slice-accounts.result.now c.as_slice-table.result.now
    accounts c.as_slice-table.ensures c.requires c.in_ok-given.ensures.ids in
    let all : length c.as_slice-accounts.result.now ≤ length given =
    subst (λ (items : List (Given GroupSpec)). length c.as_slice-accounts.result.now ≤ length items) c.as_slice.ensures.value c.in_ok-check_given.ensures.all in
    are_groups spec c.args.tables.now c.args.remembered.now c.args.declared.now given c.in_ok-rows.rows.items
    (undeclared spec.mutable (group_names spec) c.args.declared.now.groups) (undeclared spec.mutable (user_names spec) c.args.declared.now.users) c.groups.ensures.sound c.requires
    ((λ i. first_without (map group_account (sym accounts i)) (given_ids (sym c.as_slice.ensures.value i))) ∙ c.in_ok-check_given.ensures.ok)
    (c.in_ok-given.ensures.accounts ∙ take_all (length given) c.as_slice-accounts.result.now all ∙ accounts)
    ids
    (c.in_ok-given.ensures.bounded (group_rows_bounded spec c.args.tables.now c.args.remembered.now c.args.declared.now c.as_slice-table.result.now c.as_slice-table.ensures c.requires)
    (groups_asked spec c.args.tables.now c.args.remembered.now c.args.declared.now c.as_slice-accounts.result.now accounts c.groups.ensures.sound))
    (c.in_ok-rows.ensures
    ∙ (λ i.
    merged_groups (undeclared spec.mutable (group_names spec) c.args.declared.now.groups) (undeclared spec.mutable (user_names spec) c.args.declared.now.users) (c.as_slice-2.ensures.value i) (c.as_slice-table.ensures i)))
    (λ name. refl) (λ name. refl)
