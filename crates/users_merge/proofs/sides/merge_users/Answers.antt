use Rattle.std.proofs.Common.{◌≡◌, ◌≤◌, List, None, length, map, option_map, inl, inr, refl, sym, ap, subst, ◌∙◌}
use Rattle.std.proofs.lemmas.List.{take_all}
use Rattle.users_spec.specs.Spec.{user_names}
use Rattle.users_spec.specs.declared.user_spec.UserSpec.{UserSpec}
use Rattle.users_merge.specs.Account.{first_without, user_account}
use Rattle.users_merge.specs.Given.{given_accounts, given_ids}
use Rattle.users_merge.specs.Merge.{user_fault}
use Rattle.users_merge.specs.Staying.{undeclared}
use Rattle.users_merge.specs.UserRows.{gid_named, merged_users}
use Rattle.users_merge.specs.declared.giving.Given.{Given}
use Rattle.users_merge.specs.declared.merge_fault.MergeFault.TheVariants.{NoFreeId}
use Rattle.users_merge.proofs.CollectedLemmas.{handed}
use Rattle.users_merge.proofs.SideLemmas.{are_users, early_user, late_user, user_ids_are, user_rows_bounded, users_asked}
use Rattle.users_merge.proofs.sides.merge_users.Goals as goal

pub returns-in_err-rows-clause-fault : goal.returns-in_err-rows-clause-fault
returns-in_err-rows-clause-fault c =
    let accounts = c.as_slice-accounts.ensures ∙ c.users.ensures.users in
    let given = c.in_ok-given.given.items in
    let ids = user_ids_are c.args.spec.now c.args.tables.now c.args.remembered.now c.args.declared.now (given_ids given) c.as_slice-accounts.result.now c.as_slice-table.result.now
    accounts c.as_slice-table.ensures c.requires.passwd c.in_ok-given.ensures.ids in
    handed _ _ _ c.from_residual-in_err-rows.ensures.1
    (elim c.in_err-rows.ensures.fault [
      | inl memory ↦ inl memory
      | inr is ↦
          inr (early_user c.args.spec.now c.args.tables.now c.args.remembered.now c.args.declared.now c.args.groups.now.given.items c.args.groups.now.rows.items c.requires.group given c.as_slice-accounts.result.now
          accounts ids c.in_ok-given.ensures.accounts _
          ((λ i. user_fault (gid_named (sym c.as_slice-group.ensures.value i)) (given_accounts (sym c.as_slice.ensures.value i)) (given_ids (sym c.as_slice.ensures.value i))) ∙ is))
    ])

pub returns-in_err-check_given-clause-fault : goal.returns-in_err-check_given-clause-fault
returns-in_err-check_given-clause-fault c =
    let accounts = c.as_slice-accounts.ensures ∙ c.users.ensures.users in
    let given = c.in_ok-given.given.items in
    let ids = user_ids_are c.args.spec.now c.args.tables.now c.args.remembered.now c.args.declared.now (given_ids given) c.as_slice-accounts.result.now c.as_slice-table.result.now
    accounts c.as_slice-table.ensures c.requires.passwd c.in_ok-given.ensures.ids in
    handed _ _ _ c.from_residual-in_err-check_given.ensures.1
    (elim c.in_err-check_given.ensures.fault [
      | inl memory ↦ inl memory
      | inr is ↦
          inr (late_user c.args.spec.now c.args.tables.now c.args.remembered.now c.args.declared.now c.args.groups.now.given.items c.args.groups.now.rows.items c.requires.group given c.as_slice-accounts.result.now
          accounts ids c.in_ok-given.ensures.accounts
          ((λ i. user_fault (gid_named (sym c.as_slice-group.ensures.value i)) (given_accounts (sym c.as_slice.ensures.value i)) (given_ids (sym c.as_slice.ensures.value i))) ∙ c.in_ok-rows.ensures.fine)
          ∙ ap (λ (items : List (Given UserSpec)). option_map NoFreeId (first_without (map user_account c.as_slice-accounts.result.now) (given_ids items))) (sym c.as_slice-2.ensures.value) ∙ is)
    ])

pub returns-clause-ok : goal.returns-clause-ok
returns-clause-ok c =
    let spec = c.args.spec.now in
    let accounts = c.as_slice-accounts.ensures ∙ c.users.ensures.users in
    let given = c.in_ok-given.given.items in
    let ids = user_ids_are spec c.args.tables.now c.args.remembered.now c.args.declared.now (given_ids given) c.as_slice-accounts.result.now c.as_slice-table.result.now
    accounts c.as_slice-table.ensures c.requires.passwd c.in_ok-given.ensures.ids in
    let all : length c.as_slice-accounts.result.now ≤ length given =
    subst (λ (items : List (Given UserSpec)). length c.as_slice-accounts.result.now ≤ length items) c.as_slice-2.ensures.value c.in_ok-check_given.ensures.all in
    let known : user_fault (gid_named c.args.groups.now.rows.items) (given_accounts given) (given_ids given) ≡ None =
    (λ i. user_fault (gid_named (sym c.as_slice-group.ensures.value i)) (given_accounts (sym c.as_slice.ensures.value i)) (given_ids (sym c.as_slice.ensures.value i))) ∙ c.in_ok-rows.ensures.fine in
    are_users spec c.args.tables.now c.args.remembered.now c.args.declared.now c.args.groups.now.given.items c.args.groups.now.rows.items c.requires.group given c.in_ok-rows.rows.items (undeclared spec.mutable (user_names spec) c.args.declared.now.users)
    c.users.ensures.sound c.requires.passwd
    (late_user spec c.args.tables.now c.args.remembered.now c.args.declared.now c.args.groups.now.given.items c.args.groups.now.rows.items c.requires.group given c.as_slice-accounts.result.now
    accounts ids c.in_ok-given.ensures.accounts known
    ∙ ap (λ (items : List (Given UserSpec)). option_map NoFreeId (first_without (map user_account c.as_slice-accounts.result.now) (given_ids items))) (sym c.as_slice-2.ensures.value)
    ∙ ap (option_map NoFreeId) c.in_ok-check_given.ensures.ok)
    known
    (c.in_ok-given.ensures.accounts ∙ take_all (length given) c.as_slice-accounts.result.now all ∙ accounts)
    ids
    (c.in_ok-given.ensures.bounded (user_rows_bounded spec c.args.tables.now c.args.remembered.now c.args.declared.now c.as_slice-table.result.now c.as_slice-table.ensures c.requires.passwd)
    (users_asked spec c.args.tables.now c.args.remembered.now c.args.declared.now c.as_slice-accounts.result.now accounts c.users.ensures.sound))
    (c.in_ok-rows.ensures.ok ∙ (λ i. merged_users (undeclared spec.mutable (user_names spec) c.args.declared.now.users) (gid_named (c.as_slice-group.ensures.value i)) (c.as_slice.ensures.value i) (c.as_slice-table.ensures i)))
    (λ name. refl)
