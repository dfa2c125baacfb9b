use Rattle.std.proofs.Common.{◌≡◌, ◌++◌, true, false, List, map, sym, ap, subst, ◌∙◌}
use Rattle.std.specs.FinMap.{get}
use Rattle.std.specs.List.{AllByRecursion}
use Rattle.std.specs.Option.{option_or}
use Rattle.account_text.specs.declared.group.GroupRow.{GroupRow}
use Rattle.account_text.specs.declared.passwd.PasswdRow.{PasswdRow}
use Rattle.account_text.specs.declared.shadow.ShadowRow.{ShadowRow}
use Rattle.account_text.specs.Order.{IsInOrder, group_key, passwd_key}
use Rattle.users_spec.specs.declared.group_spec.GroupSpec.{GroupSpec}
use Rattle.users_spec.specs.declared.user_spec.UserSpec.{UserSpec}
use Rattle.users_merge.specs.Account.{group_account, id_of, user_account}
use Rattle.users_merge.specs.Given.{IsId, given_accounts, given_ids}
use Rattle.users_merge.specs.Merge.{kept_of}
use Rattle.users_merge.specs.ShadowRows.{merged_shadow}
use Rattle.users_merge.specs.Sides.{AreGroups, AreUsers}
use Rattle.users_merge.specs.Stored.{stored_of}
use Rattle.users_merge.specs.declared.giving.Given.{Given}
use Rattle.users_merge.specs.declared.merged.Merged.{Merged}
use Rattle.users_merge.proofs.SideLemmas.{are_in_order, is_merge, is_sound}
use Rattle.users_merge.proofs.merging.merged.Goals as goal
use Rattle.users_merge.proofs.merging.merged.Goals.{In_ok-declared_now}

pub ids_now-requires-clause-groups : goal.ids_now-requires-clause-groups
ids_now-requires-clause-groups c = subst (λ (given : List (Given GroupSpec)). AllByRecursion IsId (given_ids given)) (sym c.as_slice.ensures.value) c.requires.groups.bounded

pub ids_now-requires-clause-users : goal.ids_now-requires-clause-users
ids_now-requires-clause-users c = subst (λ (given : List (Given UserSpec)). AllByRecursion IsId (given_ids given)) (sym c.as_slice-2.ensures.value) c.requires.users.bounded

abbrev answer : In_ok-declared_now → Merged
answer c = record {
  tables = c.in_ok-tables.tables;
  remembered = c.in_ok-remembered.remembered;
  union = c.in_ok-declared_ever.field-0;
  declared = c.in_ok-declared_now.field-0;
  kept = c.in_ok-kept.kept;
}

groups : (c : In_ok-declared_now) → AreGroups c.args.spec.now (stored_of c.args.tables.now c.args.remembered.now c.args.declared.now) c.args.groups.given.items c.into_rows-group.result.items
groups c =
    subst (λ (rows : List GroupRow). AreGroups c.args.spec.now (stored_of c.args.tables.now c.args.remembered.now c.args.declared.now) c.args.groups.given.items rows)
    (sym c.into_rows-group.ensures) c.requires.groups

users : (c : In_ok-declared_now) → AreUsers c.args.spec.now (stored_of c.args.tables.now c.args.remembered.now c.args.declared.now) c.args.users.given.items c.into_rows-passwd.result.items
users c =
    subst (λ (rows : List PasswdRow). AreUsers c.args.spec.now (stored_of c.args.tables.now c.args.remembered.now c.args.declared.now) c.args.users.given.items rows)
    (sym c.into_rows-passwd.ensures) c.requires.users

group_order : (c : In_ok-declared_now) → IsInOrder group_key c.into_rows-group.result.items c.in_ok-tables.tables.group
group_order c = c.in_ok-tables.ensures.group (groups c).sound.names

passwd_order : (c : In_ok-declared_now) → IsInOrder passwd_key c.into_rows-passwd.result.items c.in_ok-tables.tables.passwd
passwd_order c = c.in_ok-tables.ensures.passwd (users c).sound.names

shadow : (c : In_ok-declared_now) → c.in_ok-tables.tables.shadow ≡ merged_shadow c.args.spec.now.mutable c.args.spec.now.users c.args.tables.now.shadow c.in_ok-tables.tables.passwd
shadow c =
    c.in_ok-tables.ensures.shadow ∙ ap (λ (table : List ShadowRow). merged_shadow c.args.spec.now.mutable c.args.spec.now.users table c.in_ok-tables.tables.passwd) c.as_slice-5.ensures

pub returns-clause-merged : goal.returns-clause-merged
returns-clause-merged c =
    is_merge c.args.spec.now c.args.tables.now c.args.remembered.now c.args.declared.now c.args.groups.given.items c.args.users.given.items c.into_rows-group.result.items c.into_rows-passwd.result.items
    (groups c) (users c) (answer c) (group_order c) (passwd_order c) (shadow c)
    (λ name.
    c.in_ok-remembered.ensures.gids name
    ∙ ap (λ (given : List (Given GroupSpec)). option_or (id_of (map group_account (given_accounts given)) (given_ids given) name) (get c.args.remembered.now.gids name)) c.as_slice.ensures.value)
    (λ name.
    c.in_ok-remembered.ensures.uids name
    ∙ ap (λ (given : List (Given UserSpec)). option_or (id_of (map user_account (given_accounts given)) (given_ids given) name) (get c.args.remembered.now.uids name)) c.as_slice-2.ensures.value)
    c.in_ok-declared_now.ensures.users c.in_ok-declared_now.ensures.groups c.in_ok-declared_ever.ensures.users c.in_ok-declared_ever.ensures.groups

pub returns-clause-order : goal.returns-clause-order
returns-clause-order c =
    are_in_order c.args.spec.now c.args.tables.now c.args.remembered.now c.args.declared.now c.args.groups.given.items c.args.users.given.items c.into_rows-group.result.items c.into_rows-passwd.result.items
    (groups c) (users c) (answer c) (group_order c) (passwd_order c) (shadow c)

pub returns-clause-sound : goal.returns-clause-sound
returns-clause-sound c =
    is_sound c.args.spec.now c.args.tables.now c.args.remembered.now c.args.declared.now c.args.groups.given.items c.args.users.given.items c.into_rows-group.result.items c.into_rows-passwd.result.items
    (groups c) (users c) (answer c) (group_order c) (passwd_order c) (shadow c) c.requires.sound c.requires.shadow

pub returns-clause-kept : goal.returns-clause-kept
returns-clause-kept c =
    let g = c.requires.groups in
    let u = c.requires.users in
    c.in_ok-kept.ensures
    ∙ (λ i.
    kept_of false (map group_account (given_accounts (c.as_slice-3.ensures.value i))) (given_ids (c.as_slice-3.ensures.value i))
    ++ kept_of true (map user_account (given_accounts (c.as_slice-4.ensures.value i))) (given_ids (c.as_slice-4.ensures.value i)))
    ∙ (λ i. kept_of false (map group_account (g.accounts i)) (g.ids i) ++ kept_of true (map user_account (u.accounts i)) (u.ids i))
