use Rattle.std.proofs.Common.{◌≡◌, List, map, ap, ◌∙◌}
use Rattle.std.proofs.Math.Path.{fun_ext}
use Rattle.std.proofs.lemmas.Result.{IfOk-weaker}
use Rattle.switch_names.specs.Names.{Name, has}
use Rattle.users_spec.specs.Spec.{group_names, user_names}
use Rattle.users_spec.specs.declared.group_spec.GroupSpec.{GroupSpec}
use Rattle.users_spec.specs.declared.user_spec.UserSpec.{UserSpec}
use Rattle.users_merge.specs.GroupRows.{merged_groups}
use Rattle.users_merge.specs.Staying.{stays_by, undeclared}
use Rattle.users_merge.proofs.CollectedLemmas.{stays_are}
use Rattle.users_merge.proofs.sides.group_rows.Goals as goal

pub returns : goal.returns
returns c =
    let spec = c.args.spec.now in
    let groups : stays_by c.staying-groups.result ≡ undeclared spec.mutable (group_names spec) c.args.declared.now.groups =
    fun_ext (λ name. c.staying-groups.ensures name
    ∙ stays_are _ _ _ _ _ _ name c.mutable.ensures (c.in_ok-group_names.ensures.declared name ∙ ap (λ (groups : List GroupSpec). has (map (λ group. group.name) groups) name) (c.as_slice.ensures ∙ c.groups.ensures.groups))
    (c.in_ok-group_names.ensures.earlier name ∙ ap (λ (names : List Name). has names name) c.as_slice-2.ensures)) in
    let users : stays_by c.staying-users.result ≡ undeclared spec.mutable (user_names spec) c.args.declared.now.users =
    fun_ext (λ name. c.staying-users.ensures name
    ∙ stays_are _ _ _ _ _ _ name c.mutable-2.ensures (c.in_ok-user_names.ensures.declared name ∙ ap (λ (users : List UserSpec). has (map (λ user. user.name) users) name) (c.as_slice-3.ensures ∙ c.users.ensures.users))
    (c.in_ok-user_names.ensures.earlier name ∙ ap (λ (names : List Name). has names name) c.as_slice-4.ensures)) in
    IfOk-weaker c.merged_groups.result _ _ (λ rows is. is ∙ (λ i. merged_groups (groups i) (users i) c.args.given.now c.args.table.now)) c.merged_groups.ensures
