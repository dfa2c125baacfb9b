use Rattle.std.proofs.Common.{◌≡◌, List, map, ap, ◌∙◌}
use Rattle.std.proofs.Math.Path.{fun_ext}
use Rattle.std.proofs.lemmas.Result.{IfOk-weaker}
use Rattle.switch_names.specs.Names.{Name, has}
use Rattle.users_spec.specs.Spec.{user_names}
use Rattle.users_spec.specs.declared.user_spec.UserSpec.{UserSpec}
use Rattle.users_merge.specs.Staying.{stays_by, undeclared}
use Rattle.users_merge.specs.UserRows.{gid_named, merged_users}
use Rattle.users_merge.proofs.CollectedLemmas.{stays_are}
use Rattle.users_merge.proofs.sides.user_rows.Goals as goal

pub returns-clause-ok : goal.returns-clause-ok
returns-clause-ok c =
    let spec = c.args.spec.now in
    let users : stays_by c.staying.result ≡ undeclared spec.mutable (user_names spec) c.args.declared.now.users =
    fun_ext (λ name. c.staying.ensures name
    ∙ stays_are _ _ _ _ _ _ name c.mutable.ensures (c.in_ok-names.ensures.declared name ∙ ap (λ (users : List UserSpec). has (map (λ user. user.name) users) name) (c.as_slice.ensures ∙ c.users.ensures.users))
    (c.in_ok-names.ensures.earlier name ∙ ap (λ (names : List Name). has names name) c.as_slice-2.ensures)) in
    IfOk-weaker c.merged_users.result _ _ (λ rows is. is ∙ ap (λ stays. merged_users stays (gid_named c.args.group.now) c.args.given.now c.args.table.now) users) c.merged_users.ensures.ok
