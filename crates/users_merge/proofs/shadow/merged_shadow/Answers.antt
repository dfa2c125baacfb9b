use Rattle.std.proofs.Common.{◌≡◌, ap, ◌∙◌}
use Rattle.std.proofs.Math.Path.{fun_ext}
use Rattle.std.proofs.lemmas.Result.{IfOk-weaker}
use Rattle.std.specs.List.{filter_map}
use Rattle.account_text.specs.Order.{row_named}
use Rattle.account_text.specs.Shadow.{shadow_name}
use Rattle.users_spec.specs.declared.user_spec.UserSpec.{UserSpec}
use Rattle.users_merge.specs.ByName.{found_in}
use Rattle.users_merge.specs.ShadowRows.{shadow_beside}
use Rattle.users_merge.proofs.shadow.merged_shadow.Goals as goal

pub returns : goal.returns
returns c =
    let users : found_in c.in_ok-users.users.rows ≡ row_named (λ (user : UserSpec). user.name) c.args.spec.now.users =
    fun_ext (λ name. c.in_ok-users.ensures name ∙ ap (λ all. row_named (λ (user : UserSpec). user.name) all name) (c.as_slice.ensures ∙ c.users.ensures.users)) in
    let old : found_in c.in_ok-old.old.rows ≡ row_named shadow_name c.args.table.now = fun_ext c.in_ok-old.ensures in
    IfOk-weaker c.shadow_rows.result _ _ (λ rows is. is ∙ (λ i. filter_map (shadow_beside (c.mutable.ensures i) (users i) (old i)) c.args.passwd.now)) c.shadow_rows.ensures
