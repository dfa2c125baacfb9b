use Rattle.std.proofs.Common.{refl}
use Rattle.users_spec.specs.Spec.{accounts_in}
use Rattle.users_spec.proofs.Sound.{sound_of_lists}
use Rattle.users_spec.proofs.Handed.{past, gives_past, gives_at}
use Rattle.users_spec.proofs.spec.Spec.of_value.Goals as goal

pub returns-in_err-check : goal.returns-in_err-check
unfolding accounts_in
returns-in_err-check c =
    gives_at _ _ _ _ c.from_residual.ensures.1 c.in_err-check.ensures

pub returns-in_err-mutable : goal.returns-in_err-mutable
unfolding accounts_in
returns-in_err-mutable c =
    gives_past _ _ _ _ c.in_ok-check.ensures (gives_at _ _ _ _ c.from_residual-in_err-mutable.ensures.1 c.in_err-mutable.ensures)

pub returns-in_err-group_values : goal.returns-in_err-group_values
unfolding accounts_in
returns-in_err-group_values c =
    gives_past _ _ _ _ c.in_ok-check.ensures (gives_past _ _ _ _ c.in_ok-mutable.ensures (gives_at _ _ _ _ c.from_residual-in_err-group_values.ensures.1 c.in_err-group_values.ensures))

pub returns-in_err-user_values : goal.returns-in_err-user_values
unfolding accounts_in
returns-in_err-user_values c =
    gives_past _ _ _ _ c.in_ok-check.ensures (gives_past _ _ _ _ c.in_ok-mutable.ensures (gives_past _ _ _ _ c.in_ok-group_values.ensures (gives_at _ _ _ _ c.from_residual-in_err-user_values.ensures.1 c.in_err-user_values.ensures)))

pub returns-in_err-groups : goal.returns-in_err-groups
unfolding accounts_in
returns-in_err-groups c =
    gives_past _ _ _ _ c.in_ok-check.ensures (gives_past _ _ _ _ c.in_ok-mutable.ensures (gives_past _ _ _ _ c.in_ok-group_values.ensures (gives_past _ _ _ _ c.in_ok-user_values.ensures (gives_at _ _ _ _ c.from_residual-in_err-groups.ensures.1 c.in_err-groups.ensures))))

pub returns-in_err-users : goal.returns-in_err-users
unfolding accounts_in
returns-in_err-users c =
    gives_past _ _ _ _ c.in_ok-check.ensures (gives_past _ _ _ _ c.in_ok-mutable.ensures (gives_past _ _ _ _ c.in_ok-group_values.ensures (gives_past _ _ _ _ c.in_ok-user_values.ensures (gives_past _ _ _ _ c.in_ok-groups.ensures (gives_at _ _ _ _ c.from_residual-in_err-users.ensures.1 c.in_err-users.ensures)))))

pub returns : goal.returns
unfolding accounts_in
returns c =
    past _ _ _ _ c.in_ok-check.ensures (past _ _ _ _ c.in_ok-mutable.ensures (past _ _ _ _ c.in_ok-group_values.ensures (past _ _ _ _ c.in_ok-user_values.ensures (past _ _ _ _ c.in_ok-groups.ensures (past _ _ _ _ c.in_ok-users.ensures refl)))))

pub invariant_of-result : goal.invariant_of-result
invariant_of-result c = sound_of_lists _ _ _ _ _ c.in_ok-groups.ensures c.in_ok-users.ensures
