use Rattle.users_spec.specs.UserSpec.{no_clear_password}
use Rattle.users_spec.proofs.Handed.{gives_past, gives_at}
use Rattle.users_spec.proofs.user_spec.no_clear_password.Goals as goal

pub returns-in_err-left_out : goal.returns-in_err-left_out
unfolding no_clear_password
returns-in_err-left_out c =
    gives_at _ _ _ _ c.from_residual.ensures.1 c.in_err-left_out.ensures

pub returns-in_err-left_out-2 : goal.returns-in_err-left_out-2
unfolding no_clear_password
returns-in_err-left_out-2 c =
    gives_past _ _ _ _ c.in_ok-left_out.ensures (gives_at _ _ _ _ c.from_residual-in_err-left_out-2.ensures.1 c.in_err-left_out-2.ensures)

pub returns : goal.returns
unfolding no_clear_password
returns c =
    gives_past _ _ _ _ c.in_ok-left_out.ensures (gives_past _ _ _ _ c.in_ok-left_out-2.ensures c.left_out-3.ensures)
