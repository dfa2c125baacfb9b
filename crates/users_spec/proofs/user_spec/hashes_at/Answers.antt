use Rattle.std.proofs.Common.{refl}
use Rattle.users_spec.specs.UserSpec.{hashes_at}
use Rattle.users_spec.proofs.Handed.{past, gives_past, gives_at}
use Rattle.users_spec.proofs.user_spec.hashes_at.Goals as goal

pub returns-in_err-hashed : goal.returns-in_err-hashed
unfolding hashes_at
returns-in_err-hashed c =
    gives_at _ _ _ _ c.from_residual.ensures.1 c.in_err-hashed.ensures

pub returns-in_err-initial : goal.returns-in_err-initial
unfolding hashes_at
returns-in_err-initial c =
    gives_past _ _ _ _ c.in_ok-hashed.ensures (gives_at _ _ _ _ c.from_residual-in_err-initial.ensures.1 c.in_err-initial.ensures)

pub returns-in_err-no_clear_password : goal.returns-in_err-no_clear_password
unfolding hashes_at
returns-in_err-no_clear_password c =
    gives_past _ _ _ _ c.in_ok-hashed.ensures (gives_past _ _ _ _ c.in_ok-initial.ensures (gives_at _ _ _ _ c.from_residual-in_err-no_clear_password.ensures.1 c.in_err-no_clear_password.ensures))

pub returns : goal.returns
unfolding hashes_at
returns c =
    past _ _ _ _ c.in_ok-hashed.ensures (past _ _ _ _ c.in_ok-initial.ensures (past _ _ _ _ c.in_ok-no_clear_password.ensures refl))
