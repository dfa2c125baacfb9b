use Rattle.users_spec.specs.UserSpec.{user_at}
use Rattle.users_spec.proofs.Handed.{gives_past, gives_at}
use Rattle.users_spec.proofs.user_spec.user_at.Goals as goal

pub returns-in_err-check-clause-read : goal.returns-in_err-check-clause-read
unfolding user_at
returns-in_err-check-clause-read c =
    gives_at _ _ _ _ c.from_residual.ensures.1 c.in_err-check.ensures

pub returns-in_err-name-clause-read : goal.returns-in_err-name-clause-read
unfolding user_at
returns-in_err-name-clause-read c =
    gives_past _ _ _ _ c.in_ok-check.ensures (gives_at _ _ _ _ c.from_residual-in_err-name.ensures.1 c.in_err-name.ensures)

pub returns-in_err-declare-clause-read : goal.returns-in_err-declare-clause-read
unfolding user_at
returns-in_err-declare-clause-read c =
    gives_past _ _ _ _ c.in_ok-check.ensures (gives_past _ _ _ _ c.in_ok-name.ensures (gives_at _ _ _ _ c.from_residual-in_err-declare.ensures.1 c.in_err-declare.ensures.once))

pub returns-clause-read : goal.returns-clause-read
unfolding user_at
returns-clause-read c =
    gives_past _ _ _ _ c.in_ok-check.ensures (gives_past _ _ _ _ c.in_ok-name.ensures (gives_past _ _ _ _ c.in_ok-declare.ensures.once c.user_named.ensures.read))
