use Rattle.std.proofs.Common.{refl}
use Rattle.users_spec.specs.UserSpec.{user_named}
use Rattle.users_spec.proofs.Handed.{past, gives_past, gives_at}
use Rattle.users_spec.proofs.user_spec.user_named.Goals as goal

pub returns-in_err-group-clause-read : goal.returns-in_err-group-clause-read
unfolding user_named
returns-in_err-group-clause-read c =
    gives_at _ _ _ _ c.from_residual.ensures.1 c.in_err-group.ensures

pub returns-in_err-uid-clause-read : goal.returns-in_err-uid-clause-read
unfolding user_named
returns-in_err-uid-clause-read c =
    gives_past _ _ _ _ c.in_ok-group.ensures (gives_at _ _ _ _ c.from_residual-in_err-uid.ensures.1 c.in_err-uid.ensures)

pub returns-in_err-system-clause-read : goal.returns-in_err-system-clause-read
unfolding user_named
returns-in_err-system-clause-read c =
    gives_past _ _ _ _ c.in_ok-group.ensures (gives_past _ _ _ _ c.in_ok-uid.ensures (gives_at _ _ _ _ c.from_residual-in_err-system.ensures.1 c.in_err-system.ensures))

pub returns-in_err-description-clause-read : goal.returns-in_err-description-clause-read
unfolding user_named
returns-in_err-description-clause-read c =
    gives_past _ _ _ _ c.in_ok-group.ensures (gives_past _ _ _ _ c.in_ok-uid.ensures (gives_past _ _ _ _ c.in_ok-system.ensures (gives_at _ _ _ _ c.from_residual-in_err-description.ensures.1 c.in_err-description.ensures)))

pub returns-in_err-hashed-clause-read : goal.returns-in_err-hashed-clause-read
unfolding user_named
returns-in_err-hashed-clause-read c =
    gives_past _ _ _ _ c.in_ok-group.ensures (gives_past _ _ _ _ c.in_ok-uid.ensures (gives_past _ _ _ _ c.in_ok-system.ensures (gives_past _ _ _ _ c.in_ok-description.ensures (gives_at _ _ _ _ c.from_residual-in_err-hashed.ensures.1 c.in_err-hashed.ensures))))

pub returns-clause-read : goal.returns-clause-read
unfolding user_named
returns-clause-read c =
    past _ _ _ _ c.in_ok-group.ensures (past _ _ _ _ c.in_ok-uid.ensures (past _ _ _ _ c.in_ok-system.ensures (past _ _ _ _ c.in_ok-description.ensures (past _ _ _ _ c.in_ok-hashed.ensures refl))))
