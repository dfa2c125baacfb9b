use Rattle.std.proofs.Common.{refl}
use Rattle.users_spec.specs.GroupSpec.{group_at}
use Rattle.users_spec.proofs.Handed.{past, gives_past, gives_at}
use Rattle.users_spec.proofs.group_spec.group_at.Goals as goal

pub returns-in_err-check-clause-read : goal.returns-in_err-check-clause-read
unfolding group_at
returns-in_err-check-clause-read c =
    gives_at _ _ _ _ c.from_residual.ensures.1 c.in_err-check.ensures

pub returns-in_err-name-clause-read : goal.returns-in_err-name-clause-read
unfolding group_at
returns-in_err-name-clause-read c =
    gives_past _ _ _ _ c.in_ok-check.ensures (gives_at _ _ _ _ c.from_residual-in_err-name.ensures.1 c.in_err-name.ensures)

pub returns-in_err-declare-clause-read : goal.returns-in_err-declare-clause-read
unfolding group_at
returns-in_err-declare-clause-read c =
    gives_past _ _ _ _ c.in_ok-check.ensures (gives_past _ _ _ _ c.in_ok-name.ensures (gives_at _ _ _ _ c.from_residual-in_err-declare.ensures.1 c.in_err-declare.ensures.once))

pub returns-in_err-gid-clause-read : goal.returns-in_err-gid-clause-read
unfolding group_at
returns-in_err-gid-clause-read c =
    gives_past _ _ _ _ c.in_ok-check.ensures (gives_past _ _ _ _ c.in_ok-name.ensures (gives_past _ _ _ _ c.in_ok-declare.ensures.once (gives_at _ _ _ _ c.from_residual-in_err-gid.ensures.1 c.in_err-gid.ensures)))

pub returns-in_err-members-clause-read : goal.returns-in_err-members-clause-read
unfolding group_at
returns-in_err-members-clause-read c =
    gives_past _ _ _ _ c.in_ok-check.ensures (gives_past _ _ _ _ c.in_ok-name.ensures (gives_past _ _ _ _ c.in_ok-declare.ensures.once (gives_past _ _ _ _ c.in_ok-gid.ensures (gives_at _ _ _ _ c.from_residual-in_err-members.ensures.1 c.in_err-members.ensures))))

pub returns-clause-read : goal.returns-clause-read
unfolding group_at
returns-clause-read c =
    past _ _ _ _ c.in_ok-check.ensures (past _ _ _ _ c.in_ok-name.ensures (past _ _ _ _ c.in_ok-declare.ensures.once (past _ _ _ _ c.in_ok-gid.ensures (past _ _ _ _ c.in_ok-members.ensures refl))))
