use Rattle.std.proofs.Common.{refl}
use Rattle.users_spec.specs.UserSpec.{texts_at}
use Rattle.users_spec.proofs.Handed.{past, gives_past, gives_at}
use Rattle.users_spec.proofs.user_spec.texts_at.Goals as goal

pub returns-in_err-description : goal.returns-in_err-description
unfolding texts_at
returns-in_err-description c =
    gives_at _ _ _ _ c.from_residual.ensures.1 c.in_err-description.ensures

pub returns-in_err-home : goal.returns-in_err-home
unfolding texts_at
returns-in_err-home c =
    gives_past _ _ _ _ c.in_ok-description.ensures (gives_at _ _ _ _ c.from_residual-in_err-home.ensures.1 c.in_err-home.ensures)

pub returns-in_err-shell : goal.returns-in_err-shell
unfolding texts_at
returns-in_err-shell c =
    gives_past _ _ _ _ c.in_ok-description.ensures (gives_past _ _ _ _ c.in_ok-home.ensures (gives_at _ _ _ _ c.from_residual-in_err-shell.ensures.1 c.in_err-shell.ensures))

pub returns : goal.returns
unfolding texts_at
returns c =
    past _ _ _ _ c.in_ok-description.ensures (past _ _ _ _ c.in_ok-home.ensures (past _ _ _ _ c.in_ok-shell.ensures refl))
