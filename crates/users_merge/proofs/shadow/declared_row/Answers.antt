use Rattle.users_merge.proofs.shadow.declared_row.Goals as goal

pub returns : goal.returns
returns c = λ i. record { name = c.in_ok-copy.ensures i; password = c.in_ok-password.ensures i; rest = c.in_ok-rest.ensures i }
