use Rattle.switch_names.proofs.Below.{none_below, no_slash, cut_at_last}
use Rattle.switch_names.proofs.path.front_of.Goals as goal

pub returns-in_err-front-clause-none : goal.returns-in_err-front-clause-none
returns-in_err-front-clause-none c none q = none_below c.args.text.now (no_slash c.args.text.now c.in_err-front.ensures.cases) q

pub returns-clause-some : goal.returns-clause-some
returns-clause-some c =
    let found = c.in_ok-front.ensures.cases in
    cut_at_last c.args.text.now c.in_ok-front.front.now found.0 found.1 found.2 found.3
