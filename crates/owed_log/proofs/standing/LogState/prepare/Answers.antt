use Rattle.std.proofs.Common.{is_some, ap, subst}
use Rattle.std.proofs.lemmas.Bool.{both_ways}
use Rattle.owed_log.specs.Standing.{IsLogState}
use Rattle.owed_log.proofs.standing.LogState.prepare.Goals as goal

pub returns-in-Other-clause-prepared : goal.returns-in-Other-clause-prepared
returns-in-Other-clause-prepared c leaves state =
    let other = subst (IsLogState leaves) c.in-Other.is state in
    (c.in_ok-text.ensures.text, λ nothing. both_ways _ (ap is_some nothing.1) other.0, λ can. other.1 can.count can.whole)
