-- That jobs are on distinct units is one fact.
use Rattle.std.specs.Prelude.{List, [], ◌∷◌}
use Rattle.std.proofs.Props.{props}
use Rattle.job_host.specs.Settled.{AreDistinct, Job}

pub distinct_once : (jobs : List Job) → IsProp (AreDistinct jobs)
distinct_once [] = hlevel props
distinct_once (job ∷ jobs) = let rest = distinct_once jobs in hlevel (props, rest)
