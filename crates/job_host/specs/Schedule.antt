-- Which job ends as a call begins.
use Rattle.std.specs.Prelude.{ℕ, ◌==◌, ◌%◌, ◌+◌, ◌-◌, List, length, Option, None, Some, if◌then◌else◌}
use Rattle.job_host.specs.Settled.{Job}

-- the place in the queue of the job that a number ends: 0 ends none, and the others go round
abbrev pub ending : ℕ → List Job → Option ℕ
ending number queue = if number % (length queue + 1) == 0 then None else Some (number % (length queue + 1) - 1)
