use Rattle.std.proofs.Common.{ap, subst, ◌∙◌}
use Rattle.std.specs.FinMap.{get}
use Rattle.host_trait.proofs.Moments.{told_as}
use Rattle.host_trait.proofs.Readings.{no_device, nothing_read, read_ok, read_starved}
use Rattle.generations.specs.LinkNumber.{Bears}
use Rattle.generations.specs.Places.{profile}
use Rattle.generations.specs.Targets.{link_to}
use Rattle.generations.proofs.listing.read_profile.Goals as goal

pub returns-clause-number : goal.returns-clause-number
returns-clause-number g c =
    told_as c.in_ok-leaf.ensures.leaf (λ w. Bears link_to (get w.leaves profile) c.in_ok-number.number)
    (λ w is leaf. subst (λ o. Bears link_to o c.in_ok-number.number) (leaf ∙ ap (get w.leaves) c.in_ok-path.ensures) c.in_ok-number.ensures)

pub returns-in_err-path-clause-reads : goal.returns-in_err-path-clause-reads
returns-in_err-path-clause-reads g c = nothing_read _ (no_device _ c.from_residual.ensures.1)

pub returns-in_err-number-clause-reads : goal.returns-in_err-number-clause-reads
returns-in_err-number-clause-reads g c = read_starved c.read.ensures.reads _ c.from_residual-in_err-number.ensures.1

pub returns-clause-reads : goal.returns-clause-reads
returns-clause-reads g c = read_ok c.read.ensures.reads _
