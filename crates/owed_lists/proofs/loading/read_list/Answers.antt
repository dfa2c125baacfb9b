use Rattle.std.proofs.Common.{ap, subst, ◌∙◌}
use Rattle.host_trait.specs.World.{content_of}
use Rattle.host_trait.proofs.Moments.{told_as}
use Rattle.host_trait.proofs.Readings.{no_device, nothing_read, read_ok, read_starved}
use Rattle.owed_lists.specs.Lists.{IsListOf, place_of}
use Rattle.owed_lists.proofs.loading.read_list.Goals as goal

pub returns-in_err-at-clause-reads : goal.returns-in_err-at-clause-reads
returns-in_err-at-clause-reads g c = nothing_read _ (no_device _ c.from_residual.ensures.1)

pub returns-in_err-list_of-clause-reads : goal.returns-in_err-list_of-clause-reads
returns-in_err-list_of-clause-reads g c = read_starved c.find_content.ensures.reads _ c.from_residual-in_err-list_of.ensures.1

pub returns-clause-reads : goal.returns-clause-reads
returns-clause-reads g c = read_ok c.find_content.ensures.reads c.in_ok-list_of.field-0

pub returns-clause-list : goal.returns-clause-list
returns-clause-list g c =
    told_as c.in_ok-bytes.ensures.content (λ w. IsListOf (content_of w.leaves (place_of c.args.which)) c.in_ok-list_of.field-0)
    (λ w is given. subst (λ o. IsListOf o c.in_ok-list_of.field-0) (given ∙ ap (λ p. content_of w.leaves p) c.in_ok-at.ensures) c.in_ok-list_of.ensures)
