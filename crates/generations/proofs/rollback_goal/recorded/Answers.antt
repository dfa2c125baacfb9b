use Rattle.std.proofs.Common.{sym, ◌∙◌}
use Rattle.host_trait.specs.World.{content_of}
use Rattle.host_trait.proofs.Readings.{no_device, nothing_read, read_ok, read_starved}
use Rattle.generations.proofs.PreviousLemmas.{recorded_of_world}
use Rattle.generations.proofs.rollback_goal.recorded.Goals as goal

pub returns-in_err-at-clause-reads : goal.returns-in_err-at-clause-reads
returns-in_err-at-clause-reads g c = nothing_read _ (no_device _ c.from_residual.ensures.1)

pub returns-in_err-number-clause-reads : goal.returns-in_err-number-clause-reads
returns-in_err-number-clause-reads g c = read_starved c.content.ensures.reads _ c.from_residual-in_err-number.ensures.1

pub returns-clause-reads : goal.returns-clause-reads
returns-clause-reads g c = read_ok c.content.ensures.reads _

pub returns-clause-recorded : goal.returns-clause-recorded
returns-clause-recorded g c = record {
  has = λ w is.
      c.with_target.ensures
      ∙ recorded_of_world w.leaves c.args.gens.now (c.requires.has w is) c.in_ok-bytes.bytes c.in_ok-number.number
      (sym (c.in_ok-bytes.ensures.content.has w is ∙ (λ i. content_of w.leaves (c.in_ok-at.ensures i)))) c.in_ok-number.ensures;
}
