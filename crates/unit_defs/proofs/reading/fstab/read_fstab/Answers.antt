use Rattle.std.proofs.Common.{subst, ◌∙◌}
use Rattle.host_trait.proofs.Readings.{read_ok, read_starved}
use Rattle.unit_defs.specs.Found.{JoinsLines}
use Rattle.unit_defs.proofs.reading.fstab.read_fstab.Goals as goal

pub returns-clause-found : goal.returns-clause-found
returns-clause-found g c = record {
  has = λ w is. subst (λ lines. JoinsLines lines c.args.found.now c.add_lines.new.found) (c.as_slice.ensures ∙ c.in_ok-lines.ensures.lines.has w is) c.in_ok-add_lines.ensures;
}

pub returns-in_err-add_lines-clause-reads : goal.returns-in_err-add_lines-clause-reads
returns-in_err-add_lines-clause-reads g c = read_starved c.lines_of.ensures.reads _ c.from_residual-in_err-add_lines.ensures.1

pub returns-clause-reads : goal.returns-clause-reads
returns-clause-reads g c = read_ok c.lines_of.ensures.reads _
