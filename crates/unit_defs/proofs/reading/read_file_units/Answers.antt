use Rattle.host_trait.proofs.Readings.{read_ok, read_starved}
use Rattle.unit_defs.proofs.UnitLemmas.{file_texts, sorted_units}
use Rattle.unit_defs.proofs.reading.read_file_units.Goals as goal

pub returns-clause-sorted : goal.returns-clause-sorted
returns-clause-sorted g c = sorted_units c.in_ok-found.found c.in_ok-units.units _ c.in_ok-units.ensures.units c.units_of.ensures.ordered

pub returns-clause-texts : goal.returns-clause-texts
returns-clause-texts g c = record {
  has = λ w is. file_texts w.leaves c.args.system.now c.in_ok-found.found c.in_ok-units.units c.in_ok-units.ensures.units (c.in_ok-found.ensures.found.has w is);
}

pub returns-in_err-units-clause-reads : goal.returns-in_err-units-clause-reads
returns-in_err-units-clause-reads g c = read_starved c.read_folder.ensures.reads _ c.from_residual-in_err-units.ensures.1

pub returns-clause-reads : goal.returns-clause-reads
returns-clause-reads g c = read_ok c.read_folder.ensures.reads _
