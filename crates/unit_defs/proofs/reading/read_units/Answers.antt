use Rattle.host_trait.proofs.Readings.{read_handed, read_ok, read_starved, read_then, told_read}
use Rattle.unit_defs.specs.Fstab.{fstab_of}
use Rattle.unit_defs.proofs.FstabLemmas.{all_joined}
use Rattle.unit_defs.proofs.TakenLemmas.{units_noted}
use Rattle.unit_defs.proofs.UnitLemmas.{sorted_units, units_all}
use Rattle.unit_defs.proofs.reading.read_units.Goals as goal

pub returns-clause-sorted : goal.returns-clause-sorted
returns-clause-sorted g c = sorted_units c.read_fstab.new.found c.in_ok-units.units _ c.in_ok-units.ensures.units c.units_of.ensures.ordered

pub returns-clause-units : goal.returns-clause-units
returns-clause-units g c =
    let lines = told_read c.read_folder.ensures.reads c.in_ok-read_fstab.ensures.found in
    record {
      has = λ w is.
          units_all w.leaves c.args.system.now c.read_fstab.new.found c.in_ok-units.units c.in_ok-units.ensures.units
          (all_joined w.leaves c.args.system.now (fstab_of w.leaves c.args.system.now) c.in_ok-found.found c.read_fstab.new.found (c.in_ok-found.ensures.found.has w is) (lines.has w is));
    }

pub returns-clause-short : goal.returns-clause-short
returns-clause-short g c =
    let fstab = told_read c.read_folder.ensures.reads c.in_ok-read_fstab.ensures.short in
    record {
      has = λ w is. units_noted w.leaves c.args.system.now c.args.long.now c.read_folder.new.long c.read_fstab.new.long (c.in_ok-found.ensures.short.has w is) (fstab.has w is);
    }

pub returns-in_err-read_fstab-clause-reads : goal.returns-in_err-read_fstab-clause-reads
returns-in_err-read_fstab-clause-reads g c = read_handed (read_then c.read_folder.ensures.reads c.in_err-read_fstab.ensures.reads) _ c.from_residual-in_err-read_fstab.ensures.1

pub returns-in_err-units-clause-reads : goal.returns-in_err-units-clause-reads
returns-in_err-units-clause-reads g c = read_starved (read_then c.read_folder.ensures.reads c.read_fstab.ensures.reads) _ c.from_residual-in_err-units.ensures.1

pub returns-clause-reads : goal.returns-clause-reads
returns-clause-reads g c = read_ok (read_then c.read_folder.ensures.reads c.read_fstab.ensures.reads) _
