use Rattle.std.proofs.Common.{Option, subst, ◌∙◌}
use Rattle.host_trait.proofs.Readings.{read_handed, read_ok, read_then, told_read}
use Rattle.owed_plan.specs.Systems.{AreOldDefs}
use Rattle.switch_names.specs.Names.{Name}
use Rattle.unit_defs.specs.Taken.{NotesLong}
use Rattle.unit_stage.specs.System.{takes_old}
use Rattle.unit_stage.proofs.known.read_old.Goals as goal

pub returns-in_err-defs-clause-reads : goal.returns-in_err-defs-clause-reads
returns-in_err-defs-clause-reads g c = read_handed (read_then c.current_system.ensures.reads c.in_err-defs.ensures.reads) _ c.from_residual-in_err-defs.ensures.1

pub returns-clause-reads : goal.returns-clause-reads
returns-clause-reads g c = read_ok (read_then c.current_system.ensures.reads c.read_old_defs.ensures.reads) _

pub returns-clause-short : goal.returns-clause-short
returns-clause-short g c = record {
  has = λ w is.
      subst (λ (system : Option Name). NotesLong c.args.long.now c.read_old_defs.new.long (takes_old w.leaves system) w.leaves)
      (c.as_ref.ensures.value ∙ c.in_ok-name.ensures.system.has w is) ((told_read c.current_system.ensures.reads c.in_ok-defs.ensures.short).has w is);
}

pub returns-clause-old : goal.returns-clause-old
returns-clause-old g c = record {
  has = λ w is.
      let name = c.in_ok-name.ensures.system.has w is in
      record {
        name = name;
        defs = subst (λ (system : Option Name). AreOldDefs w.leaves system c.in_ok-defs.defs) (c.as_ref.ensures.value ∙ name)
            ((told_read c.current_system.ensures.reads c.in_ok-defs.ensures.defs).has w is);
      };
}
